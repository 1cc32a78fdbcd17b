-- What it comes to that the headers of a script are read.
use Rattle.std.specs.Prelude.{ℕ, ◌≡◌, ◌⊎◌, ◌+◌, List, [], ◌∷◌, map, option_to_list, Option, Some, None, Result, Ok, Err}
use Rattle.term.specs.declared.faults.TextFault.{TextFault}
use Rattle.cluster_world.specs.WorldState.{WorldState}
use Rattle.cluster_world.specs.NodeNames.{NamedOpening}
use Rattle.cluster_world.specs.NamedWorld.{opening_named}
use Rattle.cluster_world.specs.Seen.{names_of, named}
use Rattle.command_lines.specs.Openings.{start_refused}
use Rattle.command_lines.specs.declared.StartFault.{StartFault}
use Rattle.command_lines.specs.declared.faults.LineFault.{LineFault}
use Rattle.command_lines.specs.declared.faults.LineFault.TheVariants.{Text, Start, Memory}
use Rattle.text_lines.specs.declared.faults.StreamFault.{StreamFault}
use Rattle.command_lines.specs.declared.grammar.LineCommand.{LineCommand}
use Rattle.command_lines.specs.Grammar.{ScriptLine}
use Rattle.command_lines.specs.Commands.{LineAsks, asked_by}
use Rattle.text_lines.specs.Lines.{spoken, count_of_all, LosesLines, LosesInto, HasNoLine, MayEndIn, GoesPastFor}
use Rattle.cluster_script.specs.Script.{ReadsTexts, LineOpens, LoneOpens, PrintsSpoken, PrintsOn, OpensNone, opening_for, played}
use Rattle.cluster_script.specs.declared.header.Cluster.{Cluster}
use Rattle.cluster_script.specs.declared.header.Headers.{Headers}
use Rattle.cluster_script.specs.declared.header.Headers.TheVariants.{Open, Ended, Refused}

-- the nodes that texts spell, or the fault of the first that spells none; or memory was refused
abbrev pub ReadsNodes : List (List ℕ) → Result (List ℕ) LineFault → Type 0
ReadsNodes texts (Ok nodes) = ReadsTexts texts (Ok nodes)
ReadsNodes texts (Err f) = ((g : TextFault) × ReadsTexts texts (Err g) × (f ≡ Text g)) ⊎ (f ≡ Memory)

-- what the texts of a header come to, and nothing where there are none
abbrev pub ReadsHeader : Option (List (List ℕ)) → Option (Result (List ℕ) LineFault) → Type 0
ReadsHeader None None = Unit {0}
ReadsHeader (Some texts) (Some nodes) = ReadsNodes texts nodes
ReadsHeader _ _ = ⊥

-- a world stands as at its opening
abbrev pub StandsAt : NamedOpening → WorldState → Type 0
StandsAt o world = (names_of world ≡ o) × (named world ≡ opening_named o)

-- a world of these nodes was started, or why it wasn't; or memory was refused
abbrev pub Starts : List ℕ → List ℕ → Result WorldState LineFault → Type 0
Starts cluster lone (Ok world) = (start_refused cluster lone ≡ None) × StandsAt (opening_for cluster lone) world
Starts cluster lone (Err f) = ((g : StartFault) × (start_refused cluster lone ≡ Some g) × (f ≡ Start g)) ⊎ (f ≡ Memory)

-- the same, where the lone nodes were named so
abbrev pub StartsBeside : List ℕ → Result (List ℕ) LineFault → Result WorldState LineFault → Type 0
StartsBeside cluster (Ok lone) r = Starts cluster lone r
StartsBeside cluster (Err f) r = r ≡ Err f

-- a cluster of these nodes was started, or why it wasn't
abbrev pub StartsCluster : List ℕ → Result Cluster LineFault → Type 0
StartsCluster nodes (Ok c) = (c.nodes.items ≡ nodes) × Starts nodes [] (Ok c.world)
StartsCluster nodes (Err f) = Starts nodes [] (Err f)

-- the first line opened this cluster, whose world has no lone nodes yet, or why it opens none
abbrev pub OpensCluster : List ℕ → Result Cluster LineFault → Type 0
OpensCluster line (Ok c) = LineOpens line (Ok c.nodes.items) × Starts c.nodes.items [] (Ok c.world)
OpensCluster line (Err f) = LineOpens line (Err f)

-- what each of these lines was read as, unless memory was refused for it
abbrev pub AllReadAs : List (List ℕ) → List (Result ScriptLine LineFault) → Type 0
AllReadAs [] [] = Unit {0}
AllReadAs (l ∷ ls) (asked ∷ others) = (LineAsks l asked ⊎ (asked ≡ Err Memory)) × AllReadAs ls others
AllReadAs _ _ = ⊥

-- what was read already, as what the first line that is played asks for
abbrev pub asked_first : Option (Result LineCommand LineFault) → List (Result ScriptLine LineFault)
asked_first first = map asked_by (option_to_list first)

-- what was made of the line behind the `cluster` line
abbrev pub OpensLone : List ℕ → List ℕ → Headers → Type 0
OpensLone cluster line (Open world first) = (lone : List ℕ) × LoneOpens cluster (line ∷ []) (Ok lone)
    × StandsAt (opening_for cluster lone) world × AllReadAs (played (line ∷ [])) (asked_first first)
OpensLone cluster line Ended = ⊥
OpensLone cluster line (Refused f) = LoneOpens cluster (line ∷ []) (Err f)

-- what was made of the first lines that were read, where this is left
abbrev pub OpensHeaders : List (List ℕ) → Option (List ℕ) → Headers → Type 0
OpensHeaders ls rest (Refused f) = OpensNone ls rest f
OpensHeaders ls rest Ended = HasNoLine rest × PrintsSpoken ls []
OpensHeaders (l ∷ m ∷ []) rest (Open world first) = (cluster : List ℕ) × LineOpens l (Ok cluster)
    × OpensLone cluster m (Open world first)
OpensHeaders _ rest (Open world first) = ⊥

-- the first lines were read
abbrev pub ReadsHeaders : Option (List ℕ) → Option (List ℕ) → ℕ → ℕ → Headers → Type 0
ReadsHeaders input rest most left headers = (ls : List (List ℕ)) × LosesLines input rest ls
    × (most ≡ left + count_of_all ls) × OpensHeaders (spoken ls) rest headers

-- no further line is read: lines that print nothing are lost, and a part of the next
abbrev pub StopsOpening : Option (List ℕ) → Option (List ℕ) → ℕ → StreamFault → Type 0
StopsOpening input rest most f = (ls : List (List ℕ)) × (part : List ℕ) × PrintsOn (spoken ls) []
    × LosesInto input rest ls part × MayEndIn f part × GoesPastFor f input most ls

-- the line behind the `cluster` line was read, or there is none
abbrev pub ReadsLone : List ℕ → Option (List ℕ) → Option (List ℕ) → ℕ → ℕ → Headers → Type 0
ReadsLone cluster input rest most left Ended = (ls : List (List ℕ)) × LosesLines input rest ls
    × (most ≡ left + count_of_all ls) × (spoken ls ≡ []) × HasNoLine rest
ReadsLone cluster input rest most left headers = (ls : List (List ℕ)) × (line : List ℕ) × LosesLines input rest ls
    × (most ≡ left + count_of_all ls) × (spoken ls ≡ line ∷ []) × OpensLone cluster line headers
