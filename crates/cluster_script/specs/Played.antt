-- What it comes to that the program plays a line, or reads on to the next one.
use Rattle.std.specs.Prelude.{ℕ, false, Bool, ◌≡◌, ◌⊎◌, ◌+◌, ◌<◌, List, [], ◌∷◌, ◌++◌, Option, Some, None, is_some, map, MatchResult, Result, Ok, Err, if◌then◌else◌}
use Rattle.std.specs.List.{list_all}
use Rattle.std.specs.Io.KnownBytes.{Appends}
use Rattle.registry_model.specs.Process.{nodes_of}
use Rattle.protocol_model.specs.Event.{NoSuchNode, NodeLeft}
use Rattle.protocol_model.specs.NamedEvents.{NamedRefusal, Plain, Settle, NamedOutput, Settled, SettleLimit, TableIs, MembersAre}
use Rattle.term.specs.Nodes.{text_in}
use Rattle.command_lines.specs.declared.WorldEvent.{WorldEvent}
use Rattle.command_lines.specs.Events.{named_event}
use Rattle.cluster_world.specs.WorldState.{WorldState}
use Rattle.cluster_world.specs.NodeNames.{is_name, opening_of}
use Rattle.cluster_world.specs.NamedWorld.{present_node}
use Rattle.cluster_world.specs.NamedScript.{okay, shown_at}
use Rattle.cluster_world.specs.Seen.{names_of, named}
use Rattle.cluster_world.specs.Playing.{Played}
use Rattle.command_lines.specs.declared.Answer.{Answer}
use Rattle.command_lines.specs.declared.faults.LineFault.{LineFault}
use Rattle.command_lines.specs.declared.faults.LineFault.TheVariants.{Memory}
use Rattle.text_lines.specs.declared.faults.StreamFault.{StreamFault}
use Rattle.text_lines.specs.declared.faults.StreamFault.TheVariants.{Read, TooManyLines}
use Rattle.text_lines.specs.declared.faults.WriteFault.{WriteFault}
use Rattle.text_lines.specs.declared.lines.Line.{Line}
use Rattle.text_lines.specs.Lines.{spoken, count_of_all, IsKept, LosesLines, LosesInto, HasNoLine, MayEndIn, GoesPastFor}
use Rattle.command_lines.specs.Grammar.{ScriptLine, Scripted, Finish}
use Rattle.command_lines.specs.Printing.{Shows, shown_text, is_fine, is_fine_output, output_line, error_line, refusal_word, word_of}
use Rattle.text_lines.specs.Writing.{AppendsPart, Growth}
use Rattle.cluster_script.specs.Script.{Outcome, Plays, Fails, Breaks, Finishes, ComesTo, AllComeTo, settle_limit, behind, behind_all, shown, shown_all}

-- what is printed for a line on what is held
abbrev pub shown_on : WorldState → Outcome → List ℕ
shown_on h x = shown_text (shown (names_of h) (named h) x)

-- this came of a line, and what it prints was written
pub record PlaysLine (old new : WorldState) (x : Outcome) (before after : Option (List ℕ)) (fine : Bool) : Type 0 where
  pub opening : names_of new ≡ names_of old
  pub world : named new ≡ behind (names_of old) (named old) x
  pub wrote : Appends before after (shown_on old x)
  pub fine_is : fine ≡ list_all is_fine (shown (names_of old) (named old) x)

-- the same, or after a fault a part of what it prints was written
abbrev pub PlaysOrStops : WorldState → WorldState → Outcome → Option (List ℕ) → Option (List ℕ) → Result Bool WriteFault → Type 0
PlaysOrStops old new x before after (Ok fine) = PlaysLine old new x before after fine
PlaysOrStops old new x before after (Err f) = AppendsPart before after (shown_on old x)

-- what may come of what was read as this: memory may be refused for it
abbrev pub ComesOf : Result ScriptLine LineFault → Outcome → Type 0
ComesOf asked (Plays l) = asked ≡ Ok (Scripted l)
ComesOf asked (Fails f) = (asked ≡ Err f) ⊎ (f ≡ Memory)
ComesOf asked (Breaks made) = (asked ≡ Ok (Scripted Settle)) × (made < settle_limit)
ComesOf asked (Finishes made) = asked ≡ Ok Finish

-- and of what was read as these, of each by itself
abbrev pub AllComeOf : List (Result ScriptLine LineFault) → List Outcome → Type 0
AllComeOf [] [] = Unit {0}
AllComeOf (asked ∷ others) (x ∷ outcomes) = ComesOf asked x × AllComeOf others outcomes
AllComeOf _ _ = ⊥

-- what was read as this was played, or stopped at
abbrev pub PlaysAsked : Result ScriptLine LineFault → WorldState → WorldState → Option (List ℕ) → Option (List ℕ) → Result Bool WriteFault → Type 0
PlaysAsked asked old new before after r = (x : Outcome) × ComesOf asked x × PlaysOrStops old new x before after r

-- a line was read and played, or stopped at
abbrev pub PlaysRead : List ℕ → WorldState → WorldState → Option (List ℕ) → Option (List ℕ) → Result Bool WriteFault → Type 0
PlaysRead line old new before after r = (x : Outcome) × ComesTo line x × PlaysOrStops old new x before after r

-- what an accepted event prints before its answers
abbrev pub okay_text : WorldState → WorldEvent → List ℕ
okay_text h e = shown_text (map Shows (okay (names_of h) (named h) (named_event e)))

-- it was written, or after a fault a part of it, where the event made this world, of whatever it was before
abbrev pub WritesOkay : {A E : Type 0} → WorldState → Option (List ℕ) → Option (List ℕ) → Result A E → WorldEvent → Type 0
WritesOkay h old new r e = MatchResult r
    (λ _. (was : WorldState) → (given : List Answer) → Played e was h [] given → Appends old new (okay_text was e))
    (λ _. (was : WorldState) → (given : List Answer) → Played e was h [] given → AppendsPart old new (okay_text was e))

-- what is printed last for `settle`
abbrev pub settle_end : Bool → NamedOutput
settle_end settled = if settled then Settled else SettleLimit

-- the node of a name at present
abbrev pub node_at : WorldState → ℕ → ℕ
node_at h x = present_node (names_of h) (named h) (text_in x)

-- what a script shows of it: its table
abbrev pub table_of : WorldState → ℕ → NamedOutput
table_of h x = TableIs ((named h).world.node (node_at h x)).replica.table

-- and its members
abbrev pub members_of : WorldState → ℕ → NamedOutput
members_of h x = MembersAre (nodes_of (opening_of (names_of h)).bound ((named h).world.node (node_at h x)).replica.members)

-- why it isn't shown: it has left, or there is none
abbrev pub hidden_by : WorldState → ℕ → NamedRefusal
hidden_by h x = if is_name (names_of h) (text_in x) then Plain NodeLeft else Plain NoSuchNode

-- the line where there is one, or that refusal
abbrev pub line_or_refusal : WorldState → ℕ → Option (List ℕ) → List ℕ
line_or_refusal h x None = error_line (refusal_word (hidden_by h x))
line_or_refusal h x (Some line) = line

-- the same, or where memory was refused for it that
abbrev pub text_for : {E : Type 0} → WorldState → ℕ → Result (Option (List ℕ)) E → List ℕ
text_for h x (Ok line) = line_or_refusal h x line
text_for h x (Err f) = error_line (word_of Memory)

-- there is a line
abbrev pub has_line : {A E : Type 0} → Result (Option A) E → Bool
has_line (Ok line) = is_some line
has_line (Err f) = false

-- the line that shows this of the node of name x at present, or none where it isn't shown
pub record IsShown (h : WorldState) (x : ℕ) (output : NamedOutput) (line : Option (List ℕ)) : Type 0 where
  pub text : line_or_refusal h x line ≡ output_line (shown_at (names_of h) (named h) (text_in x) output)
  pub fine : is_some line ≡ is_fine_output (shown_at (names_of h) (named h) (text_in x) output)

-- the next line that isn't empty was read, or there was none
abbrev pub ReadsOn : Option (List ℕ) → Option (List ℕ) → ℕ → ℕ → Option Line → Type 0
ReadsOn old new most left None = (ls : List (List ℕ)) × (spoken ls ≡ []) × LosesLines old new ls × HasNoLine new × (most ≡ left + count_of_all ls)
ReadsOn old new most left (Some kept) = (ls : List (List ℕ)) × (line : List ℕ) × IsKept line kept × (spoken ls ≡ line ∷ []) × LosesLines old new ls
    × (most ≡ left + count_of_all ls)

-- no further line is read: empty ones are lost, and a part of the next
abbrev pub StopsReading : Option (List ℕ) → Option (List ℕ) → ℕ → StreamFault → Type 0
StopsReading input rest most f = (ls : List (List ℕ)) × (part : List ℕ) × (spoken ls ≡ [])
    × LosesInto input rest ls part × MayEndIn f part × GoesPastFor f input most ls

-- this came of what was read already, and then lines were read and played
pub record PlaysLines (first : List Outcome) (input rest : Option (List ℕ)) (most left : ℕ) (old new : WorldState)
    (before after : Option (List ℕ)) (fine : Bool) : Type 0 where
  pub taken : List (List ℕ)
  pub outcomes : List Outcome
  pub read : LosesLines input rest taken
  pub counted : most ≡ left + count_of_all taken
  pub each : AllComeTo (spoken taken) outcomes
  pub opening : names_of new ≡ names_of old
  pub world : named new ≡ behind_all (names_of old) (named old) (first ++ outcomes)
  pub wrote : Appends before after (shown_text (shown_all (names_of old) (named old) (first ++ outcomes)))
  pub fine_is : fine ≡ list_all is_fine (shown_all (names_of old) (named old) (first ++ outcomes))

-- This came of what was read already, and some first lines were lost and played; what they print was written, or a part of
-- it; of the next line a part was lost
pub record PlaysSome (Grows : Growth) (first : List Outcome) (input rest : Option (List ℕ)) (old : WorldState)
    (before after : Option (List ℕ)) : Type 0 where
  pub taken : List (List ℕ)
  pub part : List ℕ
  pub outcomes : List Outcome
  pub read : LosesInto input rest taken part
  pub each : AllComeTo (spoken taken) outcomes
  pub wrote : Grows before after (shown_text (shown_all (names_of old) (named old) (first ++ outcomes)))

-- only some first lines were played: all is written that they print, unless it is the writer or memory that failed
abbrev pub StopsPlaying : List Outcome → Option (List ℕ) → Option (List ℕ) → ℕ → WorldState → Option (List ℕ)
    → Option (List ℕ) → StreamFault → Type 0
StopsPlaying first input rest most old before after TooManyLines =
    (s : PlaysSome Appends first input rest old before after) × MayEndIn TooManyLines s.part
    × GoesPastFor TooManyLines input most s.taken
StopsPlaying first input rest most old before after Read =
    (s : PlaysSome Appends first input rest old before after) × MayEndIn Read s.part
StopsPlaying first input rest most old before after f =
    (s : PlaysSome AppendsPart first input rest old before after) × MayEndIn f s.part

-- lines were played, and what they print was written; or after a fault some first lines were
abbrev pub PlaysAll : List Outcome → Option (List ℕ) → Option (List ℕ) → ℕ → ℕ → WorldState → WorldState
    → Option (List ℕ) → Option (List ℕ) → Result Bool StreamFault → Type 0
PlaysAll first input rest most left old new before after (Ok fine) =
    PlaysLines first input rest most left old new before after fine × HasNoLine rest
PlaysAll first input rest most left old new before after (Err f) = StopsPlaying first input rest most old before after f

-- the same, where something was read already as this
abbrev pub PlaysBehind : List (Result ScriptLine LineFault) → Option (List ℕ) → Option (List ℕ) → ℕ → ℕ → WorldState → WorldState
    → Option (List ℕ) → Option (List ℕ) → Result Bool StreamFault → Type 0
PlaysBehind asked input rest most left old new before after r = (first : List Outcome) × AllComeOf asked first
    × PlaysAll first input rest most left old new before after r
