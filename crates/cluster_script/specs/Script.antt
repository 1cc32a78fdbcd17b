-- What a script prints: its lines are played on one world, one after the other.
use Rattle.std.specs.Prelude.{ℕ, ◌⊎◌, Bool, true, false, is_some, is_none, unwrap_or, ◌≡◌, ◌≤◌, ◌<◌, bytes_eq, codes, fold, map, List, [], ◌∷◌, ◌++◌, if◌then◌else◌, Option, Some, None, Result, Ok, Err}
use Rattle.std.specs.List.{list_all}
use Rattle.std.specs.Io.KnownBytes.{Appends}
use Rattle.protocol_model.specs.Event.{Answer}
use Rattle.protocol_model.specs.World.{all_answers}
use Rattle.protocol_model.specs.NamedEvents.{NamedEvent, NamedLine, Settle, Said, Settled}
use Rattle.term.specs.declared.faults.TextFault.{TextFault}
use Rattle.term.specs.Spelling.{SpellsNodeName, RefusesText}
use Rattle.cluster_world.specs.NodeNames.{NamedOpening, opening_of}
use Rattle.cluster_world.specs.NamedWorld.{NamedWorld, opening_named, run_named, plain_events, as_events}
use Rattle.cluster_world.specs.NamedScript.{events_in, printed, next_named, named_deliveries_left}
use Rattle.cluster_world.specs.Openings.{named_opening}
use Rattle.cluster_world.specs.Finishing.{next_to_finish, finishing_left}
use Rattle.cluster_world.specs.Agreeing.{HeadlineAfter}
use Rattle.command_lines.specs.Openings.{start_refused}
use Rattle.command_lines.specs.declared.faults.LineFault.{LineFault}
use Rattle.command_lines.specs.declared.faults.LineFault.TheVariants.{BadLine, Text, Start, Memory}
use Rattle.text_lines.specs.declared.faults.StreamFault.{StreamFault}
use Rattle.text_lines.specs.declared.faults.StreamFault.TheVariants as stop
use Rattle.command_lines.specs.declared.StartFault.{StartFault}
use Rattle.text_lines.specs.Lines.{HasLines, spoken, count_of_all, LosesLines, LosesInto, HasNoLine, HasNoFeed, IsWithinLine, GoesPast}
use Rattle.term.specs.declared.limits.TheConstants.{MOST_LINES, SETTLE_LIMIT}
use Rattle.text_lines.specs.Words.{words}
use Rattle.text_lines.specs.Writing.{AppendsPart}
use Rattle.command_lines.specs.Commands.{unread, LineAsks}
use Rattle.command_lines.specs.Grammar.{Scripted, Finish}
use Rattle.command_lines.specs.Printing.{Shown, Shows, Refuses, Finished, shown_text, is_fine}
use Rattle.cluster_world.specs.LeftoversOfWorlds.{NothingIsLeft}
use Rattle.cluster_world.specs.WorldsOfNames.{of_names}

-- the most deliveries of one `settle`
unfoldable pub settle_limit : ℕ
settle_limit = SETTLE_LIMIT

-- what comes of a line that isn't empty: what it asks for is played; or it is refused, and nothing is played; or it is a
-- `settle` to which memory is refused behind so many of its deliveries; or it is a `finish`, of which so many events are played,
-- and where others come behind them memory is refused
pub data Outcome : Type 0 where
  Plays : (line : NamedLine) → Outcome
  Fails : (fault : LineFault) → Outcome
  Breaks : (made : ℕ) → Outcome
  Finishes : (made : ℕ) → Outcome

-- what may come of a line: for any line memory may be refused, whatever it asks for
abbrev pub ComesTo : List ℕ → Outcome → Type 0
ComesTo line (Plays l) = LineAsks line (Ok (Scripted l))
ComesTo line (Fails f) = LineAsks line (Err f) ⊎ (f ≡ Memory)
ComesTo line (Breaks made) = LineAsks line (Ok (Scripted Settle)) × (made < settle_limit)
ComesTo line (Finishes made) = LineAsks line (Ok Finish)

-- what may come of these lines, of each by itself
abbrev pub AllComeTo : List (List ℕ) → List Outcome → Type 0
AllComeTo [] [] = Unit {0}
AllComeTo (l ∷ ls) (x ∷ outcomes) = ComesTo l x × AllComeTo ls outcomes
AllComeTo _ _ = ⊥

-- the events of a line
abbrev pub events_by : NamedOpening → NamedWorld → Outcome → List NamedEvent
events_by o w (Plays l) = events_in o settle_limit w l
events_by o w (Fails f) = []
events_by o w (Breaks made) = named_deliveries_left o made w
events_by o w (Finishes made) = finishing_left o made w

-- the world behind a line
abbrev pub behind : NamedOpening → NamedWorld → Outcome → NamedWorld
behind o w x = run_named o w (events_by o w x)

-- what stands in the place of `settled` where memory is refused: a letter waits, whose delivery that was
abbrev pub broken : Option NamedEvent → Shown
broken None = Shows Settled
broken (Some e) = Refuses Memory

-- what stands behind the answers of a `finish`, by what comes next
abbrev pub ended : Option NamedEvent → Shown
ended None = Finished
ended (Some e) = Refuses Memory

-- all that is answered in these events, in order
abbrev pub given_in : NamedOpening → NamedWorld → List NamedEvent → List Answer
given_in o w es = all_answers (opening_of o) w.world (plain_events o w es)

-- what is printed for a line, whose events are es
abbrev pub shown_for : NamedOpening → NamedWorld → Outcome → List NamedEvent → List Shown
shown_for o w (Plays l) es = map Shows (printed o w l es)
shown_for o w (Fails f) es = Refuses f ∷ []
shown_for o w (Breaks made) es = map Shows (map Said (given_in o w es)) ++ broken (next_named o (run_named o w es)) ∷ []
shown_for o w (Finishes made) es = map Shows (map Said (given_in o w es)) ++ ended (next_to_finish o (run_named o w es)) ∷ []

abbrev pub shown : NamedOpening → NamedWorld → Outcome → List Shown
shown o w x = shown_for o w x (events_by o w x)

-- the world behind these lines
abbrev pub behind_all : NamedOpening → NamedWorld → List Outcome → NamedWorld
behind_all o w outcomes = fold (behind o) w outcomes

-- the events of these lines
abbrev pub events_by_all : NamedOpening → NamedWorld → List Outcome → List NamedEvent
events_by_all o w [] = []
events_by_all o w (x ∷ outcomes) = events_by o w x ++ events_by_all o (behind o w x) outcomes

-- what is printed for these lines
abbrev pub shown_all : NamedOpening → NamedWorld → List Outcome → List Shown
shown_all o w [] = []
shown_all o w (x ∷ outcomes) = shown o w x ++ shown_all o (behind o w x) outcomes

-- the fault, or else what is made of the value
abbrev pub made_of : {A B E : Type 0} → (A → B) → Result A E → Result B E
made_of f (Ok a) = Ok (f a)
made_of f (Err e) = Err e

-- the texts behind this word, where words begin with it
abbrev pub texts_behind : List ℕ → List (List ℕ) → Option (List (List ℕ))
texts_behind word [] = None
texts_behind word (w ∷ texts) = if bytes_eq w word then Some texts else None

-- these texts spell these nodes
abbrev pub AllSpell : List (List ℕ) → List ℕ → Type 0
AllSpell [] [] = Unit {0}
AllSpell (t ∷ ts) (n ∷ nodes) = SpellsNodeName t n × AllSpell ts nodes
AllSpell _ _ = ⊥

-- the nodes that these texts spell, or the fault of the first that spells none
abbrev pub ReadsTexts : List (List ℕ) → Result (List ℕ) TextFault → Type 0
ReadsTexts texts (Ok nodes) = AllSpell texts nodes
ReadsTexts texts (Err f) = (before : List (List ℕ)) × (nodes : List ℕ) × (bad : List ℕ) × (after : List (List ℕ))
    × (texts ≡ before ++ bad ∷ after) × AllSpell before nodes × RefusesText bad f

-- these nodes, or why no world has them
abbrev pub unless_refused : List ℕ → Option StartFault → Result (List ℕ) LineFault
unless_refused nodes None = Ok nodes
unless_refused nodes (Some f) = Err (Start f)

-- the nodes of a header: a text that spells none is refused before nodes that no world has
abbrev pub judged : (List ℕ → Option StartFault) → Result (List ℕ) TextFault → Result (List ℕ) LineFault
judged refused (Ok nodes) = unless_refused nodes (refused nodes)
judged refused (Err f) = Err (Text f)

-- the nodes that the texts of a header name, or why it is refused
abbrev pub Names : (List ℕ → Option StartFault) → List (List ℕ) → Result (List ℕ) LineFault → Type 0
Names refused texts r = (nodes : Result (List ℕ) TextFault) × ReadsTexts texts nodes × (r ≡ judged refused nodes)

-- the nodes that the texts of the `cluster` line name; no node is lone yet
abbrev pub OpensIn : Option (List (List ℕ)) → Result (List ℕ) LineFault → Type 0
OpensIn None r = r ≡ Err BadLine
OpensIn (Some texts) r = Names (λ cluster. start_refused cluster []) texts r

abbrev pub OpensUnless : Option LineFault → List ℕ → Result (List ℕ) LineFault → Type 0
OpensUnless (Some f) line r = r ≡ Err f
OpensUnless None line r = OpensIn (texts_behind (codes "cluster") (words line)) r

-- the nodes of the cluster that the first line opens, or why it is refused; memory may be refused for it, whatever it names
abbrev pub LineOpens : List ℕ → Result (List ℕ) LineFault → Type 0
LineOpens line (Ok nodes) = OpensUnless (unread line) line (Ok nodes)
LineOpens line (Err f) = OpensUnless (unread line) line (Err f) ⊎ (f ≡ Memory)

-- the texts of a `lone` line, where this is one; a line that can't be read is none
abbrev pub lone_line : List ℕ → Option (List (List ℕ))
lone_line line = if is_none (unread line) then texts_behind (codes "lone") (words line) else None

-- the first line behind the `cluster` line may be a `lone` line, with these texts
abbrev pub lone_texts : List (List ℕ) → List (List ℕ)
lone_texts [] = []
lone_texts (l ∷ ls) = unwrap_or (lone_line l) []

-- the first line behind the `cluster` line is a `lone` line
abbrev pub is_lone : List (List ℕ) → Bool
is_lone [] = false
is_lone (l ∷ ls) = is_some (lone_line l)

-- the lines that are played
abbrev pub played : List (List ℕ) → List (List ℕ)
played [] = []
played (l ∷ ls) = if is_some (lone_line l) then ls else l ∷ ls

-- the lone nodes that the lines behind the `cluster` line name, or why they are refused beside this cluster; memory may be
-- refused for a `lone` line, whatever it names
abbrev pub LoneOpens : List ℕ → List (List ℕ) → Result (List ℕ) LineFault → Type 0
LoneOpens cluster ls (Ok lone) = Names (λ lone. start_refused cluster lone) (lone_texts ls) (Ok lone)
LoneOpens cluster ls (Err f) = Names (λ lone. start_refused cluster lone) (lone_texts ls) (Err f)
    ⊎ ((is_lone ls ≡ true) × (f ≡ Memory))

-- a world of the names of a cluster, whose first nodes are all joined with each other, and of lone ones, each joined with no other
abbrev pub opening_for : List ℕ → List ℕ → NamedOpening
opening_for cluster lone = named_opening (cluster ++ lone) cluster

-- how the world opens of this cluster and the lone nodes that these lines name, or why there is none
abbrev pub OpensBehind : Result (List ℕ) LineFault → List (List ℕ) → Result NamedOpening LineFault → Type 0
OpensBehind (Err f) ls r = r ≡ Err f
OpensBehind (Ok cluster) ls r = (lone : Result (List ℕ) LineFault) × LoneOpens cluster ls lone
    × (r ≡ made_of (opening_for cluster) lone)

-- how the world opens of a `cluster` line and of what the lines behind it name, or why there is none
abbrev pub Opens : List ℕ → List (List ℕ) → Result NamedOpening LineFault → Type 0
Opens l ls r = (cluster : Result (List ℕ) LineFault) × LineOpens l cluster × OpensBehind cluster ls r

-- the headline holds behind the events of these lines, of which the world that is left is made
abbrev pub LinesAgree : NamedOpening → List Outcome → Type 0
LinesAgree o outcomes = HeadlineAfter (opening_of o) (as_events o (events_by_all o (opening_named o) outcomes))
    (behind_all o (opening_named o) outcomes).world

-- and nothing is left over there
abbrev pub LinesLeaveNothing : NamedOpening → List Outcome → Type 0
LinesLeaveNothing o outcomes = NothingIsLeft (of_names o) (events_by_all o (opening_named o) outcomes)
    (behind_all o (opening_named o) outcomes)

-- the lines behind the headers are played on a world that opened so, behind which the headline holds and nothing is left
-- over; if there is none, nothing is
abbrev pub Follows : Result NamedOpening LineFault → List (List ℕ) → List Shown → Type 0
Follows (Err f) ls out = out ≡ Refuses f ∷ []
Follows (Ok o) ls out = (outcomes : List Outcome) × AllComeTo ls outcomes
    × (out ≡ shown_all o (opening_named o) outcomes) × LinesAgree o outcomes × LinesLeaveNothing o outcomes

-- what is printed for lines of which none is empty: without a first line there is none that opens a world
abbrev pub PrintsSpoken : List (List ℕ) → List Shown → Type 0
PrintsSpoken [] out = out ≡ Refuses BadLine ∷ []
PrintsSpoken (l ∷ ls) out = (opened : Result NamedOpening LineFault) × Opens l ls opened × Follows opened (played ls) out

-- what is printed for lines
abbrev pub Prints : List (List ℕ) → List Shown → Type 0
Prints ls out = PrintsSpoken (spoken ls) out

-- the last of these lines is the first header that is refused
abbrev pub EndsRefused : List (List ℕ) → LineFault → Type 0
EndsRefused (l ∷ []) f = LineOpens l (Err f)
EndsRefused (l ∷ m ∷ []) f = (cluster : List ℕ) × LineOpens l (Ok cluster) × LoneOpens cluster (m ∷ []) (Err f)
EndsRefused _ f = ⊥

-- A script of this input was played to its end, and this is left of it
pub record Ran (input rest : Option (List ℕ)) (old new : Option (List ℕ)) (fine : Bool) : Type 0 where
  pub all : List (List ℕ)
  pub out : List Shown
  pub read : HasLines input all
  pub prints : Prints all out
  -- the lines that the input lost, which count for no more than there may be: all, or up to a header that is refused
  pub taken : List (List ℕ)
  pub untaken : List (List ℕ)
  pub parts : all ≡ taken ++ untaken
  pub lost : LosesLines input rest taken
  pub counted : count_of_all taken ≤ MOST_LINES
  pub ended : (untaken ≡ []) ⊎ ((f : LineFault) × EndsRefused (spoken taken) f)
  pub wrote : Appends old new (shown_text out)
  pub fine_is : fine ≡ list_all is_fine out

-- what is printed for lines, where others are played behind them: nothing before the one that opens a world
abbrev pub PrintsOn : List (List ℕ) → List Shown → Type 0
PrintsOn [] out = out ≡ []
PrintsOn (l ∷ ls) out = (o : NamedOpening) × Opens l ls (Ok o) × Follows (Ok o) (played ls) out

-- why there is no world behind these lines, where this is left: no line is left to open one, or the last is refused
abbrev pub OpensNone : List (List ℕ) → Option (List ℕ) → LineFault → Type 0
OpensNone [] rest f = HasNoLine rest × (f ≡ BadLine)
OpensNone ls rest f = EndsRefused ls f

-- all that is printed is that there is no world, and nothing of a further line was read
abbrev pub PrintsNoWorld : List (List ℕ) → Option (List ℕ) → List ℕ → List Shown → Type 0
PrintsNoWorld ls rest part out = (f : LineFault) × OpensNone ls rest f × (part ≡ []) × (out ≡ Refuses f ∷ [])

-- A script ended between two lines; its input lost the first ones and a part of the next: all they print is written
pub record StoppedBetween (input rest old new : Option (List ℕ)) : Type 0 where
  pub first : List (List ℕ)
  pub part : List ℕ
  pub out : List Shown
  pub read : LosesInto input rest first part
  pub prints : PrintsOn (spoken first) out
  pub wrote : Appends old new (shown_text out)

-- A script ended within a line; its input lost the first ones and a part of the next: a part they print is written
pub record StoppedWithin (input rest old new : Option (List ℕ)) : Type 0 where
  pub first : List (List ℕ)
  pub part : List ℕ
  pub out : List Shown
  pub read : LosesInto input rest first part
  pub prints : PrintsOn (spoken first) out ⊎ PrintsNoWorld (spoken first) rest part out
  pub wrote : AppendsPart old new (shown_text out)

-- A script of this input ended with a fault: with too many lines, where the next one takes the count past the most
abbrev pub Stopped : Option (List ℕ) → Option (List ℕ) → Option (List ℕ) → Option (List ℕ) → StreamFault → Type 0
Stopped input rest old new stop.TooManyLines = (s : StoppedBetween input rest old new) × IsWithinLine s.part
    × GoesPast input MOST_LINES s.first
Stopped input rest old new stop.Read = (s : StoppedBetween input rest old new) × HasNoFeed s.part
Stopped input rest old new stop.Write = (s : StoppedWithin input rest old new) × HasNoFeed s.part
Stopped input rest old new stop.Memory = (s : StoppedWithin input rest old new) × IsWithinLine s.part

-- where a script of known bytes is played to its end, it has no line that takes the count past the most, unless memory was
-- refused for a header
abbrev pub EndsOneWay : Type 0
EndsOneWay = (input : List ℕ) (r s a b c d : Option (List ℕ)) (fine : Bool) → (ran : Ran (Some input) r a b fine)
    → Stopped (Some input) s c d stop.TooManyLines → EndsRefused (spoken ran.taken) Memory
