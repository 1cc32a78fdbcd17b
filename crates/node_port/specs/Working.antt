-- What the functions do that play a line at a node.
use Rattle.std.specs.Prelude.{ℕ, true, false, ◌≡◌, ◌≢◌, ◌⊎◌, map, flat_map, string_bytes, codes, Bool, List, [], ◌∷◌, ◌++◌, Option, Some, None, Result, Ok, Err, if◌then◌else◌}
use Rattle.std.specs.List.{list_all}
use Rattle.term.specs.Nodes.{creation_of}
use Rattle.std.specs.Io.KnownBytes.{Appends, Consumes, Keeps}
use Rattle.letter_lines.specs.declared.faults.LetterFault.TheVariants as letter
use Rattle.text_lines.specs.declared.lines.Line.{Line}
use Rattle.text_lines.specs.Lines.{IsKept, LosesLines, LosesInto, LosesWithinLine, HasNoLine}
use Rattle.text_lines.specs.Writing.{AppendsPart}
use Rattle.text_lines.specs.declared.faults.StreamFault.{StreamFault}
use Rattle.node_loop.specs.declared.fault.TurnFault.TheVariants.{StampsSpent, Memory}
use Rattle.node_loop.specs.Held.{Looping}
use Rattle.node_loop.specs.Steps.{Outcome}
use Rattle.wire_end.specs.declared.faults.HearFault.{HearFault}
use Rattle.wire_end.specs.declared.faults.HearFault.TheVariants.{NoSuchNode, Gap, Stray, Part}
use Rattle.node_port.specs.Commands.{Taken, is_done}
use Rattle.node_port.specs.Deeds.{Stand, Deed, DoesAll, BreaksOff, IsAllTold, changes_by, replies_by, all_go_on, is_still}
use Rattle.node_port.specs.Edits.{Changed, changed_lines}
use Rattle.node_port.specs.Playing.{Gives, Printed, PlaysLine, PlaysAll, EndsFor, said, spent, printed_text}
use Rattle.node_port.specs.Beginnings.{IsBeginning}
use Rattle.node_port.specs.Ran.{Ends, Opens, Founds, Behind, Plainly, IsPlain, first_text, opened_so}
use Rattle.node_port.specs.Shown.{Shown, Tells, Gaps, Strays, Misses, Spends, line_fault_of, shown_lines}
use Rattle.node_port.specs.Shown as shown
use Rattle.node_port.specs.declared.output.Output.{Output}
use Rattle.node_port.specs.declared.port.Port.{Port}
use Rattle.node_port.specs.declared.port.Standing.{Standing}
use Rattle.node_port.specs.declared.port.Standing.TheVariants.{Runs, HasLeft, Broken, Spent}

abbrev pub stand_of : Port → Stand
stand_of a = record { loop = a.node; end = a.end }

-- so much more is to be printed
pub record Grows (changes : List Changed) (answers : List Shown) (a b : Output) : Type 0 where
  pub changes_are : string_bytes b.changes ≡ string_bytes a.changes ++ shown_lines (changed_lines changes)
  pub answers_are : string_bytes b.answers ≡ string_bytes a.answers ++ shown_lines answers

-- nothing is to be printed
abbrev pub IsEmpty : Output → Type 0
IsEmpty a = (string_bytes a.changes ≡ []) × (string_bytes a.answers ≡ [])

-- a node does this, and it is to be printed
pub record Works (deeds : List Deed) (a b : Port) : Type 0 where
  pub does : DoesAll deeds (stand_of a) (stand_of b)
  pub grows : Grows (changes_by deeds) (map Tells (replies_by deeds)) a.output b.output
  pub told : IsAllTold a.node → IsAllTold b.node

-- what its last turn did is shown, and owed no more
pub record ShowsAll (a b : Port) : Type 0 where
  pub deeds : List Deed
  pub works : Works deeds a b
  pub still : list_all is_still deeds ≡ true
  pub all : IsAllTold b.node

-- replies are handed out, or it is shown how the node stands
abbrev pub ShowsStill : Port → Port → Type 0
ShowsStill a b = (deeds : List Deed) × Works deeds a b × (list_all is_still deeds ≡ true)

-- each turn of what a node does is made
abbrev pub GoesOn : Port → Port → Type 0
GoesOn a b = (deeds : List Deed) × Works deeds a b × (all_go_on deeds ≡ true)

-- turns, with what they come to; of one for which memory is refused nothing is said
abbrev pub ComesTo : Outcome → Port → Port → Type 0
ComesTo (Ok _) a b = GoesOn a b
ComesTo (Err StampsSpent) a b = (deeds : List Deed) × Works deeds a b × BreaksOff deeds
ComesTo (Err Memory) a b = Unit {0}

-- how the node stands behind them: that no stamp is left is to be printed
abbrev pub stands_behind : Bool → Standing
stands_behind left = if left then HasLeft else Runs

abbrev pub Concludes : Outcome → Standing → Port → Port → Type 0
Concludes (Ok _) standing a b = (standing ≡ stands_behind a.node.left) × (b ≡ a)
Concludes (Err StampsSpent) standing a b =
    (standing ≡ Spent) × (stand_of b ≡ stand_of a) × Grows [] (Spends ∷ []) a.output b.output
Concludes (Err Memory) standing a b = ⊥

-- how a node ends its turns: it runs or has left, or no stamp is left
abbrev pub EndsIn : Standing → List Deed → Looping → Type 0
EndsIn Runs deeds loop = all_go_on deeds ≡ true
EndsIn HasLeft deeds loop = (all_go_on deeds ≡ true) × (loop.left ≡ true)
EndsIn Broken deeds loop = ⊥
EndsIn Spent deeds loop = BreaksOff deeds

-- a node turns as long as it has to, and that is to be printed
pub record Settles (standing : Standing) (a b : Port) : Type 0 where
  pub deeds : List Deed
  pub does : DoesAll deeds (stand_of a) (stand_of b)
  pub ends : EndsIn standing deeds b.node
  pub told : IsAllTold a.node → IsAllTold b.node
  pub grows : Grows (changes_by deeds) (map Tells (replies_by deeds) ++ spent standing) a.output b.output

-- a line of a link, or the word that a node is gone, isn't taken for this fault, and the node says so; where memory was refused it ends
abbrev pub RefusesFor : HearFault → ℕ → ℕ → Standing → Port → Port → Type 0
RefusesFor Gap from number standing a b = (standing ≡ Broken) × Grows [] (Gaps from number ∷ []) a.output b.output
RefusesFor Stray from number standing a b = (standing ≡ Runs) × Grows [] (Strays ∷ []) a.output b.output
RefusesFor NoSuchNode from number standing a b = (standing ≡ Runs) × Grows [] (Misses ∷ []) a.output b.output
RefusesFor (Part f) from number standing a b =
    (standing ≡ Runs) × (f ≢ letter.Memory) × Grows [] (shown.Refuses None (line_fault_of f) ∷ []) a.output b.output

-- a line is done at a node, or refused, and that is to be printed, and this behind it
pub record PlaysAt (taken : Taken) (standing : Standing) (more : List Shown) (a b : Port) : Type 0 where
  pub first : Stand
  pub gives : Gives taken (stand_of a) first
  pub deeds : List Deed
  pub does : DoesAll deeds first (stand_of b)
  pub done : is_done taken ≡ false → deeds ≡ []
  pub ends : EndsFor standing taken deeds b.node
  pub told : IsAllTold a.node → IsAllTold b.node
  pub grows : Grows (changes_by deeds) (map Tells (replies_by deeds) ++ (said taken a.node ++ more)) a.output b.output

-- lines of the input are played from where a node stands, and what comes of them is printed
pub record PlaysOn (a : Stand) (input rest old new : Option (List ℕ)) (standing : Standing) (b : Stand) : Type 0 where
  pub lines : List (List ℕ)
  pub lost : LosesLines input rest lines
  pub out : List Printed
  pub plays : PlaysAll lines standing a out b
  pub wrote : Appends old new (flat_map printed_text out)

-- until they end or the node does
abbrev pub PlaysTo : Stand → Option (List ℕ) → Option (List ℕ) → Option (List ℕ) → Option (List ℕ) → Stand → Bool → Type 0
PlaysTo a input rest old new b in_order = (standing : Standing) × PlaysOn a input rest old new standing b × Ends in_order rest standing

-- behind the first line a node goes on only where it runs
abbrev pub GoesBehind : Standing → Bool → Stand → Option (List ℕ) → Option (List ℕ) → Option (List ℕ) → Option (List ℕ) → Stand → Type 0
GoesBehind Runs in_order a input rest old new b = PlaysTo a input rest old new b in_order
GoesBehind standing in_order a input rest old new b = LosesLines input rest [] × Keeps old new × (b ≡ a) × Ends in_order rest standing

-- some are, and a part is printed
pub record StopsOn (a : Stand) (input rest old new : Option (List ℕ)) : Type 0 where
  pub lines : List (List ℕ)
  pub part : List ℕ
  pub read : LosesInto input rest lines part
  pub out : List Printed
  pub standing : Standing
  pub stand : Stand
  pub plays : PlaysAll lines standing a out stand
  pub wrote : AppendsPart old new (flat_map printed_text out)

-- or behind the first line it stops, and a part is printed of what was played
abbrev pub StopsBehind : Standing → Stand → Option (List ℕ) → Option (List ℕ) → Option (List ℕ) → Option (List ℕ) → Type 0
StopsBehind Runs a input rest old new = StopsOn a input rest old new
StopsBehind standing a input rest old new = LosesLines input rest [] × Keeps old new

-- a line is played and printed; or it stops, and a part is printed of what it comes to, or nothing
pub record PrintsLine (bytes : List ℕ) (standing : Standing) (a b : Stand) (old new : Option (List ℕ)) : Type 0 where
  pub p : Printed
  pub plays : PlaysLine bytes standing a p b
  pub wrote : Appends old new (printed_text p)

pub record PrintsPart (bytes : List ℕ) (a : Stand) (old new : Option (List ℕ)) : Type 0 where
  pub standing : Standing
  pub stand : Stand
  pub p : Printed
  pub plays : PlaysLine bytes standing a p stand
  pub wrote : AppendsPart old new (printed_text p)

-- the first line opens a node of a world so: it founds its cluster, or tells who has left, or is the first that is done
abbrev pub OpenedBy : Opens → ℕ → List ℕ → List ℕ → Standing → Stand → Option (List ℕ) → Option (List ℕ) → Type 0
OpenedBy Founds node names bytes standing b old new = (bytes ≡ codes "founds") × (creation_of node ≡ 1)
    × (standing ≡ Runs) × (b ≡ opened_so node names Founds) × Appends old new (first_text Founds node)
OpenedBy (Behind beginning) node names bytes standing b old new =
    IsBeginning node names bytes beginning × (standing ≡ Runs) × (b ≡ opened_so node names (Behind beginning)) × Keeps old new
OpenedBy Plainly node names bytes standing b old new =
    IsPlain node names bytes × PrintsLine bytes standing (opened_so node names Plainly) b old new

-- a node that founds its cluster: how it stands is to be printed
pub record FoundsBy (node : ℕ) (names : List ℕ) (port : Port) : Type 0 where
  pub opened : stand_of port ≡ opened_so node names Founds
  pub changes_are : string_bytes port.output.changes ≡ first_text Founds node
  pub answers_are : string_bytes port.output.answers ≡ []

-- and where that was printed
abbrev pub HasFounded : ℕ → List ℕ → Option (List ℕ) → Option (List ℕ) → Result (Port × Standing) StreamFault → Type 0
HasFounded node names old new (Ok r) =
    (r.1 ≡ Runs) × (stand_of r.0 ≡ opened_so node names Founds) × IsEmpty r.0.output × Appends old new (first_text Founds node)
HasFounded node names old new (Err fault) = AppendsPart old new (first_text Founds node)

-- or it stops there
abbrev pub StoppedBy : Opens → ℕ → List ℕ → List ℕ → Option (List ℕ) → Option (List ℕ) → Type 0
StoppedBy Founds node names bytes old new = (bytes ≡ codes "founds") × (creation_of node ≡ 1) × AppendsPart old new (first_text Founds node)
StoppedBy (Behind beginning) node names bytes old new = Keeps old new
StoppedBy Plainly node names bytes old new =
    (IsPlain node names bytes × PrintsPart bytes (opened_so node names Plainly) old new) ⊎ Keeps old new

-- a node is opened by its first line, and goes on behind it
pub record RunsFrom (node : ℕ) (names bytes : List ℕ) (input rest old new : Option (List ℕ)) (in_order : Bool) : Type 0 where
  pub how : Opens
  pub standing : Standing
  pub first : Stand
  pub mid : Option (List ℕ)
  pub opens : OpenedBy how node names bytes standing first old mid
  pub last : Stand
  pub goes : GoesBehind standing in_order first input rest mid new last

-- or it stops behind it
pub record StopsPast (node : ℕ) (names bytes : List ℕ) (input rest old new : Option (List ℕ)) : Type 0 where
  pub how : Opens
  pub standing : Standing
  pub first : Stand
  pub mid : Option (List ℕ)
  pub opens : OpenedBy how node names bytes standing first old mid
  pub stops : StopsBehind standing first input rest mid new

-- or in it, before any other line is read
abbrev pub StopsFrom : ℕ → List ℕ → List ℕ → Option (List ℕ) → Option (List ℕ) → Option (List ℕ) → Option (List ℕ) → Type 0
StopsFrom node names bytes input rest old new =
    ((rest ≡ input) × (how : Opens) × StoppedBy how node names bytes old new) ⊎ StopsPast node names bytes input rest old new

-- the next line is read, or there is none
abbrev pub TakesNext : Option (List ℕ) → Option (List ℕ) → Option Line → Type 0
TakesNext old new None = LosesLines old new [] × HasNoLine new
TakesNext old new (Some kept) = (line : List ℕ) × IsKept line kept × LosesLines old new (line ∷ []) × LosesWithinLine old new

-- or a part of it is lost
abbrev pub StopsNext : Option (List ℕ) → Option (List ℕ) → Type 0
StopsNext old new = (part : List ℕ) × Consumes old new part
