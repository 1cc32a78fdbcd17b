-- What the lines come to that a node reads, one behind the other.
use Rattle.std.specs.Prelude.{ℕ, Bool, true, false, ◌≡◌, ◌≢◌, map, length, List, [], ◌∷◌, ◌++◌, Some, None, Ok, Err, if◌then◌else◌}
use Rattle.letter_lines.specs.declared.faults.LetterFault.TheVariants.{Memory}
use Rattle.node_loop.specs.declared.LocalEvent.{LocalEvent}
use Rattle.node_loop.specs.declared.item.Task.{Task}
use Rattle.node_loop.specs.Held.{Looping, owes}
use Rattle.wire_end.specs.declared.faults.HearFault.TheVariants.{Gap, Stray, NoSuchNode, Part}
use Rattle.wire_end.specs.Hearing.{Hears, Loses}
use Rattle.wire_end.specs.Starting.{Starts, is_alone}
use Rattle.node_loop.specs.Held.{with_next}
use Rattle.node_loop.specs.NodeCoreState.{IsNext}
use Rattle.node_loop.specs.Returning.{MayStart}
use Rattle.term.specs.NodeSets.{set_of, with_older}
use Rattle.node_port.specs.Asking.{reader_of}
use Rattle.node_port.specs.Commands.{Taken, Follows, Refused, Strange, Misplaced, Unfit, Astray, Untold, IsTaken, is_done}
use Rattle.node_port.specs.Deeds.{Stand, Deed, DoesAll, BreaksOff, IsAllTold, changes_by, replies_by, all_go_on}
use Rattle.node_port.specs.Edits.{Changed, changed_lines}
use Rattle.node_port.specs.Shown.{Shown, Tells, Counts, Gaps, Strays, Misses, Untells, Waits, Spends, line_fault_of, shown_lines}
use Rattle.node_port.specs.Shown as shown
use Rattle.node_port.specs.declared.commands.Command.TheVariants.{Ask, Steps, Letter, Down, Started, Tick}
use Rattle.node_port.specs.declared.port.Standing.{Standing}
use Rattle.node_port.specs.declared.port.Standing.TheVariants.{Runs, HasLeft, Broken, Spent}

-- what is asked under a tag
abbrev pub asked : ℕ → LocalEvent → Task
asked tag event = record { ticket = Some (record { seat = 0; slot = 0; number = tag }); event = event }

-- a node takes the place of the one before it, of which this one was told that it has left: in its loop, and at its end
pub record GivesStart (next : ℕ) (a b : Stand) : Type 0 where
  pub older : ℕ
  pub may : MayStart older next a.loop
  pub starts : Starts older next a.end b.end
  pub loop : b.loop ≡ with_next older next a.loop

-- the one before it isn't another node that is at present, alone of its name, or this one has left
abbrev pub HasNoPlace : ℕ → Stand → Type 0
HasNoPlace next a =
    (older : ℕ) → IsNext older next → is_alone older a.end ≡ true → set_of a.loop.core.world older ≡ true → a.loop.left ≡ false → ⊥

-- it is, and this node wasn't told that it has left
pub record IsUntold (next : ℕ) (a : Stand) : Type 0 where
  pub older : ℕ
  pub next_is : IsNext older next
  pub alone : is_alone older a.end ≡ true
  pub known : set_of a.loop.core.world older ≡ true
  pub untold : with_older a.loop.core.told older ≡ false

-- what a line that is taken so gives to the node's end: a task, a line of a link, the word that a node is gone, or that one has started; any other
-- nothing. The end knows no such node, or takes a line of a link neither where it isn't the next, nor where its part fits no letter that was
-- begun, nor where that is a letter which no node says
abbrev pub Gives : Taken → Stand → Stand → Type 0
Gives (Follows (Ask tag event)) a b = (b.loop ≡ a.loop) × (b.end ≡ record a.end { tasks = a.end.tasks ++ asked tag event ∷ [] })
Gives (Follows (Letter from line)) a b = (b.loop ≡ a.loop) × Hears from line (Ok tt) a.end b.end
Gives (Follows (Down node)) a b = (b.loop ≡ a.loop) × Loses node (Ok tt) a.end b.end
Gives (Follows (Started next)) a b = GivesStart next a b
Gives (Untold next) a b = (b ≡ a) × IsUntold next a
Gives (Astray from line) a b = (b ≡ a) × Hears from line (Err Stray) a.end a.end
Gives (Misplaced from line) a b = (b ≡ a) × Hears from line (Err Gap) a.end a.end
Gives (Unfit from line fault) a b = (b ≡ a) × (fault ≢ Memory) × Hears from line (Err (Part fault)) a.end a.end
Gives (Strange (Letter from line)) a b = (b ≡ a) × Hears from line (Err NoSuchNode) a.end a.end
Gives (Strange (Down node)) a b = (b ≡ a) × Loses node (Err NoSuchNode) a.end a.end
Gives (Strange (Started next)) a b = (b ≡ a) × HasNoPlace next a
Gives (Strange command) a b = ⊥
Gives _ a b = b ≡ a

-- what it is answered by besides the loop's replies
abbrev pub said : Taken → Looping → List Shown
said (Follows (Steps tag)) loop = Counts tag (length loop.log.entries) ∷ []
said (Refused tag fault) loop = shown.Refuses tag fault ∷ []
said (Strange command) loop = Misses ∷ []
said (Unfit from line fault) loop = shown.Refuses None (line_fault_of fault) ∷ []
said (Misplaced from line) loop = Gaps from line.number ∷ []
said (Astray from line) loop = Strays ∷ []
said (Untold next) loop = Untells ∷ []
said _ loop = []

-- the last word of a line: that no stamp is left for a step, or that something waits to be tried again
abbrev pub spent : Standing → List Shown
spent Spent = Spends ∷ []
spent _ = []

abbrev pub is_waiting : Standing → Looping → Bool
is_waiting Runs loop = owes loop
is_waiting _ loop = false

abbrev pub waiting : Standing → Looping → List Shown
waiting standing loop = if is_waiting standing loop then Waits ∷ [] else []

abbrev pub IsMisplaced : Taken → Type 0
IsMisplaced (Misplaced from line) = Unit {0}
IsMisplaced _ = ⊥

-- how the node stands behind what was done for a line: it runs; it has left; its line was out of its place; or no stamp is left
abbrev pub EndsFor : Standing → Taken → List Deed → Looping → Type 0
EndsFor Runs taken deeds loop = all_go_on deeds ≡ true
EndsFor HasLeft taken deeds loop = (all_go_on deeds ≡ true) × (loop.left ≡ true)
EndsFor Broken taken deeds loop = (all_go_on deeds ≡ true) × IsMisplaced taken
EndsFor Spent taken deeds loop = BreaksOff deeds

-- what a line printed: what changed, what letters order, letters, and answers
pub record Printed : Type 0 where
  pub changes : List Changed
  pub orders : List ℕ
  pub letters : List ℕ
  pub answers : List Shown

abbrev pub printed_text : Printed → List ℕ
printed_text p = shown_lines (changed_lines p.changes) ++ (p.orders ++ (p.letters ++ shown_lines p.answers))

-- what is printed of what was done for a line
abbrev pub printed_by : Standing → Taken → Stand → List Deed → Stand → Printed
printed_by standing taken a deeds b = record {
  changes = changes_by deeds;
  orders = b.end.orders;
  letters = b.end.lines;
  answers = map Tells (replies_by deeds) ++ (said taken a.loop ++ (spent standing ++ waiting standing b.loop));
}

-- nothing is to be printed any more of letters and of what they order
abbrev pub printed_out : Stand → Stand
printed_out a = record a { end = record a.end { lines = []; orders = [] } }

-- A line is read at a node that stands so, and so much is printed for it: it is taken, it gives something to the node's end or is refused, the
-- node turns as long as it has to, and what comes of it is printed. A line that is refused, or only asks how many steps were made,
-- changes nothing
pub record PlaysLine (bytes : List ℕ) (standing : Standing) (a : Stand) (p : Printed) (b : Stand) : Type 0 where
  pub taken : Taken
  pub says : IsTaken (reader_of a.loop) bytes taken
  pub first : Stand
  pub gives : Gives taken a first
  pub deeds : List Deed
  pub last : Stand
  pub does : DoesAll deeds first last
  pub done : is_done taken ≡ false → deeds ≡ []
  pub ends : EndsFor standing taken deeds last.loop
  pub told : IsAllTold a.loop → IsAllTold last.loop
  pub prints : p ≡ printed_by standing taken a deeds last
  pub behind : b ≡ printed_out last

-- behind a line there is another only where the node runs
abbrev pub MoreOnly : Standing → Standing → List (List ℕ) → List Printed → Stand → Stand → Type 0 → Type 0
MoreOnly Runs standing ls out b c more = more
MoreOnly stands standing ls out b c more = (standing ≡ stands) × (ls ≡ []) × (out ≡ []) × (c ≡ b)

-- lines, one behind the other
abbrev pub PlaysAll : List (List ℕ) → Standing → Stand → List Printed → Stand → Type 0
PlaysAll [] standing a out c = (standing ≡ Runs) × (out ≡ []) × (c ≡ a)
PlaysAll (l ∷ ls) standing a out c = (p : Printed) × (rest : List Printed) × (out ≡ p ∷ rest) × (stands : Standing) × (b : Stand)
    × PlaysLine l stands a p b × MoreOnly stands standing ls rest b c (PlaysAll ls standing b rest c)
