-- The steps of a node's end of the lines between threads.
use Rattle.std.specs.Prelude.{ℕ, Bool, true, false, nat_lt, nat_le, ◌&&◌, ◌+◌, ◌≡◌, ◌<◌, ◌≤◌, ◌⊎◌, Option, Some, None, Result, Ok, Err, MatchOption, MatchResult, List, [], ◌∷◌, ◌++◌, length, slice_index_or, if◌then◌else◌}
use Rattle.std.specs.List.{position, remove}
use Rattle.link.specs.declared.faults.LinkFault.{LinkFault}
use Rattle.link.specs.declared.faults.LinkFault.TheVariants.{NoSuchNode, Full}
use Rattle.term.specs.declared.limits.TheConstants.{INBOX_ROOM, MOST_LETTERS}
use Rattle.link.specs.declared.mailbox.Mailbox.{Mailbox}
use Rattle.link.specs.Mailboxes.{taken}
use Rattle.node_loop.specs.declared.Call.{Call}
use Rattle.node_loop.specs.declared.Call.TheVariants.{Spawn, Whereis, RegisteredNames, Notices}
use Rattle.node_loop.specs.declared.LocalEvent.{LocalEvent}
use Rattle.node_loop.specs.declared.LocalEvent.TheVariants.{Call as Calls}
use Rattle.node_loop.specs.declared.item.Item.{Item}
use Rattle.node_loop.specs.declared.item.Item.TheVariants.{Letter, Task as TaskItem}
use Rattle.node_loop.specs.declared.item.Stamped.{Stamped}
use Rattle.node_loop.specs.declared.item.Task.{Task}
use Rattle.node_seats.specs.declared.parcel.Parcel.{Parcel}
use Rattle.node_seats.specs.Lines.{Sent, has, with_parcel_to}
use Rattle.node_threads.specs.declared.ruled_end.Traffic.{Traffic}
use Rattle.node_threads.specs.declared.ruled_end.Found.{Found}
use Rattle.node_threads.specs.declared.ruled_end.Found.TheVariants.{Heard, Other, Nothing}
use Rattle.node_threads.specs.Givers.{receivers, node_under, letters_of, tasks_of}

-- an end of this node as it begins, with these lines and this inbox: no task waits, and none was taken
abbrev pub begun : ℕ → List (Sent Item) → Mailbox (Parcel Item) → Traffic
begun node lines mailbox = record {
  node = node;
  first = mailbox;
  lines = lines;
  letters = letters_of (receivers lines) (taken mailbox);
  tasks = tasks_of (taken mailbox);
  waiting = [];
  in_a_row = 0;
  has_passed = false;
  looks = 0;
  in_vain = false;
}

-- why an item is handed back: no line leads to the node, or its inbox is full or its thread has ended
abbrev pub IsUnsent : LinkFault → Bool → Type 0
IsUnsent NoSuchNode known = known ≡ false
IsUnsent Full known = known ≡ true
IsUnsent _ known = ⊥

-- the line to this node has this item more; nothing else changed
abbrev pub Posts : Traffic → ℕ → Item → Traffic → Type 0
Posts s to item t = (has to s.lines ≡ true) × (t ≡ record s { lines = with_parcel_to to item s.lines })

-- an item to this node was handed back, for this fault
abbrev pub Refuses : Traffic → ℕ → Item → LinkFault → Type 0
Refuses s to item fault = IsUnsent fault (has to s.lines)

-- these tasks came off the inbox, and wait behind the others
abbrev pub with_tasks : List Task → Traffic → Traffic
with_tasks more s = record s { tasks = s.tasks ++ more; waiting = s.waiting ++ more }

-- this letter came off the inbox, from the node whose number it came under
abbrev pub Hears : ℕ → Stamped → Traffic → Traffic → Type 0
Hears from l s t = (number : ℕ) × (node_under number (receivers s.lines) ≡ Some from)
    × (t ≡ record s { letters = s.letters ++ (from, Letter l) ∷ [] })

-- look-ups and spawns are a node's own, for all other calls nodes are asked
abbrev pub is_asked : Call → Bool
is_asked Spawn = false
is_asked (Whereis x) = false
is_asked RegisteredNames = false
is_asked (Notices p) = false
is_asked c = true

-- for other events none are
abbrev pub asks : LocalEvent → Bool
asks (Calls c) = is_asked c
asks e = false

abbrev pub asks_nodes : Task → Bool
asks_nodes k = asks k.event

-- The place of the task that comes next. Every other time, where the last task was taken before one that waited longer, it is the one that
-- waits longest; else it is the one that does of those for which nodes are asked, if any waits
abbrev pub or_first : Option ℕ → ℕ
or_first None = 0
or_first (Some place) = place

abbrev pub next_place : Traffic → ℕ
next_place s = if s.has_passed then 0 else or_first (position asks_nodes s.waiting)

-- the task that comes next waits no more
abbrev pub Serves : Task → Traffic → Traffic → Type 0
Serves k s t = (next_place s < length s.waiting) × (k ≡ slice_index_or s.waiting (next_place s) k)
    × (t ≡ record s { waiting = remove s.waiting (next_place s); in_a_row = 0; has_passed = nat_lt 0 (next_place s) })

-- a letter more is taken in a row
abbrev pub counted : Traffic → Traffic
counted s = record s { in_a_row = if nat_lt s.in_a_row MOST_LETTERS then s.in_a_row + 1 else s.in_a_row }

-- it is a task's turn: one waits, and so many letters were taken since the last
abbrev pub is_tasks_turn : Traffic → Bool
is_tasks_turn s = nat_lt 0 (length s.waiting) && nat_le MOST_LETTERS s.in_a_row

-- A letter is taken, unless it is a task's turn; or the task that comes next, which is the node's own. Tasks that stood in the inbox before
-- that wait; nothing else changed
abbrev pub Takes : Traffic → ℕ → Item → Traffic → Type 0
Takes s from (Letter l) t = (is_tasks_turn s ≡ false) × (more : List Task) × Hears from l (with_tasks more (counted s)) t
Takes s from (TaskItem k) t = (from ≡ s.node) × (more : List Task) × Serves k (with_tasks more s) t

-- none is found, and no task waits
abbrev pub Misses : Traffic → Type 0
Misses s = s.waiting ≡ []

-- a taking never fails
abbrev pub Fails : Traffic → LinkFault → Type 0
Fails s fault = ⊥

-- what lasts behind a taking: not how it looked into the inbox
abbrev pub lasting : Traffic → Traffic
lasting s = record s { looks = 0; in_vain = false }

-- what a taking gives, and what it does to what lasts
abbrev pub Gives : Result (Option (ℕ × Item)) LinkFault → Traffic → Traffic → Type 0
Gives r s t = MatchResult r
    (λ found. MatchOption found ((lasting t ≡ lasting s) × Misses (lasting s)) (λ x. Takes (lasting s) x.0 x.1 (lasting t)))
    (λ fault. (lasting t ≡ lasting s) × Misses (lasting s) × Fails (lasting s) fault)

-- the last taking searched the inbox for a letter, until it found nothing there, or as many items as an inbox has room for
abbrev pub HasSearched : Traffic → Type 0
HasSearched s = (s.in_vain ≡ true) ⊎ (INBOX_ROOM ≤ s.looks)

-- where it takes a task it has searched before, unless it was a task's turn, and where it finds nothing
abbrev pub SearchesFirst : Result (Option (ℕ × Item)) LinkFault → Traffic → Traffic → Type 0
SearchesFirst (Ok None) s t = HasSearched t
SearchesFirst (Ok (Some (from, Letter l))) s t = Unit {0}
SearchesFirst (Ok (Some (from, TaskItem k))) s t = HasSearched t ⊎ (is_tasks_turn s ≡ true)
SearchesFirst (Err fault) s t = Unit {0}

-- what is next in the inbox: a letter; a task, which waits then, or a letter that is no node's; or nothing
abbrev pub Finds : Found → Traffic → Traffic → Type 0
Finds (Heard from l) s t = Hears from l s t
Finds Other s t = (more : List Task) × (t ≡ with_tasks more s)
Finds Nothing s t = t ≡ s

abbrev pub is_nothing : Found → Bool
is_nothing Nothing = true
is_nothing f = false

-- a letter, unless it is a task's turn; or none, and then the inbox was searched
abbrev pub FindsNext : Option (ℕ × Stamped) → Traffic → Traffic → Type 0
FindsNext None s t = ((is_tasks_turn s ≡ true) × (lasting t ≡ lasting s))
    ⊎ ((more : List Task) × (lasting t ≡ with_tasks more (lasting s)) × HasSearched t)
FindsNext (Some (from, l)) s t = (is_tasks_turn s ≡ false)
    × (more : List Task) × Hears from l (with_tasks more (counted (lasting s))) (lasting t)
