-- That nobody starves at an inbox.
use Rattle.std.specs.Prelude.{ℕ, Bool, true, false, ◌≡◌, ◌<◌, ◌≤◌, ◌+◌, ◌*◌, Some, List, [], ◌∷◌, map, length, slice_get}
use Rattle.std.specs.List.{AllPass, Contains}
use Rattle.node_loop.specs.declared.item.Item.{Item}
use Rattle.node_loop.specs.declared.item.Item.TheVariants.{Letter, Task as TaskItem}
use Rattle.node_loop.specs.declared.item.Task.{Task}
use Rattle.node_threads.specs.declared.ruled_end.Traffic.{Traffic}
use Rattle.node_threads.specs.Traffics.{Takes}
use Rattle.term.specs.declared.limits.TheConstants.{MOST_LETTERS}

-- but for its lines, and so for all that it sends
abbrev pub but_lines : Traffic → Traffic
but_lines s = record s { lines = [] }

-- these items are taken one after another, each from its node, whatever is sent between them
abbrev pub Takings : Traffic → List (ℕ × Item) → Type 0
Takings s [] = Unit {0}
Takings s ((from, i) ∷ items) = (u : Traffic) × (but_lines u ≡ but_lines s) × (v : Traffic) × Takes u from i v × Takings v items

abbrev pub is_letter : ℕ × Item → Bool
is_letter (from, Letter l) = true
is_letter (from, TaskItem k) = false

-- while a task waits 64 letters are taken in a row at most
abbrev pub LettersGiveWay : Type 0
LettersGiveWay = (s : Traffic) (items : List (ℕ × Item)) → Takings s items → 0 < length s.waiting → AllPass is_letter items
    → length items ≤ MOST_LETTERS

-- A task before which so many others wait is among the next 130 items that are taken, and 130 more for each of those: the one that waits
-- longest is taken with the second task at the latest, behind 64 letters before each
abbrev pub TasksComeUp : Type 0
TasksComeUp = (s : Traffic) (items : List (ℕ × Item)) (others : ℕ) (k : Task) → Takings s items → slice_get s.waiting others ≡ Some k
    → 2 * (MOST_LETTERS + 1) * (others + 1) ≤ length items → Contains (map (λ x. x.1) items) (TaskItem k)
