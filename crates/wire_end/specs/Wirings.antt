-- The steps of a node's end of lines.
use Rattle.std.specs.Prelude.{ℕ, Bool, true, false, ◌≡◌, ◌⊎◌, ◌==◌, ◌+◌, not, filter, Option, Some, None, is_some, List, [], ◌∷◌, ◌++◌, map, length, slice_set, slice_index_or, if◌then◌else◌}
use Rattle.std.specs.List.{position}
use Rattle.link.specs.declared.faults.LinkFault.{LinkFault}
use Rattle.link.specs.declared.faults.LinkFault.TheVariants.{NoSuchNode, Memory}
use Rattle.letter_lines.specs.declared.Letter.{Letter as ALetter}
use Rattle.letter_lines.specs.Gathered.{nothing}
use Rattle.letter_lines.specs.Laws.{IsLetter}
use Rattle.letter_lines.specs.Parts.{parts_of}
use Rattle.node_loop.specs.declared.item.Item.{Item}
use Rattle.node_loop.specs.declared.item.Item.TheVariants.{Letter, Task}
use Rattle.node_loop.specs.declared.item.Stamped.{Stamped}
use Rattle.node_loop.specs.declared.item.Task.{Task as ATask}
use Rattle.wire_end.specs.declared.wire.Wire.{Wire}
use Rattle.wire_end.specs.declared.wire_end.Wiring.{Wiring}
use Rattle.wire_end.specs.Sending.{letter_text}
use Rattle.wire_end.specs.Orders.{orders_of}
use Rattle.wire_end.specs.Saying.{present, is_said}

-- a link on which nothing came or went
abbrev pub new_wire : ℕ → Wire
new_wire n = record { node = n; read = 0; written = 0; parts = nothing; is_down = false }

-- the place of the link with this node, if it is another one of the world
abbrev pub place : ℕ → List Wire → Option ℕ
place n wires = position (λ w. w.node == n) wires

abbrev pub wire_at : ℕ → List Wire → Wire
wire_at k wires = slice_index_or wires k (new_wire 0)

-- the link at a place, and with a node; where there is none, one on which nothing came or went
abbrev pub wire_if : Option ℕ → List Wire → Wire
wire_if None wires = new_wire 0
wire_if (Some k) wires = wire_at k wires

abbrev pub link_with : ℕ → List Wire → Wire
link_with n wires = wire_if (place n wires) wires

-- so many lines more were written on the link at a place
abbrev pub with_lines_at : Option ℕ → ℕ → List Wire → List Wire
with_lines_at None count wires = wires
with_lines_at (Some k) count wires = slice_set wires k (record (wire_at k wires) { written = (wire_at k wires).written + count })

-- a letter can go to this node: it is another one of the world, or the end's own, which may say that to itself
abbrev pub reaches : ℕ → ALetter → Wiring → Bool
reaches to l s = if to == s.node then is_said (present s) s.node s.node l else is_some (place to s.wires)

-- a letter of the node to itself waits inside, behind the others
abbrev pub kept : Stamped → Wiring → Wiring
kept l s = record s { own = s.own ++ l ∷ []; orders = s.orders ++ orders_of s.node l.letter; sent = s.sent ++ (s.node, l) ∷ [] }

-- a letter to another is to be printed, as the next lines of the link with it
abbrev pub printed : ℕ → Stamped → Wiring → Wiring
printed to l s = record s {
  wires = with_lines_at (place to s.wires) (length (parts_of l.letter)) s.wires;
  lines = s.lines ++ letter_text to (link_with to s.wires).written l;
  sent = s.sent ++ (to, l) ∷ [];
}

abbrev pub posted : ℕ → Stamped → Wiring → Wiring
posted to l s = if to == s.node then kept l s else printed to l s

-- a letter to another, which goes on a line, is one that is read again from its parts
abbrev pub IsReadAgain : Bool → ALetter → Type 0
IsReadAgain true l = Unit {0}
IsReadAgain false l = IsLetter l

-- a letter goes on its way; a task is the node's own, and goes on no line
abbrev pub Posts : Wiring → ℕ → Item → Wiring → Type 0
Posts s to (Letter l) t = (reaches to l.letter s ≡ true) × (t ≡ posted to l s) × IsReadAgain (to == s.node) l.letter
Posts s to (Task k) t = ⊥

-- it is handed back: it can't go there, or there is no memory, or no number is left for a line
abbrev pub Unsent : LinkFault → Bool → Type 0
Unsent NoSuchNode known = known ≡ false
Unsent Memory known = known ≡ true
Unsent fault known = ⊥

abbrev pub Refuses : Wiring → ℕ → Item → LinkFault → Type 0
Refuses s to (Letter l) fault = Unsent fault (reaches to l.letter s)
Refuses s to (Task k) fault = fault ≡ NoSuchNode

-- an end of this node of a world as it begins
abbrev pub begun : ℕ → List ℕ → Wiring
begun node world = record {
  node = node;
  wires = map new_wire (filter (λ n. not (n == node)) world);
  own = [];
  heard = [];
  tasks = [];
  lines = [];
  orders = [];
  sent = [];
  taken = [];
  read = [];
}

-- the oldest letter of the node to itself waits no more
pub record IsOwn (from : ℕ) (l : Stamped) (s t : Wiring) : Type 0 where
  pub own : from ≡ s.node
  pub oldest : s.own ≡ l ∷ t.own
  pub rest : t ≡ record s { own = t.own }

-- there is none, and the oldest of another waits no more
pub record IsOthers (from : ℕ) (l : Stamped) (s t : Wiring) : Type 0 where
  pub none : s.own ≡ []
  pub oldest : s.heard ≡ (from, l) ∷ t.heard
  pub rest : t ≡ record s { heard = t.heard }

-- the letter that comes next waits no more
abbrev pub IsNext : ℕ → Stamped → Wiring → Wiring → Type 0
IsNext from l s t = IsOwn from l s t ⊎ IsOthers from l s t

-- no letter waits, and the oldest task is taken, which is the node's own
pub record TakesTask (s : Wiring) (from : ℕ) (k : ATask) (t : Wiring) : Type 0 where
  pub own : from ≡ s.node
  pub none : (s.own ≡ []) × (s.heard ≡ [])
  pub oldest : s.tasks ≡ k ∷ t.tasks
  pub rest : t ≡ record s { tasks = t.tasks }

abbrev pub Takes : Wiring → ℕ → Item → Wiring → Type 0
Takes s from (Letter l) t = IsNext from l (record s { taken = s.taken ++ (from, l) ∷ [] }) t
Takes s from (Task k) t = TakesTask s from k t

-- nothing waits
abbrev pub Misses : Wiring → Type 0
Misses s = (s.own ≡ []) × (s.heard ≡ []) × (s.tasks ≡ [])

-- a taking never fails
abbrev pub Fails : Wiring → LinkFault → Type 0
Fails s fault = ⊥
