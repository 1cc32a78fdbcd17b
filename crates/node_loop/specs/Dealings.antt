-- What a node has dealt in over its links: what it sent to each node, and what it took from each.
use Rattle.std.specs.Prelude.{ℕ, Bool, true, ◌≡◌, ◌==◌, List, [], ◌∷◌, ◌++◌, map, flat_map, if◌then◌else◌}
use Rattle.registry_model.specs.Process.{at}
use Rattle.protocol_model.specs.World.{Opening, in_world}
use Rattle.closings.specs.Alone.{Stamped as StampedLetter}
use Rattle.node_log.specs.NodeEventsLetters.{letter_of}
use Rattle.tray.specs.Held.{Waiting}
use Rattle.node_loop.specs.declared.item.Item.{Item}
use Rattle.node_loop.specs.declared.item.Item.TheVariants.{Letter, Task}

pub record Dealt : Type 0 where
  pub sent : ℕ → List Item  -- to each node, the oldest first
  pub taken : ℕ → List Item  -- the letters from each node, the oldest first

-- nothing was sent or taken yet
abbrev pub nothing_dealt : Dealt
nothing_dealt = record { sent = λ t. []; taken = λ f. [] }

-- an item more was sent to this node
abbrev pub with_sent : ℕ → Item → Dealt → Dealt
with_sent to i d = record d { sent = at d.sent to (d.sent to ++ i ∷ []) }

-- a letter more was taken from this node; a task is the node's own, and nothing that nodes deal in
abbrev pub with_taken : ℕ → Item → Dealt → Dealt
with_taken from (Letter l) d = record d { taken = at d.taken from (d.taken from ++ Letter l ∷ []) }
with_taken from (Task t) d = d

-- the letter of an item, if it is one, as the protocol has it
abbrev pub letter_in : Item → List StampedLetter
letter_in (Letter l) = record { stamp = l.stamp; letter = letter_of l.letter } ∷ []
letter_in (Task t) = []

-- the letters among these items
abbrev pub letters_in : List Item → List StampedLetter
letters_in items = flat_map letter_in items

-- the letters that were taken from each node, and those that were put on their way to each
abbrev pub took : Dealt → ℕ → List StampedLetter
took d f = letters_in (d.taken f)

abbrev pub put : Dealt → ℕ → List StampedLetter
put d t = letters_in (d.sent t)

-- whose letters wait in a tray
abbrev pub receivers : List (Waiting Item) → List ℕ
receivers slots = map (λ w. w.receiver) slots

-- what waits there for a node
abbrev pub waiting_for : ℕ → List (Waiting Item) → List Item
waiting_for t [] = []
waiting_for t (w ∷ ws) = if w.receiver == t then w.letters else waiting_for t ws

module _ {S : Type 0} (posts : S → ℕ → Item → S → Type 0) (takes : S → ℕ → Item → S → Type 0) where
  -- Links that lead inside a world, as `inside` tells, do so behind each step, and deal as `dealt` says: each sending is behind the
  -- others to its node, each letter that is taken behind the others from its node, and nothing is taken from a stranger
  pub record Deals (o : Opening) (inside : S → Bool) (dealt : S → Dealt) : Type 0 where
    pub sends : (s : S) (to : ℕ) (i : Item) (t : S) → inside s ≡ true → posts s to i t
        → (inside t ≡ true) × (dealt t ≡ with_sent to i (dealt s))
    pub gives : (s : S) (from : ℕ) (i : Item) (t : S) → inside s ≡ true → takes s from i t
        → (inside t ≡ true) × (in_world o from ≡ true) × (dealt t ≡ with_taken from i (dealt s))
