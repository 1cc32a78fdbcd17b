-- The numbers of joins that the history needs: a step enters the join of another node under the number of that node's current join.
-- j is a node, number j the number that is given for its join, and l is a letter from node f to node t.
use Rattle.std.specs.Prelude.{ℕ, ◌≡◌, List}
use Rattle.protocol_model.specs.Letter.{Letter}
use Rattle.protocol_model.specs.Turn.{begun}
use Rattle.protocol_model.specs.Reading.{receive}
use Rattle.protocol_model.specs.World.{join_number}
use Rattle.creations.specs.NodeNames.{NamedOpening, opening_of}
use Rattle.creations.specs.NamedWorld.{NamedWorld, NamedEvent, after_events}
use Rattle.creations.specs.Restarts.{IsUp, IsReplaced}

-- These numbers are those of the nodes' current joins, but for nodes that were replaced
abbrev pub AreJoinNumbers : NamedOpening → NamedWorld → (ℕ → ℕ) → Type 0
AreJoinNumbers o v number = (j : ℕ) → (IsReplaced o v j → ⊥) → number j ≡ join_number v.world j

-- A running node makes the same of a letter with them as with all numbers
abbrev pub JoinNumbersSuffice : Type 0
JoinNumbersSuffice = (o : NamedOpening) (es : List NamedEvent) (number : ℕ → ℕ) (f t : ℕ) (l : Letter) →
    IsUp o (after_events o es) t → AreJoinNumbers o (after_events o es) number →
    receive (opening_of o).bound t number f l (begun ((after_events o es).world.node t))
    ≡ receive (opening_of o).bound t (join_number (after_events o es).world) f l (begun ((after_events o es).world.node t))
