-- What may still have to be retried in a world: as many rounds for the global lock as there are operations, with the strikes and
-- the names that they may bring. No delivery and no retry raises it, and an operation that ends lowers it.
-- f and c: nodes, f the sender and c the receiver of a letter. A pair counts at the node of its owner.
use Rattle.std.specs.Prelude.{ℕ, ◌==◌, ◌+◌, length}
use Rattle.registry_model.specs.Table.{Table, Change, Put}
use Rattle.protocol_model.specs.Letter.{Letter}
use Rattle.protocol_model.specs.Node.{Op}
use Rattle.no_dead_end.specs.Worlds.{Worlds}
use Rattle.no_dead_end.specs.Weights.{when, Weights, total}
use Rattle.no_dead_end.specs.Work.{is_put, owned_on}

-- an operation: one round, and those of what follows of it. Who gets a name may have to be struck, and a lone node may join with it
abbrev pub pending_op : Op → ℕ
pending_op (Op.Name k call) = 1 + when (is_put call) 2
pending_op (Op.Strike p) = 1
pending_op (Op.Admission j pairs) = 1 + length pairs
pending_op (Op.Join k m) = 0

-- one that waits in a queue; a join goes with the table that its node has then
abbrev pub pending_queued : Table → Op → ℕ
pending_queued t (Op.Join k m) = 1 + length t
pending_queued t op = pending_op op

-- a name that is written
abbrev pub pending_change : ℕ → ℕ → Change → ℕ
pending_change f c (Put pair) = when (pair.owner.node == c) 1 + when (f == c) 1
pending_change f c change = 0

abbrev pub pending_letter : ℕ → ℕ → Letter → ℕ
pending_letter f c (Letter.Apply change) = pending_change f c change
pending_letter f c (Letter.JoinAsk pairs) = 1 + length pairs
pending_letter f c (Letter.Admit j s) = owned_on c s.puts
pending_letter f c (Letter.Welcome members pairs told fate) = owned_on c pairs
pending_letter f c l = 0

abbrev pub pending_weights : Weights
pending_weights = record {
  mark = λ m. 0;
  undecided = pending_op;
  back = 0;
  queued = pending_queued;
  owned = 1;
  letter = pending_letter;
}

-- at the nodes that run
abbrev pub pending : (W : Worlds) → W.World → ℕ
pending W w = total W.opening.bound pending_weights (W.running w) (W.nodes w)
