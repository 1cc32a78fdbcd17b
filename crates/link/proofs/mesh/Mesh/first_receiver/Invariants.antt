use Rattle.std.proofs.Common.{ℕ, ◌≡◌, ◌<◌, ◌+◌, ◌*◌, []}
use Rattle.std.specs.Prelude.{slice_index_or}
use Rattle.term.specs.declared.limits.TheConstants.{MOST_NODES}
use Rattle.link.proofs.mesh.Mesh.first_receiver.Given as goal

abbrev pub invariant-loop-receiver : goal.invariant-loop-receiver
invariant-loop-receiver g l = (k : ℕ) → k < l.receiver → slice_index_or l.self.links (l.sender * MOST_NODES + k) [] ≡ []
