use Rattle.std.proofs.Common.{ℕ, ◌≡◌, ◌<◌, ◌+◌, ◌*◌, [], length}
use Rattle.std.specs.Prelude.{slice_index_or}
use Rattle.term.specs.declared.limits.TheConstants.{MOST_NODES}
use Rattle.link.proofs.mesh.Mesh.first_link.Given as goal

abbrev pub invariant-loop-sender : goal.invariant-loop-sender
invariant-loop-sender g l = (i k : ℕ) → i < l.sender → k < length l.self.nodes
    → slice_index_or l.self.links (i * MOST_NODES + k) [] ≡ []
