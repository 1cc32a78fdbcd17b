use Rattle.std.proofs.Common.{ℕ, ◌==◌, ◌≡◌, ◌<◌, ◌+◌, ◌*◌, []}
use Rattle.std.specs.Prelude.{slice_index_or, if◌then◌else◌, ◌&&◌, nat_lt}
use Rattle.term.specs.declared.limits.TheConstants.{MOST_NODES}
use Rattle.link.proofs.mesh.clear_towards.Given as goal

abbrev pub invariant-loop-sender : goal.invariant-loop-sender
invariant-loop-sender g l = (i j : ℕ) → i < MOST_NODES → j < MOST_NODES → slice_index_or l.links (i * MOST_NODES + j) []
    ≡ (if (j == l.receiver) && nat_lt i l.sender then [] else slice_index_or l.initial.links (i * MOST_NODES + j) [])
