use Rattle.std.proofs.Common.{◌≡◌, ◌++◌, drop}
use Rattle.std.specs.Prelude.{flat_map}
use Rattle.node_loop.specs.Desks.{leave_refused}
use Rattle.node_loop.proofs.desk.refuse_leaves.Given as goal

abbrev pub invariant-loop-leave : goal.invariant-loop-leave
invariant-loop-leave l =
    l.replies ++ flat_map leave_refused (drop l.leave-index l.leaves) ≡ l.fn.replies ++ flat_map leave_refused l.leaves
