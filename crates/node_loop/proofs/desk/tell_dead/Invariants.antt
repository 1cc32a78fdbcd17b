use Rattle.std.proofs.Common.{◌≡◌, ◌++◌, drop}
use Rattle.std.specs.Prelude.{flat_map}
use Rattle.node_loop.specs.Desks.{drop_told}
use Rattle.node_loop.proofs.desk.tell_dead.Given as goal

abbrev pub invariant-loop-call : goal.invariant-loop-call
invariant-loop-call g l =
    l.replies ++ flat_map (drop_told l.core) (drop l.call-index l.calls)
    ≡ l.fn.replies ++ flat_map (drop_told l.core) l.calls
