use Rattle.std.proofs.Common.{◌≡◌, ◌++◌, drop}
use Rattle.std.specs.Prelude.{flat_map}
use Rattle.node_loop.specs.Desks.{call_refused}
use Rattle.node_loop.proofs.desk.tell_callers.Given as goal

abbrev pub invariant-loop-call : goal.invariant-loop-call
invariant-loop-call l =
    l.replies ++ flat_map call_refused (drop l.call-index l.calls) ≡ l.fn.replies ++ flat_map call_refused l.calls
