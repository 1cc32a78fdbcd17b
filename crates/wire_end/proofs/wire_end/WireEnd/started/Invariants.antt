use Rattle.std.proofs.Common.{◌≡◌, ◌++◌, map, take, drop}
use Rattle.wire_end.specs.Starting.{opened_anew}
use Rattle.wire_end.proofs.wire_end.WireEnd.started.Given as goal

abbrev pub invariant-loop-wire : goal.invariant-loop-wire
invariant-loop-wire l = l.wire-items
    ≡ map (opened_anew l.older l.next) (take l.wire-index l.initial.wire-items) ++ drop l.wire-index l.initial.wire-items
