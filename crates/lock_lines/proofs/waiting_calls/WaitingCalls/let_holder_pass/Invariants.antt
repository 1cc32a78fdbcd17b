use Rattle.std.proofs.Common.{◌≡◌, ◌++◌, map, take, drop}
use Rattle.lock_lines.specs.Lines.{holder_passes}
use Rattle.lock_lines.proofs.waiting_calls.WaitingCalls.let_holder_pass.Given as goal

abbrev pub invariant-loop-call : goal.invariant-loop-call
invariant-loop-call l = l.call-items
    ≡ map (holder_passes l.holder) (take l.call-index l.initial.call-items) ++ drop l.call-index l.initial.call-items
