use Rattle.std.proofs.Common.{◌≡◌, ◌++◌, map, take, drop}
use Rattle.lock_lines.specs.Lines.{let_pass_with}
use Rattle.lock_lines.proofs.waiting_calls.WaitingCalls.let_pass.Given as goal

abbrev pub invariant-loop-call : goal.invariant-loop-call
invariant-loop-call l = l.call-items
    ≡ map (let_pass_with l.request) (take l.call-index l.initial.call-items) ++ drop l.call-index l.initial.call-items
