use Rattle.std.proofs.Common.{arith}
use Rattle.lock_lines.specs.Lines.{let_pass_with}
use Rattle.term.proofs.Mapping.{mapped_more}
use Rattle.lock_lines.proofs.waiting_calls.WaitingCalls.let_pass.Goals as goal

pub loop-call-preserved : goal.loop-call-preserved
loop-call-preserved c = mapped_more (let_pass_with c.args.request.now) c.loop-call.call-items c.deref_mut-call-items.result.now c.loop-call.call-index
    c.call-item.result c.let_pass.new.self (omega (arith, c.loop-call-test.true, c.loop-call.auto.call-items)) c.loop-call.invariant
    c.let_pass.ensures
