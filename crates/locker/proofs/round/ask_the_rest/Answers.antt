use Rattle.std.proofs.Common.{arith}
use Rattle.protocol_model.specs.Round.{asked_too}
use Rattle.locker.specs.RoundState.{as_mark}
use Rattle.locker.specs.declared.mark.Mark.TheVariants.{Later}
use Rattle.locker.proofs.Lists.{replaced_more}
use Rattle.locker.proofs.round.ask_the_rest.Goals as goal

pub loop-mark-preserved : goal.loop-mark-preserved
loop-mark-preserved c =
    let more = replaced_more
    (λ m. asked_too (as_mark m)) as_mark c.loop-mark.marks c.args.marks.now c.loop-mark.mark-index Later
    c.asked_too.result
    (omega arith) c.loop-mark.auto.marks c.loop-mark.invariant.done c.loop-mark.invariant.left c.asked_too.ensures in
    record { done = more.0; left = more.1 }
