use Rattle.std.proofs.Common.{ap, map, drop}
use Rattle.node_log.specs.NodeEventsSeen.{answer_of}
use Rattle.node_loop.specs.Desks.{Kept}
use Rattle.node_loop.proofs.Telling.{begins_as, grows, where_refused}
use Rattle.node_loop.proofs.desk.Desk.answer_all.Goals as goal

pub returns-in_err-answer-clause-begun : goal.returns-in_err-answer-clause-begun
returns-in_err-answer-clause-begun c =
    where_refused c.from_residual.result
    (begins_as _ _ _ _ c.in_err-answer.ensures.unchanged (ap (λ (k : Kept). k.replies) c.loop-answer.invariant)
    (grows c.args.stamp c.args.own (map answer_of (drop c.loop-answer.answer-index c.args.answers.now)) c.loop-answer.self))
