use Rattle.std.proofs.Common.{refl}
use Rattle.node_loop.proofs.Telling.{begins_as, settled_begins, answering_begins, where_refused}
use Rattle.node_loop.proofs.desk.Desk.settle.Goals as goal

pub returns-in_err-await_answer-clause-begun : goal.returns-in_err-await_answer-clause-begun
returns-in_err-await_answer-clause-begun g c =
    where_refused c.from_residual.result
    (begins_as _ _ _ _ c.in_err-await_answer.ensures.unchanged refl
    (settled_begins c.args.stamp c.args.course c.args.own c.args.core.now c.args.answers.now c.args.self.now))

pub returns-in_err-answer_all-clause-begun : goal.returns-in_err-answer_all-clause-begun
returns-in_err-answer_all-clause-begun g c =
    where_refused c.from_residual-in_err-answer_all.result
    (answering_begins c.args.stamp c.args.course c.args.own c.args.core.now c.args.answers.now c.args.self.now c.await_answer.new.self
    c.last_call.result c.answer_all.new.self.replies c.in_ok-await_answer.ensures.ok c.last_call.ensures
    c.in_err-answer_all.ensures.begun)
