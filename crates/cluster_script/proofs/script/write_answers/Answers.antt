use Rattle.std.proofs.lemmas.Result.{err_from_is_err_and}
use Rattle.text_lines.proofs.Written.{Writes-err}
use Rattle.cluster_script.proofs.Writing.{answers-part}
use Rattle.cluster_script.proofs.script.write_answers.Goals as goal

pub returns-in_err-write_answer : goal.returns-in_err-write_answer
returns-in_err-write_answer g c =
    let p = err_from_is_err_and c.from_residual.result c.from_residual.ensures.1 in
    Writes-err _ _ c.from_residual.result p.0 _ p.1
    (answers-part _ _ _ c.args.answers.now c.loop-answer.answer-index c.answer-item.result c.loop-answer-test.true
    c.answer-item.is c.loop-answer.invariant c.in_err-write_answer.ensures)
