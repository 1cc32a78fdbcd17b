use Rattle.std.proofs.Common.{List, None, Some, map, subst}
use Rattle.std.proofs.lemmas.Result.{err_from_is_err_and}
use Rattle.std.specs.Io.KnownBytes.{Appends}
use Rattle.command_lines.specs.NodeEventsSeen.{answer_of}
use Rattle.command_lines.specs.declared.Answer.{Answer}
use Rattle.command_lines.specs.Printing.{answers_text}
use Rattle.text_lines.specs.Writing.{AppendsPart}
use Rattle.cluster_script.proofs.Finishing.{finish-stopped, finish-ended}
use Rattle.cluster_script.proofs.script.finish.Goals as goal

pub returns-in_err-write_answers-in-Ok : goal.returns-in_err-write_answers-in-Ok
returns-in_err-write_answers-in-Ok g c =
    let a = g.W.Write.contents c.args.writer.now in
    let b = g.W.Write.contents c.write_answers.new.writer in
    let p = err_from_is_err_and c.from_residual.result c.from_residual.ensures.1 in
    let f = c.in-Ok.ensures.finished in
    finish-stopped c.args.world.now c.finish.new.self c.in-Ok.answers.items None c.finish.ensures.kept.names f.goes_on f.ended
    a b c.from_residual.result p.0 p.1
    (subst (λ (xs : List Answer). AppendsPart a b (answers_text (map answer_of xs))) c.deref.ensures.value
    c.in_err-write_answers-in-Ok.ensures)

pub returns-in_ok-write_answers-in-Ok : goal.returns-in_ok-write_answers-in-Ok
returns-in_ok-write_answers-in-Ok g c =
    let a = g.W.Write.contents c.args.writer.now in
    let b = g.W.Write.contents c.write_answers.new.writer in
    let f = c.in-Ok.ensures.finished in
    finish-ended c.args.world.now c.finish.new.self c.in-Ok.answers.items None c.finish.ensures.kept.names f.goes_on f.ended
    a b (g.W.Write.contents c.end_finish.new.writer)
    (subst (λ (xs : List Answer). Appends a b (answers_text (map answer_of xs))) c.deref.ensures.value
    c.in_ok-write_answers-in-Ok.ensures)
    c.end_finish.result c.end_finish.ensures.text c.end_finish.ensures.fine

pub returns-in_err-write_answers-in-Err : goal.returns-in_err-write_answers-in-Err
returns-in_err-write_answers-in-Err g c =
    let a = g.W.Write.contents c.args.writer.now in
    let b = g.W.Write.contents c.write_answers-in-Err.new.writer in
    let p = err_from_is_err_and c.from_residual-in_err-write_answers-in-Err.result
    c.from_residual-in_err-write_answers-in-Err.ensures.1 in
    let s = c.in-Err.ensures.stopped in
    finish-stopped c.args.world.now c.finish.new.self c.in-Err.stop.answers.items (Some s.waits.event)
    c.finish.ensures.kept.names s.goes_on s.waits.next
    a b c.from_residual-in_err-write_answers-in-Err.result p.0 p.1
    (subst (λ (xs : List Answer). AppendsPart a b (answers_text (map answer_of xs))) c.deref-in-Err.ensures.value
    c.in_err-write_answers-in-Err.ensures)

pub returns-in_ok-write_answers-in-Err : goal.returns-in_ok-write_answers-in-Err
returns-in_ok-write_answers-in-Err g c =
    let a = g.W.Write.contents c.args.writer.now in
    let b = g.W.Write.contents c.write_answers-in-Err.new.writer in
    let s = c.in-Err.ensures.stopped in
    finish-ended c.args.world.now c.finish.new.self c.in-Err.stop.answers.items (Some s.waits.event)
    c.finish.ensures.kept.names s.goes_on s.waits.next
    a b (g.W.Write.contents c.refuse_memory.new.writer)
    (subst (λ (xs : List Answer). Appends a b (answers_text (map answer_of xs))) c.deref-in-Err.ensures.value
    c.in_ok-write_answers-in-Err.ensures)
    c.refuse_memory.result c.refuse_memory.ensures.text c.refuse_memory.ensures.fine
