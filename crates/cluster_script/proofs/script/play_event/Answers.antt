use Rattle.std.proofs.Common.{ℕ, Bool, List, Result, ap, ◌∙◌, subst, sym, refl, Ok}
use Rattle.std.proofs.lemmas.Result.{err_from_is_err_and}
use Rattle.std.specs.Io.KnownBytes.{Appends}
use Rattle.std.proofs.KnownBytes.{Appends-trans}
use Rattle.protocol_model.specs.NamedEvents.{Play}
use Rattle.command_lines.specs.Events.{named_event}
use Rattle.command_lines.specs.Refusals.{refusal_of}
use Rattle.text_lines.specs.declared.faults.WriteFault.{WriteFault}
use Rattle.cluster_script.specs.Script.{Plays}
use Rattle.cluster_script.specs.Played.{PlaysAsked, okay_text}
use Rattle.command_lines.specs.NodeEventsSeen.{answer_of}
use Rattle.command_lines.specs.declared.Answer.{Answer}
use Rattle.command_lines.specs.Grammar.{Scripted}
use Rattle.command_lines.specs.Printing.{answers_text, error_line}
use Rattle.text_lines.specs.Writing.{AppendsPart}
use Rattle.text_lines.proofs.Written.{AppendsPart-behind, AppendsPart-more}
use Rattle.cluster_script.proofs.Writing.{PlaysAsked-err}
use Rattle.cluster_script.proofs.Playing.{play-accepted, text-accepted, event-refused, event-unwritten}
use Rattle.std.proofs.Common.{map}
use Rattle.cluster_script.proofs.script.play_event.Goals as goal

pub returns-in_err-write_accepted-in-Ok : goal.returns-in_err-write_accepted-in-Ok
returns-in_err-write_accepted-in-Ok g c =
    let p = err_from_is_err_and c.from_residual.result c.from_residual.ensures.1 in
    let e = text-accepted c.args.world.now c.play.new.self c.args.event.now c.in-Ok.answers.items c.in-Ok.ensures.ok in
    PlaysAsked-err c.args.world.now c.play.new.self (Ok (Scripted (Play (named_event c.args.event.now))))
    (Plays (Play (named_event c.args.event.now)))
    (g.W.Write.contents c.args.writer.now)
    (g.W.Write.contents c.write_accepted.new.writer) c.from_residual.result p.0 p.1 refl
    (subst (λ (t : List ℕ). AppendsPart (g.W.Write.contents c.args.writer.now)
    (g.W.Write.contents c.write_accepted.new.writer) t) e
    (AppendsPart-more (g.W.Write.contents c.args.writer.now) (g.W.Write.contents c.write_accepted.new.writer)
    (okay_text c.args.world.now c.args.event.now)
    (answers_text (map answer_of c.in-Ok.answers.items))
    (c.in_err-write_accepted-in-Ok.ensures c.args.world.now c.in-Ok.answers.items c.in-Ok.ensures.ok)))

pub returns-in_err-write_answers-in-Ok : goal.returns-in_err-write_answers-in-Ok
returns-in_err-write_answers-in-Ok g c =
    let p = err_from_is_err_and c.from_residual-in_err-write_answers-in-Ok.result
    c.from_residual-in_err-write_answers-in-Ok.ensures.1 in
    let e = text-accepted c.args.world.now c.play.new.self c.args.event.now c.in-Ok.answers.items c.in-Ok.ensures.ok in
    PlaysAsked-err c.args.world.now c.play.new.self (Ok (Scripted (Play (named_event c.args.event.now))))
    (Plays (Play (named_event c.args.event.now)))
    (g.W.Write.contents c.args.writer.now)
    (g.W.Write.contents c.write_answers.new.writer) c.from_residual-in_err-write_answers-in-Ok.result p.0 p.1 refl
    (subst (λ (t : List ℕ). AppendsPart (g.W.Write.contents c.args.writer.now)
    (g.W.Write.contents c.write_answers.new.writer) t) e
    (AppendsPart-behind (g.W.Write.contents c.args.writer.now) (g.W.Write.contents c.write_accepted.new.writer)
    (g.W.Write.contents c.write_answers.new.writer) (okay_text c.args.world.now c.args.event.now)
    (answers_text (map answer_of c.in-Ok.answers.items))
    (c.in_ok-write_accepted-in-Ok.ensures c.args.world.now c.in-Ok.answers.items c.in-Ok.ensures.ok)
    (subst (λ (xs : List Answer). AppendsPart (g.W.Write.contents c.write_accepted.new.writer)
    (g.W.Write.contents c.write_answers.new.writer) (answers_text (map answer_of xs)))
    c.deref.ensures.value c.in_err-write_answers-in-Ok.ensures)))

pub returns-in_ok-write_answers-in-Ok : goal.returns-in_ok-write_answers-in-Ok
returns-in_ok-write_answers-in-Ok g c = (
  Plays (Play (named_event c.args.event.now)),
  refl,
  play-accepted c.args.world.now c.play.new.self c.args.event.now c.in-Ok.answers.items
      (g.W.Write.contents c.args.writer.now)
      (g.W.Write.contents c.write_answers.new.writer) c.in-Ok.ensures.ok
      (Appends-trans (g.W.Write.contents c.args.writer.now) (g.W.Write.contents c.write_accepted.new.writer)
      (g.W.Write.contents c.write_answers.new.writer) (okay_text c.args.world.now c.args.event.now)
      (answers_text (map answer_of c.in-Ok.answers.items))
      (c.in_ok-write_accepted-in-Ok.ensures c.args.world.now c.in-Ok.answers.items c.in-Ok.ensures.ok)
      (subst (λ (xs : List Answer). Appends (g.W.Write.contents c.write_accepted.new.writer)
      (g.W.Write.contents c.write_answers.new.writer) (answers_text (map answer_of xs)))
      c.deref.ensures.value c.in_ok-write_answers-in-Ok.ensures)),
)

pub returns-in_err-write_refusal-in-Err : goal.returns-in_err-write_refusal-in-Err
returns-in_err-write_refusal-in-Err g c =
    let old = c.args.world.now in
    let new = c.play.new.self in
    let a = g.W.Write.contents c.args.writer.now in
    let b = g.W.Write.contents c.write_refusal.new.writer in
    let p = err_from_is_err_and c.from_residual-in_err-write_refusal-in-Err.result
    c.from_residual-in_err-write_refusal-in-Err.ensures.1 in
    subst (λ (r : Result Bool WriteFault). PlaysAsked (Ok (Scripted (Play (named_event c.args.event.now)))) old new a b r) (sym p.1)
    (event-unwritten old new (named_event c.args.event.now) c.play.ensures.kept.names
    c.in-Err.ensures.as_before (refusal_of c.in-Err.refusal) c.in-Err.ensures.refused a b
    (subst (λ (t : List ℕ). AppendsPart a b t) (ap error_line c.word.ensures)
    c.in_err-write_refusal-in-Err.ensures) p.0)

pub returns-in_ok-write_refusal-in-Err : goal.returns-in_ok-write_refusal-in-Err
returns-in_ok-write_refusal-in-Err g c =
    let old = c.args.world.now in
    let new = c.play.new.self in
    let a = g.W.Write.contents c.args.writer.now in
    let b = g.W.Write.contents c.write_refusal.new.writer in
    event-refused old new (named_event c.args.event.now) c.play.ensures.kept.names
    c.in-Err.ensures.as_before (refusal_of c.in-Err.refusal) c.in-Err.ensures.refused a b
    (subst (λ (t : List ℕ). Appends a b t) (ap error_line c.word.ensures)
    c.in_ok-write_refusal-in-Err.ensures)
