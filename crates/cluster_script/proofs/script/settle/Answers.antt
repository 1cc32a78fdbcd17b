use Rattle.std.proofs.Common.{ℕ, Bool, List, Option, Result, ◌∙◌, map, ap, refl, sym, subst, Ok, None, true}
use Rattle.std.proofs.lemmas.Option.{MatchOption-at_some, MatchOption-at_none}
use Rattle.std.proofs.lemmas.Result.{err_from_is_err_and}
use Rattle.protocol_model.specs.NamedEvents.{Settle}
use Rattle.std.specs.Io.KnownBytes.{Appends}
use Rattle.command_lines.specs.NodeEventsSeen.{answer_of}
use Rattle.command_lines.specs.declared.Answer.{Answer}
use Rattle.command_lines.specs.Grammar.{Scripted}
use Rattle.command_lines.specs.Printing.{answers_text}
use Rattle.text_lines.specs.Writing.{AppendsPart}
use Rattle.cluster_script.proofs.Writing.{PlaysAsked-err}
use Rattle.cluster_script.proofs.Settling.{Settles-start, Settles-next, settle-stopped, settle-ended, settle-broken, none_waits, none_left, settled-waits, is_none-by, answers-written, answers-part}
use Rattle.cluster_world.specs.WorldState.{WorldState}
use Rattle.text_lines.specs.declared.faults.WriteFault.{WriteFault}
use Rattle.cluster_script.specs.Script.{Plays}
use Rattle.cluster_script.specs.Played.{PlaysAsked, PlaysOrStops, settle_end}
use Rattle.cluster_script.proofs.script.settle.Goals as goal

-- it went on to its end
settled : (old new : WorldState) (a b : Option (List ℕ)) (r : Result Bool WriteFault) → PlaysOrStops old new (Plays Settle) a b r
    → PlaysAsked (Ok (Scripted Settle)) old new a b r
settled old new a b r p = (Plays Settle, refl, p)

pub loop-init : goal.loop-init
loop-init g c = Settles-start c.args.world.now (g.W.Write.contents c.args.writer.now)

pub returns-in-Ok-None : goal.returns-in-Ok-None
returns-in-Ok-None g c =
    let none = MatchOption-at_none _ _ c.in-Ok-None.field-0-is c.in-Ok-None.ensures.next in
    let a = g.W.Write.contents c.args.writer.now in
    let b = g.W.Write.contents c.loop.writer in
    subst (λ (h : WorldState). PlaysAsked (Ok (Scripted Settle)) c.args.world.now h a (g.W.Write.contents c.end_settle.new.writer)
    c.end_settle.result) (sym none.1)
    (settled c.args.world.now c.loop.world a _ _
    (settle-ended c.loop.counter c.args.world.now c.loop.world a b c.loop.invariant
    (none_waits c.loop.counter c.args.world.now c.loop.world a b c.loop.invariant none.0)
    true (settled-waits None c.loop.world none.0)
    (g.W.Write.contents c.end_settle.new.writer) c.end_settle.result c.end_settle.ensures.text c.end_settle.ensures.fine))

pub returns-in-Err : goal.returns-in-Err
returns-in-Err g c =
    let b = g.W.Write.contents c.loop.writer in
    settle-broken c.loop.counter c.args.world.now c.loop.world (g.W.Write.contents c.args.writer.now) b c.loop.invariant
    _ c.in-Err.ensures.waits.next c.loop-test.true c.deliver_next.new.self b (g.W.Write.contents c.refuse_memory.new.writer)
    c.deliver_next.ensures.kept.names
    c.in-Err.ensures.as_before refl c.refuse_memory.result c.refuse_memory.ensures.text c.refuse_memory.ensures.fine

pub returns-in_err-write_answers-in-Ok-Some : goal.returns-in_err-write_answers-in-Ok-Some
returns-in_err-write_answers-in-Ok-Some g c =
    let next = MatchOption-at_some _ _ c.in-Ok-Some.answers c.in-Ok-Some.field-0-is c.in-Ok-Some.ensures.next in
    let a = g.W.Write.contents c.args.writer.now in
    let b = g.W.Write.contents c.loop.writer in
    let d = g.W.Write.contents c.write_answers.new.writer in
    let p = err_from_is_err_and c.from_residual.result c.from_residual.ensures.1 in
    PlaysAsked-err c.args.world.now c.deliver_next.new.self (Ok (Scripted Settle)) (Plays Settle) a d c.from_residual.result p.0 p.1 refl
    (settle-stopped c.loop.counter c.args.world.now c.loop.world a b c.loop.invariant
    _ next.next c.loop-test.true d
    (answers-part c.loop.world c.deliver_next.new.self _ c.in-Ok-Some.answers.items b d next.played
    (subst (λ (xs : List Answer). AppendsPart b d (answers_text (map answer_of xs))) c.deref.ensures.value
    c.in_err-write_answers-in-Ok-Some.ensures)))

pub loop-preserved : goal.loop-preserved
loop-preserved g c =
    let next = MatchOption-at_some _ _ c.in-Ok-Some.answers c.in-Ok-Some.field-0-is c.in-Ok-Some.ensures.next in
    let a = g.W.Write.contents c.args.writer.now in
    let b = g.W.Write.contents c.loop.writer in
    let d = g.W.Write.contents c.write_answers.new.writer in
    Settles-next c.loop.counter c.args.world.now c.loop.world a b c.loop.invariant
    _ next.next c.loop-test.true c.deliver_next.new.self d
    c.deliver_next.ensures.kept.names
    next.played.happens
    (answers-written c.loop.world c.deliver_next.new.self _ c.in-Ok-Some.answers.items b d next.played
    (subst (λ (xs : List Answer). Appends b d (answers_text (map answer_of xs))) c.deref.ensures.value
    c.in_ok-write_answers-in-Ok-Some.ensures))

pub returns : goal.returns
returns g c =
    settled c.args.world.now c.loop.world (g.W.Write.contents c.args.writer.now) _ _
    (settle-ended c.loop.counter c.args.world.now c.loop.world (g.W.Write.contents c.args.writer.now)
    (g.W.Write.contents c.loop.writer) c.loop.invariant
    (none_left c.loop.counter c.args.world.now c.loop.world (g.W.Write.contents c.args.writer.now)
    (g.W.Write.contents c.loop.writer) c.loop.invariant c.loop-test.false)
    c.is_none.result
    (settled-waits c.waiting.result c.loop.world c.waiting.ensures
    ∙ ap settle_end (is_none-by c.waiting.result c.is_none.result c.is_none.ensures))
    (g.W.Write.contents c.end_settle-2.new.writer) c.end_settle-2.result c.end_settle-2.ensures.text
    c.end_settle-2.ensures.fine)
