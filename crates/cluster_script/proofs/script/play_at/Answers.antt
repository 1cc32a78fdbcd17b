use Rattle.std.proofs.Common.{ℕ, List, Bool, Result, Ok, Some, refl, sym, ap, subst, ◌∙◌}
use Rattle.std.specs.Io.KnownBytes.{Appends}
use Rattle.std.proofs.lemmas.Result.{err_from_is_err_and}
use Rattle.protocol_model.specs.Event.{NoSuchNode}
use Rattle.protocol_model.specs.NamedEvents.{At, Plain, Play}
use Rattle.term.specs.Nodes.{text_in}
use Rattle.command_lines.specs.Events.{own_event_of}
use Rattle.command_lines.specs.Grammar.{Scripted}
use Rattle.command_lines.specs.Printing.{error_line}
use Rattle.text_lines.specs.Writing.{AppendsPart}
use Rattle.text_lines.specs.declared.faults.WriteFault.{WriteFault}
use Rattle.cluster_script.specs.Played.{PlaysAsked}
use Rattle.cluster_script.proofs.Meaning.{nobody, PlaysAsked-named}
use Rattle.cluster_script.proofs.Playing.{event-refused, event-unwritten}
use Rattle.cluster_script.proofs.script.play_at.Goals as goal

pub returns-in_err-write_refusal : goal.returns-in_err-write_refusal
returns-in_err-write_refusal g c =
    let h = c.args.world.now in
    let a = g.W.Write.contents c.args.writer.now in
    let b = g.W.Write.contents c.write_refusal.new.writer in
    let e = At (text_in c.args.name.now) (own_event_of c.args.event) in
    let p = err_from_is_err_and c.from_residual.result c.from_residual.ensures.1 in
    subst (λ (r : Result Bool WriteFault). PlaysAsked (Ok (Scripted (Play e))) h h a b r) (sym p.1)
    (event-unwritten h h e refl refl (Some (Plain NoSuchNode))
    (nobody h (text_in c.args.name.now) (own_event_of c.args.event) (sym c.in_default.ensures.here)) a b
    (subst (λ (t : List ℕ). AppendsPart a b t) (ap error_line c.word.ensures) c.in_err-write_refusal.ensures) p.0)

pub returns-in_default : goal.returns-in_default
returns-in_default g c =
    let h = c.args.world.now in
    event-refused h h (At (text_in c.args.name.now) (own_event_of c.args.event)) refl refl (Some (Plain NoSuchNode))
    (nobody h (text_in c.args.name.now) (own_event_of c.args.event) (sym c.in_default.ensures.here))
    (g.W.Write.contents c.args.writer.now) (g.W.Write.contents c.write_refusal.new.writer)
    (subst (λ (t : List ℕ). Appends (g.W.Write.contents c.args.writer.now) (g.W.Write.contents c.write_refusal.new.writer) t)
    (ap error_line c.word.ensures) c.in_ok-write_refusal.ensures)

pub returns : goal.returns
returns g c =
    PlaysAsked-named c.args.world.now c.play_event.new.world c.args.name.now (own_event_of c.args.event)
    (g.W.Write.contents c.args.writer.now) (g.W.Write.contents c.play_event.new.writer)
    c.copy.result (c.copy.ensures ∙ c.in-Some.ensures.node.1) c.play_event.result c.play_event.ensures
