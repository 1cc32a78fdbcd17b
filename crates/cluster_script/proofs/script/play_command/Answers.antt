use Rattle.std.proofs.Common.{◌≡◌, ℕ, List, ap, ◌∙◌, subst, refl, inl, Result, Err}
use Rattle.std.specs.Io.KnownBytes.{Appends}
use Rattle.std.proofs.lemmas.Result.{err_from_is_err_and}
use Rattle.command_lines.specs.declared.faults.LineFault.{LineFault}
use Rattle.command_lines.specs.declared.grammar.LineCommand.{LineCommand}
use Rattle.command_lines.specs.Commands.{asked_by}
use Rattle.command_lines.specs.Printing.{error_line}
use Rattle.cluster_script.specs.Script.{Fails}
use Rattle.text_lines.specs.Writing.{AppendsPart}
use Rattle.cluster_script.proofs.Writing.{PlaysAsked-err}
use Rattle.cluster_script.proofs.Playing.{text-fault, play-fault}
use Rattle.cluster_script.proofs.script.play_command.Goals as goal

-- a line that was refused when it was read
refused : (command : Result LineCommand LineFault) (f : LineFault) → command ≡ Err f → asked_by command ≡ Err f
refused command f e = rw e refl

pub returns-in_err-write_refusal-in-Err : goal.returns-in_err-write_refusal-in-Err
returns-in_err-write_refusal-in-Err g c =
    let p = err_from_is_err_and c.from_residual.result c.from_residual.ensures.1 in
    PlaysAsked-err c.args.world.now c.args.world.now (asked_by c.args.command) (Fails c.in-Err.fault)
    (g.W.Write.contents c.args.writer.now) (g.W.Write.contents c.write_refusal.new.writer)
    c.from_residual.result p.0 p.1 (inl (refused c.args.command c.in-Err.fault c.in-Err.is))
    (subst (λ (t : List ℕ). AppendsPart (g.W.Write.contents c.args.writer.now)
    (g.W.Write.contents c.write_refusal.new.writer) t)
    (ap error_line c.word.ensures ∙ text-fault c.args.world.now c.in-Err.fault)
    c.in_err-write_refusal-in-Err.ensures)

pub returns-in_ok-write_refusal-in-Err : goal.returns-in_ok-write_refusal-in-Err
returns-in_ok-write_refusal-in-Err g c = (
  Fails c.in-Err.fault,
  inl (refused c.args.command c.in-Err.fault c.in-Err.is),
  play-fault c.args.world.now c.args.world.now c.in-Err.fault (g.W.Write.contents c.args.writer.now)
      (g.W.Write.contents c.write_refusal.new.writer) refl refl
      (subst (λ (t : List ℕ). Appends (g.W.Write.contents c.args.writer.now) (g.W.Write.contents c.write_refusal.new.writer)
      t) (ap error_line c.word.ensures) c.in_ok-write_refusal-in-Err.ensures),
)
