use Rattle.std.proofs.Common.{ℕ, List, ap, subst, ◌∙◌}
use Rattle.std.proofs.lemmas.Bool.{false≢true}
use Rattle.std.proofs.lemmas.Result.{err_from_is_err_and}
use Rattle.protocol_model.specs.NamedEvents.{Started}
use Rattle.command_lines.specs.Printing.{output_line}
use Rattle.text_lines.specs.Writing.{Writes}
use Rattle.text_lines.proofs.Written.{Writes-err, AppendsPart-none}
use Rattle.cluster_script.proofs.script.write_started.Goals as goal

pub returns-in_default : goal.returns-in_default
returns-in_default g c = λ known. absurd (false≢true (c.in_default.ensures.here ∙ known))

pub returns-in_err-line : goal.returns-in_err-line
returns-in_err-line g c = λ known.
    let p = err_from_is_err_and c.from_residual.result c.from_residual.ensures.1 in
    Writes-err _ _ c.from_residual.result p.0 _ p.1 (AppendsPart-none _ _)

pub returns : goal.returns
returns g c = λ known.
    subst (λ (t : List ℕ). Writes (g.W.Write.contents c.args.writer.now) (g.W.Write.contents c.write_text.new.writer)
    c.write_text.result t)
    (c.as_bytes.ensures.value ∙ c.in_ok-line.ensures ∙ ap (λ (n : ℕ). output_line (Started n)) c.in-Some.ensures.node.1)
    c.write_text.ensures
