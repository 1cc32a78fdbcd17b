use Rattle.std.proofs.Common.{sym, subst, inl, inr}
use Rattle.std.proofs.lemmas.Result.{err_from_is_err_and}
use Rattle.term.specs.declared.faults.TextFault.{TextFault}
use Rattle.letter_lines.specs.Processes.{RefusesProcess}
use Rattle.letter_lines.proofs.Exits.{MatchResult-err}
use Rattle.letter_lines.proofs.grammar.id_and_holder.Goals as goal

pub returns-in_err-holder : goal.returns-in_err-holder
returns-in_err-holder c =
    let r = c.from_residual-in_err-holder.result in
    let p = err_from_is_err_and r c.from_residual-in_err-holder.ensures.1 in
    MatchResult-err _ _ r p.0 p.1 (inr (
      c.in_ok-resource.resource,
      c.in_ok-resource.ensures,
      inr (
        c.in_ok-parse_node.field-0,
        c.in_ok-parse_node.ensures,
        inl (subst (λ (f : TextFault). RefusesProcess c.args.holder.now f) (sym p.2) c.in_err-holder.ensures),
      ),
    ))
