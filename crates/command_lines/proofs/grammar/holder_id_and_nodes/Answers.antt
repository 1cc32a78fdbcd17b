use Rattle.std.proofs.Common.{sym, subst, inl, inr}
use Rattle.std.proofs.lemmas.Result.{err_from_is_err_and}
use Rattle.term.specs.declared.faults.TextFault.{TextFault}
use Rattle.command_lines.specs.LockTexts.{RefusesTarget}
use Rattle.text_lines.proofs.Known.{MatchResult-err}
use Rattle.command_lines.proofs.grammar.holder_id_and_nodes.Goals as goal

pub returns-in_err-parse_target : goal.returns-in_err-parse_target
returns-in_err-parse_target c =
    let r = c.from_residual-in_err-parse_target.result in
    let p = err_from_is_err_and r c.from_residual-in_err-parse_target.ensures.1 in
    MatchResult-err _ _ r p.0 p.1 (inr (
      c.in_ok-holder.holder,
      c.in_ok-holder.ensures,
      inr (
        c.in_ok-parse_resource.field-0,
        c.in_ok-parse_resource.ensures,
        inr (
          c.in_ok-parse_requester.field-0,
          c.in_ok-parse_requester.ensures,
          inl (subst (λ (f : TextFault). RefusesTarget c.args.nodes.now f) (sym p.2) c.in_err-parse_target.ensures),
        ),
      ),
    ))
