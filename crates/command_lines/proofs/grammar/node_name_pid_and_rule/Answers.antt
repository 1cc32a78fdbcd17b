use Rattle.std.proofs.Common.{sym, subst, inl, inr}
use Rattle.std.proofs.lemmas.Result.{err_from_is_err_and}
use Rattle.term.specs.declared.faults.TextFault.{TextFault}
use Rattle.term.specs.Rules.{RefusesRule}
use Rattle.text_lines.proofs.Known.{MatchResult-err}
use Rattle.command_lines.proofs.grammar.node_name_pid_and_rule.Goals as goal

pub returns-in_err-parse_rule : goal.returns-in_err-parse_rule
returns-in_err-parse_rule c =
    let r = c.from_residual-in_err-parse_rule.result in
    let p = err_from_is_err_and r c.from_residual-in_err-parse_rule.ensures.1 in
    MatchResult-err _ _ r p.0 p.1 (inr (
      c.in_ok-parse_node_name.field-0,
      c.in_ok-parse_node_name.ensures,
      inr (
        c.in_ok-parse_name.field-0,
        c.in_ok-parse_name.ensures,
        inr (
          c.in_ok-parse_pid.field-0,
          c.in_ok-parse_pid.ensures,
          inl (subst (λ (f : TextFault). RefusesRule c.args.rule.now f) (sym p.2) c.in_err-parse_rule.ensures),
        ),
      ),
    ))
