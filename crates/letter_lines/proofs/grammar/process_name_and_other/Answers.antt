use Rattle.std.proofs.Common.{sym, subst, inl, inr}
use Rattle.std.proofs.lemmas.Result.{err_from_is_err_and}
use Rattle.term.specs.declared.faults.TextFault.{TextFault}
use Rattle.letter_lines.specs.Processes.{RefusesProcess}
use Rattle.letter_lines.proofs.Exits.{MatchResult-err}
use Rattle.letter_lines.proofs.grammar.process_name_and_other.Goals as goal

pub returns-in_err-parse_process-2 : goal.returns-in_err-parse_process-2
returns-in_err-parse_process-2 c =
    let r = c.from_residual-in_err-parse_process-2.result in
    let p = err_from_is_err_and r c.from_residual-in_err-parse_process-2.ensures.1 in
    MatchResult-err _ _ r p.0 p.1 (inr (
      c.in_ok-parse_process.field-0,
      c.in_ok-parse_process.ensures,
      inr (
        c.in_ok-parse_name.field-0,
        c.in_ok-parse_name.ensures,
        inl (subst (λ (f : TextFault). RefusesProcess c.args.other.now f) (sym p.2) c.in_err-parse_process-2.ensures),
      ),
    ))
