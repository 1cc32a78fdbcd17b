use Rattle.term.proofs.ExactRules.{exact_rules}
use Rattle.term.proofs.laws.rules_are_exact.Goals as goal

pub returns : goal.returns
returns c = exact_rules
