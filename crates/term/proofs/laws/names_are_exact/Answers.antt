use Rattle.term.proofs.ExactTexts.{exact_texts}
use Rattle.term.proofs.laws.names_are_exact.Goals as goal

pub returns : goal.returns
returns c = exact_texts
