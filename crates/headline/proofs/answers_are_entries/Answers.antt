use Rattle.headline.proofs.Theorem.{answers_are_entries as law}
use Rattle.headline.proofs.answers_are_entries.Goals as goal

pub returns : goal.returns
returns c = law
