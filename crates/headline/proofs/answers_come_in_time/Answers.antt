use Rattle.headline.proofs.Theorem.{answers_come_in_time as law}
use Rattle.headline.proofs.answers_come_in_time.Goals as goal

pub returns : goal.returns
returns c = law
