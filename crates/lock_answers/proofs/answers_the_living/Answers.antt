use Rattle.lock_answers.proofs.Living.{answers_the_living as law}
use Rattle.lock_answers.proofs.answers_the_living.Goals as goal

pub returns : goal.returns
returns c = law
