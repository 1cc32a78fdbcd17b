use Rattle.lock_answers.proofs.GivenBack.{given_back as law}
use Rattle.lock_answers.proofs.deletions_are_done.Goals as goal

pub returns : goal.returns
returns c = law
