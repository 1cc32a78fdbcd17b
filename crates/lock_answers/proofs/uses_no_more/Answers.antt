use Rattle.lock_answers.proofs.RetriesUsed.{uses_no_more as law}
use Rattle.lock_answers.proofs.uses_no_more.Goals as goal

pub returns : goal.returns
returns c = law
