use Rattle.lock_answers.proofs.RetriesUsed.{uses_all_retries as law}
use Rattle.lock_answers.proofs.uses_all_retries.Goals as goal

pub returns : goal.returns
returns c = law
