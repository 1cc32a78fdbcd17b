use Rattle.lock_answers.proofs.FailsReasoned.{fails_for_a_reason as law}
use Rattle.lock_answers.proofs.fails_for_a_reason.Goals as goal

pub returns : goal.returns
returns c = law
