use Rattle.lock_answers.proofs.QuietCalls.{quiet_calls_are_answered as law}
use Rattle.lock_answers.proofs.quiet_calls_are_answered.Goals as goal

pub returns : goal.returns
returns c = law
