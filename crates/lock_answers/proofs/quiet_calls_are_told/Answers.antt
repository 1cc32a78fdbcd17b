use Rattle.lock_answers.proofs.QuietCalls.{quiet_calls_are_told as law}
use Rattle.lock_answers.proofs.quiet_calls_are_told.Goals as goal

pub returns : goal.returns
returns c = law
