use Rattle.waiting_lock_calls.proofs.Laws.{retries_are_told as law}
use Rattle.waiting_lock_calls.proofs.retries_are_told.Goals as goal

pub returns : goal.returns
returns c = law
