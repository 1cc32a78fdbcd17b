use Rattle.lock_answers.proofs.ClientLocks.{client_locks as law}
use Rattle.lock_answers.proofs.client_locks.Goals as goal

pub returns : goal.returns
returns c = law
