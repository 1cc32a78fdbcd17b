use Rattle.waiting_lock_calls.proofs.NamedRetried.{retries_of_names_are_told as law}
use Rattle.waiting_lock_calls.proofs.retries_of_names_are_told.Goals as goal

pub returns : goal.returns
returns c = law
