use Rattle.waiting_lock_calls.proofs.Finishing.{no_dead_end as law}
use Rattle.waiting_lock_calls.proofs.no_dead_end.Goals as goal

pub returns : goal.returns
returns c = law
