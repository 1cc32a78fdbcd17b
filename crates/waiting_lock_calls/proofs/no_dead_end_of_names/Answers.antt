use Rattle.waiting_lock_calls.proofs.NamedFinishing.{no_dead_end_of_names as law}
use Rattle.waiting_lock_calls.proofs.no_dead_end_of_names.Goals as goal

pub returns : goal.returns
returns c = law
