use Rattle.waiting_lock_calls.proofs.NamedRetried.{free_calls_of_names_win as law}
use Rattle.waiting_lock_calls.proofs.free_calls_of_names_win.Goals as goal

pub returns : goal.returns
returns c = law
