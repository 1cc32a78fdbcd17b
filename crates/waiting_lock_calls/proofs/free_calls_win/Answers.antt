use Rattle.waiting_lock_calls.proofs.Laws.{free_calls_win as law}
use Rattle.waiting_lock_calls.proofs.free_calls_win.Goals as goal

pub returns : goal.returns
returns c = law
