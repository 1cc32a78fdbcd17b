use Rattle.lock_answers.proofs.Held.{is_held_somewhere as law}
use Rattle.lock_answers.proofs.is_held_somewhere.Goals as goal

pub returns : goal.returns
returns c = law
