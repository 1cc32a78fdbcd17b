use Rattle.no_dead_end.proofs.CallsAnswered.{settled_worlds_answer as law}
use Rattle.no_dead_end.proofs.settled_worlds_answer.Goals as goal

pub returns : goal.returns
returns c = law
