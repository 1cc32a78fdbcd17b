use Rattle.no_dead_end.proofs.NamedQuiet.{settled_names_answer as law}
use Rattle.no_dead_end.proofs.settled_names_answer.Goals as goal

pub returns : goal.returns
returns c = law
