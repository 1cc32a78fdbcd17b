use Rattle.no_dead_end.proofs.NamedQuiet.{quiet_names_answer as law}
use Rattle.no_dead_end.proofs.quiet_names_answer.Goals as goal

pub returns : goal.returns
returns c = law
