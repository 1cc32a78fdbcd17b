use Rattle.creations.proofs.Refusing.{restarts_say_why as law}
use Rattle.creations.proofs.restarts_say_why.Goals as goal

pub returns : goal.returns
returns c = law
