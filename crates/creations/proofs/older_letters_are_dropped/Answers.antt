use Rattle.creations.proofs.Always.{older_letters_are_dropped as law}
use Rattle.creations.proofs.older_letters_are_dropped.Goals as goal

pub returns : goal.returns
returns c = law
