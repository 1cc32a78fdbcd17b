use Rattle.getting_through.proofs.Freeing.{storms_are_few as law}
use Rattle.getting_through.proofs.storms_are_few.Goals as goal

pub returns : goal.returns
returns c = law
