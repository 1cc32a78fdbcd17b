use Rattle.getting_through.proofs.NamedFinishing.{finishing_ends as law}
use Rattle.getting_through.proofs.finishing_ends.Goals as goal

pub returns : goal.returns
returns c = law
