use Rattle.getting_through.proofs.NamedThrough.{named_storms_are_few as law}
use Rattle.getting_through.proofs.named_storms_are_few.Goals as goal

pub returns : goal.returns
returns c = law
