use Rattle.getting_through.proofs.NamedThrough.{named_someone_gets_through as law}
use Rattle.getting_through.proofs.named_someone_gets_through.Goals as goal

pub returns : goal.returns
returns c = law
