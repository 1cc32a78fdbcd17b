use Rattle.getting_through.proofs.NamedFinishing.{named_retries_lower as law}
use Rattle.getting_through.proofs.named_retries_lower.Goals as goal

pub returns : goal.returns
returns c = law
