use Rattle.getting_through.proofs.NamedStorms.{named_pending_never_rises as law}
use Rattle.getting_through.proofs.named_pending_never_rises.Goals as goal

pub returns : goal.returns
returns c = law
