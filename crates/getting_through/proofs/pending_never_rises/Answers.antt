use Rattle.getting_through.proofs.Freeing.{pending_never_rises as law}
use Rattle.getting_through.proofs.pending_never_rises.Goals as goal

pub returns : goal.returns
returns c = law
