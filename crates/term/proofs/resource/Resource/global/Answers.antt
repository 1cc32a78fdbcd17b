use Rattle.term.specs.LockIds.{global_text}
use Rattle.term.proofs.resource.Resource.global.Goals as goal

pub returns : goal.returns
unfolding global_text
returns c = c.of.ensures
