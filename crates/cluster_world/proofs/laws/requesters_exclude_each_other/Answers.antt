use Rattle.cluster_world.proofs.Locks.{never_both}
use Rattle.cluster_world.proofs.laws.requesters_exclude_each_other.Goals as goal

pub returns : goal.returns
returns c = never_both
