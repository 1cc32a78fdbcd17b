use Rattle.std.proofs.Common.{sym}
use Rattle.cluster_world.proofs.Finishing.{more_retries}
use Rattle.cluster_world.proofs.world.World.retry_into.Goals as goal

pub returns-clause-waits : goal.returns-clause-waits
returns-clause-waits g c =
    more_retries c.args.self.now c.first_refused.ensures.whole c.requires c.in-Some.node (sym c.in-Some.ensures.first)
