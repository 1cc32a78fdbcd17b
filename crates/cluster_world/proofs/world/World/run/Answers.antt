use Rattle.std.proofs.Common.{take}
use Rattle.cluster_world.proofs.Agreeing.{agrees}
use Rattle.cluster_world.proofs.Locks.{locks_behind}
use Rattle.cluster_world.proofs.Leftovers.{leaves_nothing}
use Rattle.cluster_world.proofs.world.World.run.Goals as goal

pub returns-clause-agrees : goal.returns-clause-agrees
returns-clause-agrees g c =
    agrees (take c.play_all.result.played c.args.events.now) c.play_all.result.answers.items c.args.self.now
    c.play_all.new.self
    (record { names = c.play_all.ensures.names; cluster = c.play_all.ensures.cluster }) c.play_all.ensures.world
    c.play_all.ensures.answers

pub returns-clause-locks : goal.returns-clause-locks
returns-clause-locks g c =
    locks_behind (take c.play_all.result.played c.args.events.now) c.play_all.result.answers.items c.args.self.now
    c.play_all.new.self (returns-clause-agrees g c)

pub returns-clause-leaves_nothing : goal.returns-clause-leaves_nothing
returns-clause-leaves_nothing g c =
    leaves_nothing (take c.play_all.result.played c.args.events.now) c.play_all.result.answers.items c.args.self.now
    c.play_all.new.self (returns-clause-agrees g c)
