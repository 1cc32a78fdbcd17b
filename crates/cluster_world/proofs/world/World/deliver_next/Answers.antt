use Rattle.std.proofs.Common.{[], ◌∷◌}
use Rattle.std.proofs.lemmas.Result.{err_from_is_err_and}
use Rattle.term.specs.Nodes.{name_of}
use Rattle.world_events.specs.declared.events.WorldEvent.TheVariants.{Deliver}
use Rattle.cluster_world.proofs.Agreeing.{agrees_played}
use Rattle.cluster_world.proofs.Leftovers.{leaves_nothing}
use Rattle.cluster_world.proofs.Locks.{locks_behind}
use Rattle.cluster_world.proofs.world.World.deliver_next.Goals as goal

pub returns-in_err-read-clause-waits : goal.returns-in_err-read-clause-waits
returns-in_err-read-clause-waits g c =
    let p = err_from_is_err_and c.from_residual.result c.from_residual.ensures.1 in
    rw p.1 (record {
      sender = name_of c.in-Some.delivery.sender;
      receiver = name_of c.in-Some.delivery.receiver;
      next = c.in-Some.ensures.next;
      accepted = c.in-Some.ensures.ready.admitted.accepted;
    })

pub returns-clause-next : goal.returns-clause-next
returns-clause-next g c =
    let event = Deliver (name_of c.in-Some.delivery.sender) (name_of c.in-Some.delivery.receiver) in
    let given = c.in_ok-read.field-0.items in
    let agrees = agrees_played event c.args.self.now c.read.new.self given c.in_ok-read.ensures.ok in
    record {
      sender = name_of c.in-Some.delivery.sender;
      receiver = name_of c.in-Some.delivery.receiver;
      next = c.in-Some.ensures.next;
      played = c.in_ok-read.ensures.ok;
      agrees = agrees;
      locks = locks_behind (event ∷ []) given c.args.self.now c.read.new.self agrees;
      leaves_nothing = leaves_nothing (event ∷ []) given c.args.self.now c.read.new.self agrees;
    }
