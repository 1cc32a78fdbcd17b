use Rattle.std.proofs.Common.{sym, subst}
use Rattle.std.proofs.lemmas.Result.{err_from_is_err_and}
use Rattle.world_events.specs.declared.events.WorldEvent.{WorldEvent}
use Rattle.cluster_world.specs.Playing.{RefusedWith}
use Rattle.cluster_world.proofs.world.World.admit.Goals as goal

pub returns-in_err-admit_delivery-in-Deliver-clause-refused : goal.returns-in_err-admit_delivery-in-Deliver-clause-refused
returns-in_err-admit_delivery-in-Deliver-clause-refused g c =
    let r = c.from_residual-in_err-admit_delivery-in-Deliver in
    let p = err_from_is_err_and r.result r.ensures.1 in
    rw p.1
    (subst (λ (e : WorldEvent). RefusedWith p.0 e c.args.self.now) (sym c.in-Deliver.is)
    (rw p.2 c.in_err-admit_delivery-in-Deliver.ensures.refused))
