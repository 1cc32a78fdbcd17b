use Rattle.std.proofs.Common.{refl}
use Rattle.cluster_world.proofs.Admissions.{found_admitted}
use Rattle.cluster_world.proofs.Seats.{refused_event, unplayed_event}
use Rattle.cluster_world.proofs.seat.begin.Goals as goal

pub returns-in_err-admission-clause-unplayed : goal.returns-in_err-admission-clause-unplayed
returns-in_err-admission-clause-unplayed g c =
    refused_event c.args.event.now c.args.world.now c.args.world.now c.from_residual.result _ c.from_residual.ensures.1
    c.in_err-admission.ensures.refused (λ kept. refl) refl

pub returns-in_err-reserve-clause-unplayed : goal.returns-in_err-reserve-clause-unplayed
returns-in_err-reserve-clause-unplayed g c =
    unplayed_event c.args.event.now c.args.world.now c.args.world.now _ c.from_residual-in_err-reserve.result
    c.from_residual-in_err-reserve.ensures.1
    (found_admitted c.in_ok-admission.admission c.args.world.now c.args.event.now c.in_ok-admission.ensures.ok
    c.in_ok-admission.ensures.event) refl

pub returns-in_err-accept-clause-unplayed : goal.returns-in_err-accept-clause-unplayed
returns-in_err-accept-clause-unplayed g c =
    unplayed_event c.args.event.now c.args.world.now c.accept.new.self _ c.from_residual-in_err-accept.result
    c.from_residual-in_err-accept.ensures.1
    (found_admitted c.in_ok-admission.admission c.args.world.now c.args.event.now c.in_ok-admission.ensures.ok
    c.in_ok-admission.ensures.event) c.in_err-accept.ensures.as_before
