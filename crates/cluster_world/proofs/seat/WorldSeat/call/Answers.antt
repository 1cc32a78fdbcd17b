use Rattle.std.proofs.Common.{◌∙◌}
use Rattle.std.proofs.lemmas.Result.{err_from_is_err_and}
use Rattle.cluster_world.proofs.Seats.{unplayed_call, called_at_once, called_later}
use Rattle.cluster_world.proofs.seat.WorldSeat.call.Goals as goal

pub returns-in-Some-clause-called : goal.returns-in-Some-clause-called
returns-in-Some-clause-called g c =
    rw (← c.self.view_is)
    (called_at_once _ c.copy-node.result c.copy.result c.next_number-number.result c.in_ok-answers.ensures.admitted.0 c.args.call
    _ c.begin.new.world c.in_ok-answers.answers.items c.as_slice.result.now c.verdict_in.result
    c.copy-node.ensures c.copy.ensures c.in_ok-answers.ensures.admitted.1 c.next_number-number.ensures
    c.in_ok-answers.ensures.played c.as_slice.ensures.value c.verdict_in.ensures c.in-Some.granted c.in-Some.is)

pub returns-clause-kept : goal.returns-clause-kept
returns-clause-kept g c = rw (← c.self.view_is) (record {
  names = c.wait.ensures.kept.names ∙ c.begin.ensures.kept.names;
  cluster = c.wait.ensures.kept.cluster ∙ c.begin.ensures.kept.cluster;
})

pub returns-clause-called : goal.returns-clause-called
returns-clause-called g c =
    rw (← c.self.view_is)
    (called_later _ c.copy-node.result c.copy.result c.next_number-number.result c.in_ok-answers.ensures.admitted.0 c.args.call
    _ c.begin.new.world c.in_ok-answers.answers.items c.as_slice.result.now c.verdict_in.result
    c.copy-node.ensures c.copy.ensures c.in_ok-answers.ensures.admitted.1 c.next_number-number.ensures
    c.in_ok-answers.ensures.played c.as_slice.ensures.value c.verdict_in.ensures c.wait.new.self c.wait.result c.wait.ensures.kept
    c.in-None.is c.wait.ensures.waited)

pub returns-in_err-answers-clause-called : goal.returns-in_err-answers-clause-called
returns-in_err-answers-clause-called g c =
    let p = err_from_is_err_and c.from_residual.result c.from_residual.ensures.1 in
    rw (p.1, p.2)
    (rw (← c.self.view_is)
    (unplayed_call _ c.copy-node.result c.copy.result c.args.call _ c.begin.new.world c.in_err-answers.field-0.0
    c.copy-node.ensures c.copy.ensures c.in_err-answers.ensures.unplayed))
