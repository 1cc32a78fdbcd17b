use Rattle.std.proofs.lemmas.Result.{err_from_is_err_and}
use Rattle.node_events.specs.Causes.{event_by}
use Rattle.node_core.proofs.Stepping.{steps_from}
use Rattle.node_core.proofs.node.NodeCore.accept_in_place.Goals as goal

pub returns-clause-ok : goal.returns-clause-ok
returns-clause-ok g c =
    steps_from (event_by c.args.cause) c.args.self.now c.take.new.self c.begin-turn.result c.take.new.turn
    c.begin-turn.ensures.nothing c.requires
    c.take.ensures.kept c.in_ok-take.ensures.turn c.begin-turn.ensures.whole c.begin-turn.ensures.rising

pub returns-in_err-take-clause-unchanged : goal.returns-in_err-take-clause-unchanged
returns-in_err-take-clause-unchanged g c =
    let p = err_from_is_err_and c.from_residual.result c.from_residual.ensures.1 in
    rw p.1 c.in_err-take.ensures.unchanged
