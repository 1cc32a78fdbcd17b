use Rattle.std.proofs.lemmas.Result.{err_from_is_err_and}
use Rattle.node_port.proofs.Working.{comes_behind, hands_on}
use Rattle.node_port.proofs.port.Port.pass_time.Goals as goal

pub returns-in_err-turn_for_a_tick : goal.returns-in_err-turn_for_a_tick
returns-in_err-turn_for_a_tick c =
    let p = err_from_is_err_and c.from_residual.result c.from_residual.ensures.1 in
    hands_on c.from_residual.result c.in_err-turn_for_a_tick.field-0.0 p.0 c.args.self.now c.turn_for_a_tick.new.self p.1 p.2
    c.in_err-turn_for_a_tick.ensures

pub returns : goal.returns
returns c = comes_behind c.settle.result c.args.self.now c.turn_for_a_tick.new.self c.settle.new.self c.in_ok-turn_for_a_tick.ensures c.settle.ensures
