use Rattle.std.proofs.Common.{Err}
use Rattle.std.proofs.lemmas.Result.{err_from_is_err_and}
use Rattle.node_port.proofs.Working.{goes_nowhere, goes_further, comes_behind, hands_on}
use Rattle.node_port.proofs.port.Port.turn_for_a_tick.Goals as goal

pub loop-init : goal.loop-init
loop-init c = goes_nowhere c.args.self.now

pub loop-preserved : goal.loop-preserved
loop-preserved c = goes_further c.args.self.now c.loop.self c.turn.new.self c.loop.invariant c.in_ok-turn.ensures

pub returns-in_err-turn : goal.returns-in_err-turn
returns-in_err-turn c =
    let p = err_from_is_err_and c.from_residual.result c.from_residual.ensures.1 in
    hands_on c.from_residual.result c.in_err-turn.field-0.0 p.0 c.args.self.now c.turn.new.self p.1 p.2
    (comes_behind (Err c.in_err-turn.field-0.0) c.args.self.now c.loop.self c.turn.new.self c.loop.invariant c.in_err-turn.ensures)
