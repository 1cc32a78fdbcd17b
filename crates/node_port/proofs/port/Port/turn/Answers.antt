use Rattle.std.proofs.lemmas.Result.{err_from_is_err_and}
use Rattle.node_loop.specs.declared.fault.TurnFault.TheVariants.{Memory}
use Rattle.node_port.proofs.Working.{turned, hands_on}
use Rattle.node_port.proofs.port.Port.turn.Goals as goal

pub returns-in_err-show : goal.returns-in_err-show
returns-in_err-show c =
    let p = err_from_is_err_and c.from_residual.result c.from_residual.ensures.1 in
    hands_on c.from_residual.result Memory p.0 c.args.self.now c.show.new.self p.1 p.2 tt

pub returns : goal.returns
returns c = turned c.make_turn-outcome.result c.args.self.now c.make_turn-outcome.new.self c.show.new.self c.make_turn-outcome.ensures.turned
    c.make_turn-outcome.ensures.output c.in_ok-show.ensures
