use Rattle.std.proofs.lemmas.Result.{on_ok_weaker}
use Rattle.node_events.specs.Seen.{unnumbered}
use Rattle.node_core.proofs.Reading.{hears_own, hears_other}
use Rattle.node_core.proofs.node.NodeCore.hear.Goals as goal

pub returns-then-ne-clause-turn : goal.returns-then-ne-clause-turn
returns-then-ne-clause-turn g c =
    hears_other c.args.self.now c.hear_lock.new.self c.args.turn.now c.hear_lock.new.turn c.args.from.now
    c.args.holder.now c.registrar_pid.result c.args.granted c.registrar_pid.ensures unnumbered c.if-ne.ensures
    c.hear_lock.ensures.turn

pub returns-clause-turn : goal.returns-clause-turn
returns-clause-turn g c =
    on_ok_weaker c.hear_answer.result
    (hears_own c.args.self.now c.hear_answer.new.self c.args.turn.now c.hear_answer.new.turn c.args.from.now
    c.args.holder.now c.registrar_pid.result c.args.granted c.registrar_pid.ensures unnumbered c.if-ne.ensures)
    c.hear_answer.ensures.turn
