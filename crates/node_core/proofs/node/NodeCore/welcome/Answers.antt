use Rattle.std.proofs.Common.{List, sym, subst}
use Rattle.registry_model.specs.Process.{Process}
use Rattle.protocol_model.specs.Calling.{kill}
use Rattle.node_core.specs.CoreState.{CoreState}
use Rattle.node_core.specs.Joining.{IsWelcomeTo}
use Rattle.node_events.specs.Seen.{unnumbered}
use Rattle.node_core.specs.Steps.{Makes}
use Rattle.term.specs.NodeSets.{set_of, with_older}
use Rattle.exchange.specs.Bodies.{fate_in}
use Rattle.node_core.proofs.Joining.{arrives, welcomes}
use Rattle.node_core.proofs.Rooms.{roomier}
use Rattle.node_core.proofs.node.NodeCore.welcome.Goals as goal

pub returns-clause-turn : goal.returns-clause-turn
returns-clause-turn g c = λ to.
    welcomes _ c.args.self.now c.note.new.self c.kill.new.self c.args.turn.now c.reserve.new.self c.answer-2.new.self
    c.send.new.self c.args.from.now c.copy.result c.in-Some.number c.finish.new.self c.args.body.now c.answer.result
    unnumbered c.self.view_is c.in-Some.ensures.number c.finish.ensures
    (arrives _ c.move_in.new.self c.note.new.self c.args.turn.now (set_of c.args.body.now.members)
    c.args.body.now.pairs.items (with_older c.args.body.now.told) (fate_in c.args.body.now)
    (c.in_ok-move_in.ensures.turn c.args.turn.now
    (subst (λ (h : CoreState). IsWelcomeTo h.world h.name c.args.body.now) (sym c.self.view_is) to))
    (c.in_ok-note.ensures.turn c.args.turn.now (fate_in c.args.body.now) (sym c.as_slice.ensures.value)))
    (roomier c.reserve.ensures.made
    (subst (λ (ps : List Process). Makes (λ n a. kill n a ps) c.note.new.self c.args.turn.now c.kill.new.self
    c.kill.new.turn) c.as_slice-2.ensures.value c.in_ok-kill.ensures.turn)) c.answer.ensures c.answer-2.ensures.made
    c.copy.ensures c.send.ensures.made
