use Rattle.std.proofs.Common.{refl}
use Rattle.node_core.specs.Steps.{EntersCall}
use Rattle.node_events.specs.Seen.{unnumbered}
use Rattle.node_core.proofs.Rules.{grants, granted_by}
use Rattle.node_core.proofs.node.NodeCore.decide.Goals as goal

pub returns-in-Yes-clause-turn : goal.returns-in-Yes-clause-turn
returns-in-Yes-clause-turn g c =
    let made : EntersCall c.args.self.now.name c.args.call c.args.name_call c.reply_to-reply.result c.args.turn.now
    c.enter_call.new.turn = c.enter_call.ensures.entered in
    grants c.args.self.now c.args.self.now c.write.new.self c.args.turn.now c.enter_call.new.turn c.write.new.turn
    c.args.asked c.args.call c.args.name_call
    c.reply_to-reply.result made.0 c.change-change.result refl c.requires.current
    c.reply_to-reply.ensures.reply (granted_by c.reply_to-reply.result c.in-Yes.is) c.change-change.ensures
    made.1 made.2 c.write.ensures.turn unnumbered
