use Rattle.std.proofs.Common.{refl, ap, ◌∙◌}
use Rattle.std.specs.Option.{option_map}
use Rattle.term.specs.NodeSets.{set_of}
use Rattle.node_core.specs.CoreState.{CoreState}
use Rattle.node_events.specs.Seen.{reply_of}
use Rattle.node_core.proofs.Rules.{does}
use Rattle.node_core.proofs.node.NodeCore.done.Goals as goal

pub returns-clause-turn : goal.returns-clause-turn
returns-clause-turn g c =
    does c.args.self.now c.args.self.now c.finish.new.self c.args.turn.now c.enter.new.self c.finish.new.turn
    c.copy.result (set_of c.args.asked.now)
    (option_map reply_of c.args.reply) refl (c.copy.ensures ∙ ap (λ (h : CoreState). h.name) c.self.view_is)
    c.enter.ensures.made c.finish.ensures.turn
