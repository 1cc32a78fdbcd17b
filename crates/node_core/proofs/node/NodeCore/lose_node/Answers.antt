use Rattle.std.proofs.Common.{map, ap, sym, subst, take, take_all, ◌∙◌}
use Rattle.lock_calls.specs.LockCallsState.{AreOrdered, seen}
use Rattle.node_core.specs.CoreState.{CoreState}
use Rattle.node_core.proofs.Each.{losses_all}
use Rattle.node_core.proofs.node.NodeCore.lose_node.Goals as goal

pub returns-clause-turn : goal.returns-clause-turn
returns-clause-turn g c =
    losses_all c.args.gone.now _ c.args.self.now c.loop-holder.self c.args.turn.now c.loop-holder.turn
    (take c.loop-holder.holder-index c.args.holders.now) c.self.view_is c.self.invariant
    (subst (λ (h : CoreState). AreOrdered h.calls.node (seen h.calls)) (sym c.self.view_is) c.requires.ordered)
    (take_all c.loop-holder.holder-index c.args.holders.now c.loop-holder-test.false ∙ c.requires.holders
    ∙ ap (λ (h : CoreState). map (λ c. c.holder) h.calls.calls) (sym c.self.view_is))
    c.loop-holder.invariant.makes
