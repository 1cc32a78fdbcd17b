use Rattle.std.proofs.Common.{ℕ, List, ap, ◌∙◌}
use Rattle.term.specs.NodeSets.{without_node}
use Rattle.node_core.specs.CoreState.{CoreState}
use Rattle.node_core.proofs.Leaving.{leaves}
use Rattle.node_core.proofs.node.NodeCore.leave.Goals as goal

pub returns-clause-turn : goal.returns-clause-turn
returns-clause-turn g c =
    leaves c.args.self.now c.args.turn.now c.enter.new.self c.send_all.new.self c.copy.result c.remove.new.self
    (c.copy.ensures ∙ ap (λ (h : CoreState). h.name) c.self.view_is) c.enter.ensures.made
    (c.remove.ensures.others ∙ ap (λ (xs : List ℕ). without_node xs c.self.inside.node) c.copy-others.ensures
    ∙ ap (λ (h : CoreState). without_node h.world h.name) c.self.view_is) c.send_all.ensures.set
    c.send_all.ensures.letters
