use Rattle.std.proofs.Common.{ℕ, Bool, List, ap, sym, subst, ◌∙◌}
use Rattle.std.specs.Prelude.{◌&&◌}
use Rattle.protocol_model.specs.Node.{targets}
use Rattle.term.specs.Nodes.{name_of}
use Rattle.term.specs.NodeSets.{set_of}
use Rattle.transaction.specs.Calls.{target_of}
use Rattle.transaction.specs.declared.nodes.Nodes.{Nodes}
use Rattle.node_core.specs.CoreState.{CoreState, IsWithin}
use Rattle.node_core.proofs.Naming.{has_one}
use Rattle.node_core.proofs.Rounds.{first_passes}
use Rattle.node_core.proofs.Bounds.{of_world}
use Rattle.node_core.proofs.node.NodeCore.targets.Goals as goal

pub returns-in-All-clause-within : goal.returns-in-All-clause-within
returns-in-All-clause-within g c =
    subst (λ (xs : List ℕ). IsWithin c.args.self.now.world xs) (sym c.copy.ensures)
    (subst (λ (h : CoreState). IsWithin h.world c.self.inside.members) c.self.view_is
    (of_world c.self.inside.world c.self.inside.members c.self.invariant.members))

pub returns-in-Named-clause-within : goal.returns-in-Named-clause-within
returns-in-Named-clause-within g c =
    subst (λ (h : CoreState). IsWithin h.world c.named.result) c.self.view_is
    (of_world c.self.inside.world c.named.result (λ d e. c.self.invariant.members d
    (first_passes (set_of c.self.inside.members d) (set_of c.as_set.result.now (name_of d)) (sym (c.named.ensures d) ∙ e))))

pub returns-in-Named-clause-asked : goal.returns-in-Named-clause-asked
returns-in-Named-clause-asked g c = λ d.
    c.named.ensures d
    ∙ ap (λ (h : CoreState). set_of h.members d && set_of c.as_set.result.now (name_of d)) c.self.view_is
    ∙ ap (λ (ns : List ℕ). set_of c.args.self.now.members d && set_of ns (name_of d)) c.as_set.ensures.names
    ∙ ap (λ (b : Bool). set_of c.args.self.now.members d && b) (has_one c.in-Named.named d c.as_set.ensures.first)
    ∙ ap (λ (ns : Nodes). targets (set_of c.args.self.now.members) (target_of ns) d) (sym c.in-Named.is)
