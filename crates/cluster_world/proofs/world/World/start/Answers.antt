use Rattle.std.proofs.Common.{ℕ, List, [], map, refl, sym, ap, subst, ◌∙◌}
use Rattle.std.specs.List.{All}
use Rattle.term.specs.Nodes.{IsFirst}
use Rattle.term.specs.NodeSets.{set_of}
use Rattle.cluster_world.specs.NodeCoreState.{AreOf}
use Rattle.node_core.specs.CoreState.{opening_core}
use Rattle.cluster_world.proofs.Agreeing.{agreed}
use Rattle.cluster_world.proofs.Leftovers.{nothing_left}
use Rattle.cluster_world.proofs.Locks.{locks_after}
use Rattle.cluster_world.proofs.Starting.{opens_whole, opens_named}
use Rattle.cluster_world.proofs.world.World.start.Goals as goal

pub invariant_of-result : goal.invariant_of-result
invariant_of-result g c = opens_whole c.in_ok-opening.opening.nodes c.copy.result c.nodes.ensures.opened.first
    (subst (AreOf c.in_ok-opening.opening.nodes) (sym (c.copy.ensures ∙ c.cluster.ensures)) c.nodes.ensures.opened.within)
    c.in_ok-cores.cores.items _ c.in_ok-links.links c.in_ok-history.history.entries
    (c.in_ok-cores.ensures.cores ∙ ap (λ (ks : List ℕ). map (opening_core c.in_ok-opening.opening.nodes ks)
    c.in_ok-opening.opening.nodes) (sym (c.copy.ensures ∙ c.cluster.ensures)))
    (rw c.new-3.ensures refl) (c.in_ok-links.ensures.nodes ∙ c.nodes.ensures.nodes) c.in_ok-links.ensures.links
    c.in_ok-history.ensures c.in_ok-cores.ensures.set

pub returns-clause-nodes : goal.returns-clause-nodes
returns-clause-nodes g c = record {
  nodes = λ k. ap (λ (ns : List ℕ). set_of ns k) (c.in_ok-links.ensures.nodes ∙ c.nodes.ensures.nodes)
      ∙ c.in_ok-opening.ensures.ok.nodes k;
  joined = λ k. ap (λ (ns : List ℕ). set_of ns k) (c.copy.ensures ∙ c.cluster.ensures) ∙ c.in_ok-opening.ensures.ok.joined k;
}

pub returns-clause-world : goal.returns-clause-world
returns-clause-world g c = opens_named c.in_ok-opening.opening.nodes c.copy.result c.nodes.ensures.opened.first
    (subst (AreOf c.in_ok-opening.opening.nodes) (sym (c.copy.ensures ∙ c.cluster.ensures)) c.nodes.ensures.opened.within)
    c.in_ok-cores.cores.items _ c.in_ok-links.links c.in_ok-history.history.entries
    (c.in_ok-cores.ensures.cores ∙ ap (λ (ks : List ℕ). map (opening_core c.in_ok-opening.opening.nodes ks)
    c.in_ok-opening.opening.nodes) (sym (c.copy.ensures ∙ c.cluster.ensures)))
    (rw c.new-3.ensures refl) (c.in_ok-links.ensures.nodes ∙ c.nodes.ensures.nodes) c.in_ok-links.ensures.links
    c.in_ok-history.ensures

pub returns-clause-agrees : goal.returns-clause-agrees
returns-clause-agrees g c = agreed [] _ (returns-clause-world g c)

pub returns-clause-locks : goal.returns-clause-locks
returns-clause-locks g c = (locks_after [] _ (returns-clause-agrees g c)).0

pub returns-clause-leaves_nothing : goal.returns-clause-leaves_nothing
returns-clause-leaves_nothing g c = nothing_left [] _ (returns-clause-agrees g c)

pub returns-clause-first : goal.returns-clause-first
returns-clause-first g c =
    subst (All IsFirst) (sym (c.in_ok-links.ensures.nodes ∙ c.nodes.ensures.nodes)) c.nodes.ensures.opened.first
