use Rattle.std.proofs.Common.{ℕ, ◌≡◌, ◌∙◌, Some, false, ap, subst}
use Rattle.std.specs.Prelude.{MatchOption}
use Rattle.term.specs.Nodes.{name_of}
use Rattle.term.specs.NodeSets.{names_in}
use Rattle.link.specs.MeshState.{place}
use Rattle.cluster_world.specs.WorldState.{WorldState, nodes_of}
use Rattle.cluster_world.proofs.Untold.{placed}
use Rattle.cluster_world.proofs.world.World.place_of.Goals as goal

pub returns-clause-place : goal.returns-clause-place
returns-clause-place g c =
    subst (λ (h : WorldState). MatchOption c.position.result (names_in (nodes_of h) c.args.name.now ≡ false)
    (λ (k : ℕ). (n : ℕ) × (place n (nodes_of h) ≡ Some k) × (name_of n ≡ c.args.name.now))) c.self.view_is
    (placed c.self.inside.links.nodes c.in_ok-node.node.now c.args.name.now c.position.result
    (c.position.ensures ∙ ap (place c.in_ok-node.node.now) c.nodes-nodes.ensures.nodes)
    c.in_ok-node.ensures.0 c.in_ok-node.ensures.1)
