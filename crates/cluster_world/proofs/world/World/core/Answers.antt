use Rattle.std.proofs.Common.{ℕ, List, ◌∙◌, ap, sym}
use Rattle.term.specs.NodeSets.{set_of}
use Rattle.link.specs.MeshState.{place}
use Rattle.cluster_world.specs.Cores.{core_of}
use Rattle.cluster_world.specs.WorldState.{WorldState, nodes_of}
use Rattle.cluster_world.proofs.Cores.{no_core}
use Rattle.cluster_world.proofs.Listed.{no_place, known_place}
use Rattle.cluster_world.proofs.Steps.{core_name, core_is}
use Rattle.cluster_world.proofs.world.World.core.Goals as goal

pub returns-in_err-place-clause-here : goal.returns-in_err-place-clause-here
returns-in_err-place-clause-here g c =
    rw c.from_residual.ensures (sym (ap (λ (k : WorldState). set_of (nodes_of k) c.args.node.now) (sym c.self.view_is)
    ∙ ap (λ (ns : List ℕ). set_of ns c.args.node.now) (sym c.nodes.ensures.nodes)
    ∙ no_place c.nodes.result.now c.args.node.now (sym c.position.ensures ∙ c.in_err-place.was)))

pub returns-in_err-place-clause-core : goal.returns-in_err-place-clause-core
returns-in_err-place-clause-core g c =
    rw c.from_residual.ensures (sym (ap (λ (k : WorldState). core_of c.args.node.now k.cores) (sym c.self.view_is)
    ∙ no_core core_name c.self.inside.cores.items c.args.node.now
    (ap (λ (ns : List ℕ). set_of ns c.args.node.now) c.self.invariant.names
    ∙ ap (λ (ns : List ℕ). set_of ns c.args.node.now) (sym c.nodes.ensures.nodes)
    ∙ no_place c.nodes.result.now c.args.node.now (sym c.position.ensures ∙ c.in_err-place.was))))

pub returns-clause-here : goal.returns-clause-here
returns-clause-here g c =
    sym (ap (λ (k : WorldState). set_of (nodes_of k) c.args.node.now) (sym c.self.view_is)
    ∙ ap (λ (ns : List ℕ). set_of ns c.args.node.now) (sym c.nodes.ensures.nodes)
    ∙ known_place c.nodes.result.now c.args.node.now c.in_ok-place.place (sym c.position.ensures ∙ c.in_ok-place.was))

pub returns-clause-core : goal.returns-clause-core
returns-clause-core g c =
    sym (ap (λ (k : WorldState). core_of c.args.node.now k.cores) (sym c.self.view_is)
    ∙ core_is _ c.self.invariant c.args.node.now c.in_ok-place.place c.index.result.now
    (ap (place c.args.node.now) (sym c.nodes.ensures.nodes) ∙ sym c.position.ensures ∙ c.in_ok-place.was) c.index.ensures)
