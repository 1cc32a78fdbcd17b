use Rattle.std.proofs.Common.{ℕ, List, ◌≡◌, true, subst}
use Rattle.term.specs.NodeSets.{set_of}
use Rattle.cluster_world.proofs.Restarting.{core_world}
use Rattle.cluster_world.proofs.world.World.members.Goals as goal

pub returns-clause-within : goal.returns-clause-within
returns-clause-within g c = λ stays k e.
    subst (λ (ns : List ℕ). set_of ns k ≡ true)
    (core_world _ c.in_ok-core.ensures.whole c.args.node.now c.in_ok-core.field-0.now c.in_ok-core.ensures.core stays)
    (c.members.ensures.whole.members k (subst (λ (ms : List ℕ). set_of ms k ≡ true) c.members.ensures.members e))
