use Rattle.std.proofs.Common.{◌∙◌, ap}
use Rattle.registry_model.specs.Process.{Process}
use Rattle.cluster_world.proofs.Unmade.{deletion_asked}
use Rattle.cluster_world.proofs.world.World.deletion_refusal.Goals as goal

pub returns : goal.returns
returns g c = λ nodes.
    deletion_asked c.copy-3.result c.args.holder.now c.copy.result c.args.id.now c.copy-2.result c.args.self.now
    (c.copy-3.ensures ∙ ap (λ (p : Process). p.node) c.holder.view_is) c.copy.ensures c.copy-2.ensures nodes
    c.admit.result c.err.result c.err.ensures.value c.admit.ensures.ok c.admit.ensures.event c.admit.ensures.refused
