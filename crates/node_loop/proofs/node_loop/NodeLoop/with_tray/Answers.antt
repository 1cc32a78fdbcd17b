use Rattle.std.proofs.Common.{◌≡◌, refl, subst, ◌∙◌}
use Rattle.std.specs.List.Sorted.{IsStrictlyIncreasing}
use Rattle.node_loop.proofs.Beginning.{begins_sound}
use Rattle.node_loop.proofs.BeginningFrom.{begins_sound_from}
use Rattle.node_loop.proofs.node_loop.NodeLoop.with_tray.Goals as goal

pub returns-clause-sound : goal.returns-clause-sound
returns-clause-sound g c =
    let same : c.copy-world.result ≡ c.args.core.world = c.copy-world.ensures ∙ c.world.ensures.world in
    begins_sound c.args.core _ (subst IsStrictlyIncreasing same c.len.ensures.set.rising) refl same
    (λ j. record {
      node = (c.new-log.ensures.node ∙ c.copy.ensures ∙ c.node.ensures.name) j;
      entries = c.new-log.ensures.entries j;
    })
    c.requires

pub returns-clause-sound_from : goal.returns-clause-sound_from
returns-clause-sound_from g c =
    let same : c.copy-world.result ≡ c.args.core.world = c.copy-world.ensures ∙ c.world.ensures.world in
    begins_sound_from c.args.core _ c.args.stamp (subst IsStrictlyIncreasing same c.len.ensures.set.rising) refl same
    (λ j. record {
      node = (c.new-log.ensures.node ∙ c.copy.ensures ∙ c.node.ensures.name) j;
      entries = c.new-log.ensures.entries j;
    })
    c.requires refl
