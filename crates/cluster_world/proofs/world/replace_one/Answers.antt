use Rattle.std.proofs.Common.{ap, sym, ◌∙◌}
use Rattle.term.specs.NodeSets.{with_older}
use Rattle.cluster_world.proofs.world.replace_one.Goals as goal

pub replace-requires-clause-known : goal.replace-requires-clause-known
replace-requires-clause-known g c =
    (c.requires.told (sym (c.reaches.ensures ∙ ap (with_older c.args.departed.now) c.node.ensures.name) ∙ c.if-not-reaches.true)).0

pub replace-requires-clause-told : goal.replace-requires-clause-told
replace-requires-clause-told g c =
    (c.requires.told (sym (c.reaches.ensures ∙ ap (with_older c.args.departed.now) c.node.ensures.name) ∙ c.if-not-reaches.true)).1
