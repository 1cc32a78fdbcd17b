use Rattle.std.proofs.Common.{ap, ◌∙◌}
use Rattle.cluster_world.specs.NamedWorld.{opening_named}
use Rattle.cluster_script.proofs.Nodes.{names_of-named}
use Rattle.cluster_script.proofs.header.start.Goals as goal

pub returns-in-Ok : goal.returns-in-Ok
returns-in-Ok c =
    let e = names_of-named c.args.cluster.now c.args.lone.now c.in-Ok.world c.in-Ok.ensures.nodes in (
      c.in-Ok.ensures.ok,
      (e, c.in-Ok.ensures.world ∙ ap opening_named e),
    )
