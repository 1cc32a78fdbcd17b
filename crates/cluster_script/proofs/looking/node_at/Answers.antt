use Rattle.std.proofs.Common.{◌∙◌}
use Rattle.cluster_script.proofs.Nodes.{known_name}
use Rattle.cluster_script.proofs.looking.node_at.Goals as goal

pub returns-clause-here : goal.returns-clause-here
returns-clause-here c = c.present.ensures.here ∙ known_name c.args.world.now c.args.name.now c.as_str-text.ensures.first

pub returns-clause-node : goal.returns-clause-node
returns-clause-node c = c.present.ensures.node
