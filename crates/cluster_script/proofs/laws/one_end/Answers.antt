use Rattle.cluster_script.proofs.Ends.{ends_one_way}
use Rattle.cluster_script.proofs.laws.one_end.Goals as goal

pub returns : goal.returns
returns c = ends_one_way c.node_names_are_exact.ensures
