use Rattle.node_threads.proofs.Telling.{ends_without}
use Rattle.node_threads.proofs.cluster.Cluster.end.Goals as goal

pub returns : goal.returns
returns g c = ends_without g.N.Names.contents c.args.self.cluster c.args.self.lone c.args.self.crew c.end_telling.result
    c.end_telling.ensures c.without_pasts.result c.without_pasts.ensures
