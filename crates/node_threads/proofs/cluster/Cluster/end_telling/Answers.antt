use Rattle.std.proofs.Common.{map}
use Rattle.replay.specs.Ends.{end_by}
use Rattle.node_threads.proofs.Opening.{once}
use Rattle.node_threads.proofs.Telling.{ends_telling}
use Rattle.node_threads.proofs.cluster.Cluster.end_telling.Goals as goal

pub returns : goal.returns
returns g c = ends_telling g.N.Names.contents c.args.self.cluster c.args.self.lone c.args.self.crew
    (map (end_by g.N.Names.contents g.L.Record.logged) c.in-Ok.field-0.ends.items) c.in-Ok.ensures.back
    (once c.args.self.cluster c.args.self.lone c.into_ends.ensures.lists) c.tell_of.result c.tell_of.ensures.ok c.tell_of.ensures.err
    c.in-Ok.field-0.pasts c.in-Ok.ensures.pasts c.with_pasts.result c.with_pasts.ensures
