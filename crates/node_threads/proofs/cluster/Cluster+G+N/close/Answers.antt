use Rattle.node_threads.proofs.Closing.{closes_alone, whole_alone}
use Rattle.node_threads.proofs.cluster.Cluster+G+N.close.Goals as goal

pub returns-clause-is : goal.returns-clause-is
returns-clause-is g c = closes_alone c.args.self.cluster c.args.self.lone c.args.self.crew c.args.transcripts.now c.close_telling.result
    c.close_telling.ensures.tells c.without_pasts.result c.without_pasts.ensures

pub returns-clause-whole : goal.returns-clause-whole
returns-clause-whole g c = whole_alone c.close_telling.result c.close_telling.ensures.whole c.without_pasts.result c.without_pasts.ensures
