use Rattle.cluster_script.proofs.Meaning.{WritesOkay-started}
use Rattle.cluster_script.proofs.script.write_accepted.Goals as goal

pub returns-in-Restart : goal.returns-in-Restart
returns-in-Restart g c =
    WritesOkay-started c.args.world.now (g.W.Write.contents c.args.writer.now) (g.W.Write.contents c.write_started.new.writer)
    c.write_started.result c.args.event.now c.in-Restart.name c.in-Restart.is c.write_started.ensures
