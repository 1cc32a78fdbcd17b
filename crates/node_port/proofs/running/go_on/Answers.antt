use Rattle.std.specs.Io.Buffered.{reader_remaining}
use Rattle.node_port.specs.Working.{stand_of}
use Rattle.node_port.proofs.Opening.{goes_on_so}
use Rattle.node_port.proofs.running.go_on.Goals as goal

pub returns-in-Runs : goal.returns-in-Runs
returns-in-Runs g c =
    goes_on_so c.args.standing (stand_of c.args.port.now) (stand_of c.play_lines.new.port) (reader_remaining g.R.Read.remaining c.args.reader.now)
    (reader_remaining g.R.Read.remaining c.play_lines.new.reader) (g.W.Write.contents c.args.writer.now)
    (g.W.Write.contents c.play_lines.new.writer) c.play_lines.result c.in-Runs.is c.play_lines.ensures
