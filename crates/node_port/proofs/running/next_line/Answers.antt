use Rattle.std.specs.Io.Buffered.{reader_remaining}
use Rattle.term.specs.declared.limits.TheConstants.{MOST_LINES}
use Rattle.node_port.proofs.Playing.{next_of}
use Rattle.node_port.proofs.running.next_line.Goals as goal

pub returns-clause-read : goal.returns-clause-read
returns-clause-read g c =
    next_of (reader_remaining g.R.Read.remaining c.args.reader.now) (reader_remaining g.R.Read.remaining c.read_line.new.reader) MOST_LINES
    c.read_line.new.left c.read_line.result c.read_line.ensures.read
