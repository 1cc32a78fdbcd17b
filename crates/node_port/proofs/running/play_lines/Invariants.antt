use Rattle.std.specs.Io.Buffered.{reader_remaining}
use Rattle.node_port.specs.Working.{stand_of, IsEmpty, PlaysOn}
use Rattle.node_port.specs.declared.port.Standing.TheVariants.{Runs}
use Rattle.node_port.proofs.running.play_lines.Given as goal

-- the lines so far were played, and the node runs
abbrev pub invariant-loop : goal.invariant-loop
invariant-loop g l =
    PlaysOn (stand_of l.fn.port) (reader_remaining g.R.Read.remaining l.fn.reader) (reader_remaining g.R.Read.remaining l.reader)
    (g.W.Write.contents l.fn.writer) (g.W.Write.contents l.writer) Runs (stand_of l.port)
    × IsEmpty l.port.output
