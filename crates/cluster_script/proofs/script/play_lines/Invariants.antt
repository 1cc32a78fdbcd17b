use Rattle.std.proofs.Common.{[]}
use Rattle.cluster_script.specs.Played.{PlaysLines}
use Rattle.std.specs.Io.Buffered.{reader_remaining}
use Rattle.cluster_script.proofs.script.play_lines.Given as goal

-- the lines so far were played
abbrev pub invariant-loop-line : goal.invariant-loop-line
invariant-loop-line g l =
    PlaysLines [] (reader_remaining g.R.Read.remaining l.fn.reader) (reader_remaining g.R.Read.remaining l.reader)
    l.fn.left l.left l.fn.world l.world (g.W.Write.contents l.fn.writer) (g.W.Write.contents l.writer) l.is_fine

-- each line that isn't empty counts for one
abbrev pub decreases-loop-line : goal.decreases-loop-line
decreases-loop-line g l = l.left
