use Rattle.std.specs.Io.Buffered.{reader_remaining}
use Rattle.console.specs.Consoles.{ServesSoFar, talk}
use Rattle.console.specs.Links.{linked_in}
use Rattle.console.proofs.answering.answer_each.Given as goal

-- the lines so far were answered
abbrev pub invariant-loop-line : goal.invariant-loop-line
invariant-loop-line g l =
    ServesSoFar g.A.Attendant.answers g.A.Attendant.stands l.fn.stays l.fn.most (reader_remaining g.R.Read.remaining l.fn.reader)
    (reader_remaining g.R.Read.remaining l.reader) (g.W.Write.contents l.fn.writer) (g.W.Write.contents l.writer)
    (talk (g.A.Attendant.state l.fn.attendant) (linked_in l.fn.links)) (talk (g.A.Attendant.state l.attendant) (linked_in l.links)) l.left

-- each line counts for at least one
abbrev pub decreases-loop-line : goal.decreases-loop-line
decreases-loop-line g l = l.left
