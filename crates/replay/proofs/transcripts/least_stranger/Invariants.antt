use Rattle.std.proofs.Common.{map}
use Rattle.replay.specs.Ends.{end_of, logs_of}
use Rattle.replay.specs.Least.{LeastOther}
use Rattle.replay.specs.Transcripts.{Fits, has_lesser_seat}
use Rattle.replay.proofs.transcripts.least_stranger.Given as goal

abbrev pub invariant-loop-place : goal.invariant-loop-place
invariant-loop-place g l =
    LeastOther (Fits (logs_of (map (end_of g.N.Names.contents) l.ends)) l.transcripts) has_lesser_seat l.transcripts l.place l.least
