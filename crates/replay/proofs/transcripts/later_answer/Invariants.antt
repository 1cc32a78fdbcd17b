use Rattle.std.proofs.Common.{◌≡◌, drop}
use Rattle.replay.specs.Transcripts.{first_answer}
use Rattle.replay.proofs.transcripts.later_answer.Given as goal

abbrev pub invariant-loop-place : goal.invariant-loop-place
invariant-loop-place l = first_answer l.log.node l.number (drop l.fn.at l.log.entries)
    ≡ first_answer l.log.node l.number (drop l.place l.log.entries)
