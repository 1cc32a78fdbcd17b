use Rattle.std.proofs.Common.{◌≤◌, length, map}
use Rattle.replay.specs.Transcripts.{given_by, IsLeft}
use Rattle.replay.proofs.transcripts.follows.Given as goal

abbrev pub invariant-loop-at : goal.invariant-loop-at
invariant-loop-at l = record {
  left : IsLeft l.log.node l.transcript.seat (map given_by l.transcript.entries.items) l.log.entries l.found l.number l.at;
  within : l.found ≤ length l.transcript.entries.items;
  numbers : l.number ≤ l.at;
}
