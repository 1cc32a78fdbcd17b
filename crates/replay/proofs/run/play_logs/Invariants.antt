use Rattle.std.proofs.Common.{map}
use Rattle.replay.specs.Ends.{end_of, logs_of}
use Rattle.replay.proofs.Playing.{SoFar}
use Rattle.replay.proofs.run.play_logs.Given as goal

abbrev pub invariant-loop-events : goal.invariant-loop-events
invariant-loop-events g l =
    SoFar (logs_of (map (end_of g.N.Names.contents) l.ends)) l.fn.world l.events l.world l.readers.items
