use Rattle.std.proofs.Common.{◌≡◌, drop, map}
use Rattle.replay.specs.Ends.{end_of, logs_of}
use Rattle.replay.specs.Steps.{log_of}
use Rattle.replay.proofs.transcripts.log_at.Given as goal

abbrev pub invariant-loop-end : goal.invariant-loop-end
invariant-loop-end g l = log_of l.node (logs_of (map (end_of g.N.Names.contents) l.ends))
    ≡ log_of l.node (logs_of (map (end_of g.N.Names.contents) (drop l.end-index l.ends)))
