use Rattle.std.proofs.Common.{map}
use Rattle.replay.specs.Ends.{end_of, is_lesser, EndedWell}
use Rattle.replay.specs.Least.{LeastOther}
use Rattle.replay.proofs.tables.least_alone.Given as goal

abbrev pub invariant-loop-place : goal.invariant-loop-place
invariant-loop-place g l = LeastOther EndedWell is_lesser (map (end_of g.N.Names.contents) l.ends) l.place l.least
