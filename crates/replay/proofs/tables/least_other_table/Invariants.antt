use Rattle.std.proofs.Common.{map}
use Rattle.cluster_world.specs.Seen.{seen}
use Rattle.replay.specs.Ends.{end_of, is_lesser, HasTableOf}
use Rattle.replay.specs.Least.{LeastOther}
use Rattle.replay.proofs.tables.least_other_table.Given as goal

abbrev pub invariant-loop-place : goal.invariant-loop-place
invariant-loop-place g l =
    LeastOther (HasTableOf (seen l.world)) is_lesser (map (end_of g.N.Names.contents) l.ends) l.place l.least
