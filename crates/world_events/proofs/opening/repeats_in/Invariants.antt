use Rattle.std.proofs.Common.{◌≡◌, ◌++◌, drop}
use Rattle.world_events.specs.Openings.{repeats}
use Rattle.world_events.proofs.opening.repeats_in.Given as goal

abbrev pub invariant-loop-place : goal.invariant-loop-place
invariant-loop-place l = repeats (l.nodes ++ l.others) ≡ repeats (drop l.place l.nodes ++ l.others)
