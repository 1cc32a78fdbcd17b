use Rattle.std.proofs.Common.{◌≡◌, None}
use Rattle.replay.specs.Least.{LeastOther}
use Rattle.replay.specs.Reading.{head_of, goes_first}
use Rattle.replay.proofs.merge.next_place.Given as goal

abbrev pub invariant-loop-place : goal.invariant-loop-place
invariant-loop-place l = LeastOther (λ r. head_of r ≡ None) goes_first l.readers l.place l.first
