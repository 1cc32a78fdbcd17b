use Rattle.std.proofs.Common.{ℕ, ◌≡◌, ◌<◌, Some}
use Rattle.std.specs.List.{slice_get}
use Rattle.registry_model.specs.Settlement.{Notice}
use Rattle.replay.proofs.equal.same_notices.Given as goal

abbrev pub invariant-loop-place : goal.invariant-loop-place
invariant-loop-place l = (k : ℕ) (x y : Notice) → k < l.place → slice_get l.some k ≡ Some x
    → slice_get l.others k ≡ Some y → x ≡ y
