use Rattle.std.proofs.Common.{ℕ, ◌≡◌, ◌<◌, Some}
use Rattle.std.specs.List.{slice_get}
use Rattle.node_log.specs.declared.Answer.{Answer}
use Rattle.node_log.specs.NodeEventsSeen.{answer_of}
use Rattle.replay.proofs.equal.same_answers.Given as goal

abbrev pub invariant-loop-place : goal.invariant-loop-place
invariant-loop-place l = (k : ℕ) (x y : Answer) → k < l.place → slice_get l.some k ≡ Some x
    → slice_get l.others k ≡ Some y → answer_of x ≡ answer_of y
