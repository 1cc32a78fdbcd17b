-- They differ so far, or are the same so far.
use Rattle.std.proofs.Common.{ℕ, ◌≡◌, ◌≢◌, ◌<◌, length, get_or, MatchBool}
use Rattle.console.proofs.cookie.are_same.Given as goal

abbrev pub invariant-loop-at : goal.invariant-loop-at
invariant-loop-at l =
    (length l.left ≡ length l.right)
    × MatchBool l.differs (l.left ≢ l.right) ((k d : ℕ) → k < l.at → get_or l.left k d ≡ get_or l.right k d)
