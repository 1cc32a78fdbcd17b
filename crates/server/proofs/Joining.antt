-- What consoles leave behind, as their threads end.
use Rattle.std.proofs.Common.{List, [], ◌∷◌, ◌++◌}
use Rattle.server.specs.declared.served.Start.{Start}
use Rattle.server.specs.declared.served.Left.{Left}
use Rattle.server.specs.Served.{LeavesBehind, AllLeave}

-- one console more has ended
pub all_leave_more : (ss : List Start) (ls : List Left) (s : Start) (l : Left) → AllLeave ss ls → LeavesBehind s l
    → AllLeave (ss ++ s ∷ []) (ls ++ l ∷ [])
all_leave_more [] [] s l a b = (b, tt)
all_leave_more (x ∷ ss) (y ∷ ls) s l a b = (a.0, all_leave_more ss ls s l a.1 b)
all_leave_more [] (y ∷ ls) s l a b = absurd a
all_leave_more (x ∷ ss) [] s l a b = absurd a
