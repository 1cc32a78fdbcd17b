-- Look-ups of a name that is waited for, at seats that are lent.
use Rattle.std.proofs.Common.{zero, suc, Result, Err, refl}
use Rattle.command_lines.specs.declared.Reply.{Reply}
use Rattle.node_seats.specs.declared.fault.SeatFault.{SeatFault}
use Rattle.node_seats.specs.Callers.{IsEnd}
use Rattle.node_seats.specs.Knowing.{Known}
use Rattle.console.specs.declared.orders.Awaited.{Awaited}
use Rattle.console.specs.Lent.{EndsLooking, LentWaits, LooksPastIt, StillLooks}
use Rattle.console.proofs.Borrowing.{not_looked}
use Rattle.console.proofs.Repeating.{one_more}

-- nothing was looked up yet
pub waits_begin : (a : Awaited) (k : Known) → StillLooks a k k
waits_begin a k = record { looks = zero; looked = refl }

-- it was looked up once more
pub waits_on : (a : Awaited) (k l m : Known) → StillLooks a k l → LooksPastIt a l m → StillLooks a k m
waits_on a k l m still past = record { looks = suc still.looks; looked = one_more (λ x y. LooksPastIt a x y) still.looks k l m still.looked past }

-- it was looked up for the last time
pub wait_ended : (a : Awaited) (k l m : Known) (r : Result Reply SeatFault) → StillLooks a k l → EndsLooking a l r m → LentWaits a k r m
wait_ended a k l m r still ends = record { last = l; still = still; ends = ends }

-- nobody waits any more, or no reply comes any more
pub given_up : (a : Awaited) (k l : Known) (f : SeatFault) → StillLooks a k l → IsEnd f → LentWaits a k (Err f) l
given_up a k l f still end = wait_ended a k l l (Err f) still (not_looked a f l end)
