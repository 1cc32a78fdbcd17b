-- Tries for a lock, one after another.
use Rattle.std.proofs.Common.{ℕ, zero, suc, true, false, ◌≡◌, Result, Err, refl, sym, subst, inl, inr, arith}
use Rattle.command_lines.specs.declared.Call.{Call}
use Rattle.command_lines.specs.declared.Reply.{Reply}
use Rattle.node_seats.specs.declared.Retries.{Retries}
use Rattle.node_seats.specs.declared.Retries.TheVariants.{Times, Endless}
use Rattle.node_seats.specs.declared.fault.SeatFault.{SeatFault}
use Rattle.node_seats.specs.declared.fault.SeatFault.TheVariants.{Memory}
use Rattle.node_seats.specs.Callers.{IsEnd}
use Rattle.node_seats.specs.Faults.{IsUnmade}
use Rattle.node_seats.specs.Knowing.{Known}
use Rattle.console.specs.Lent.{EndsTry, LentGives, LentTries, StillTries, Tries, TriesInVain}
use Rattle.console.specs.Tries.{AreLeft, IsFewer, is_for_now, retries_in, try_for}
use Rattle.console.specs.declared.orders.Order.TheVariants as order
use Rattle.console.proofs.Repeating.{one_more}
use Rattle.console.proofs.Unasked.{ended}

-- all are left where none was made
all_left : (r : Retries) → AreLeft r 0 r
all_left (Times n) = omega arith
all_left Endless = tt

-- one more was made
fewer_left : (r : Retries) (made : ℕ) (left fewer : Retries) → AreLeft r made left → IsFewer left fewer → AreLeft r (suc made) fewer
fewer_left (Times n) made (Times left) (Times fewer) are is = omega (arith, are, is)
fewer_left Endless made Endless Endless are is = tt
fewer_left (Times n) made Endless fewer are is = absurd are
fewer_left Endless made (Times left) fewer are is = absurd are
fewer_left (Times n) made (Times left) Endless are is = absurd is
fewer_left Endless made Endless (Times fewer) are is = absurd is

-- it was tried at a seat
pub tried : (c one : Call) (k l : Known) (r : Result Reply SeatFault) → one ≡ try_for c → LentGives k (order.Call one) r l → Tries c k r l
tried c one k l r is gives = subst (λ (d : Call). LentGives k (order.Call d) r l) is gives

-- there was no memory for the call
pub not_tried : (c : Call) (k : Known) → Tries c k (Err Memory) k
not_tried c k = record { gave = inr (refl, refl) }

-- a later try may get it
pub in_vain : (c : Call) (k l : Known) (r : Result Reply SeatFault) → is_for_now r ≡ true → Tries c k r l → TriesInVain c k l
in_vain c k l r is tries = record { answer = r; for_now = is; tried = tries }

-- no later one would
pub try_ended : (c : Call) (left : Retries) (k l : Known) (r : Result Reply SeatFault) → is_for_now r ≡ false → Tries c k r l
    → EndsTry c left k r l
try_ended c left k l r is tries = record { came = inl (tries, inl is) }

-- there is no later one
pub last_try : (c : Call) (left : Retries) (k l : Known) (r : Result Reply SeatFault) → left ≡ Times 0 → Tries c k r l
    → EndsTry c left k r l
last_try c left k l r none tries = record { came = inl (tries, inr none) }

-- nothing was tried yet
pub tries_begin : (c : Call) (k : Known) (left : Retries) → left ≡ retries_in c → StillTries c k k left
tries_begin c k left is = record { tries = zero; vain = refl; counted = subst (λ (r : Retries). AreLeft (retries_in c) 0 r) (sym is) (all_left (retries_in c)) }

-- it was tried once more, in vain
pub tries_on : (c : Call) (k l m : Known) (left fewer : Retries) → StillTries c k l left → TriesInVain c l m → IsFewer left fewer
    → StillTries c k m fewer
tries_on c k l m left fewer still vain is = record {
  tries = suc still.tries;
  vain = one_more (λ x y. TriesInVain c x y) still.tries k l m still.vain vain;
  counted = fewer_left (retries_in c) still.tries left fewer still.counted is;
}

-- it was tried for the last time
pub tries_end : (c : Call) (k l m : Known) (left : Retries) (r : Result Reply SeatFault) → StillTries c k l left → EndsTry c left l r m
    → LentTries c k r m
tries_end c k l m left r still ends = record { tries = still.tries; last = l; left = left; vain = still.vain; counted = still.counted; ends = ends }

-- nobody waits any more, or no reply comes any more
pub tries_given_up : (c : Call) (k l : Known) (left : Retries) (f : SeatFault) → StillTries c k l left → IsEnd f → LentTries c k (Err f) l
tries_given_up c k l left f still end = tries_end c k l l left (Err f) still (record { came = inr (ended f end, refl) })

-- nothing was tried at all
pub unasked : (c : Call) (k : Known) (f : SeatFault) → IsUnmade f true → LentTries c k (Err f) k
unasked c k f is = tries_end c k k k (retries_in c) (Err f) (tries_begin c k (retries_in c) refl) (record { came = inr (is, refl) })

-- so it is where no reply comes any more
pub none_tried : (c : Call) (k : Known) (f : SeatFault) → IsEnd f → LentTries c k (Err f) k
none_tried c k f end = unasked c k f (ended f end)
