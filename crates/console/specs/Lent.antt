-- A console that is lent a seat of its node for each thing that it asks.
use Rattle.std.specs.Prelude.{ℕ, zero, suc, Bool, true, false, ◌≡◌, ◌≤◌, ◌⊎◌, ⊤, Option, Result, Ok, Err}
use Rattle.command_lines.specs.declared.Call.{Call}
use Rattle.command_lines.specs.declared.Call.TheVariants.{SetLock}
use Rattle.command_lines.specs.declared.Reply.{Reply}
use Rattle.node_seats.specs.declared.Retries.{Retries}
use Rattle.node_seats.specs.declared.Retries.TheVariants.{Times}
use Rattle.node_seats.specs.declared.fault.SeatFault.{SeatFault}
use Rattle.node_seats.specs.Callers.{IsEnd}
use Rattle.node_seats.specs.Faults.{IsUnmade}
use Rattle.node_seats.specs.Fences.{fence_of}
use Rattle.node_seats.specs.Knowing.{Known, known_at}
use Rattle.node_seats.specs.Seats.{Sitting}
use Rattle.console.specs.declared.orders.Awaited.{Awaited}
use Rattle.console.specs.declared.orders.Order.{Order}
use Rattle.console.specs.declared.orders.Order.TheVariants as order
use Rattle.console.specs.declared.describing.DescribeFault.TheVariants.{Seat, TooMany}
use Rattle.console.specs.Describing.{Fact, Said, Says, Stand}
use Rattle.console.specs.Tries.{AreLeft, is_for_now, retries_in, try_for}
use Rattle.console.specs.Seats.{EndsWait, LooksPast, MayNotSay, SeatGives}

-- a seat of the node that knows all that is known of it, and was granted a lock last by the same step
pub record IsLent (k : Known) (s : Sitting) : Type 0 where
  pub node : s.node ≡ k.node
  pub knows : k.told ≤ s.seen.told
  pub granted : s.granted ≡ k.granted

-- something was done at such a seat, and what the seat knew then is known from there on
pub record AtSeat (Does : Sitting → Sitting → Type 0) (k l : Known) : Type 0 where
  pub seat : Sitting
  pub left : Sitting
  pub lent : IsLent k seat
  pub does : Does seat left
  pub known : l ≡ known_at left

-- nothing was asked: there was no memory for it, or no reply comes any more, or nobody waits for one
abbrev pub IsLeft : Result Reply SeatFault → Known → Known → Type 0
IsLeft (Ok r) k l = ⊥
IsLeft (Err f) k l = IsUnmade f true × (l ≡ k)

-- a seat gave this answer to an order, or none was asked
pub record LentGives (k : Known) (o : Order) (r : Result Reply SeatFault) (l : Known) : Type 0 where
  pub gave : AtSeat (λ s t. SeatGives s o r t) k l ⊎ IsLeft r k l

-- something was done so many times, one after the other
abbrev pub Repeats : (Known → Known → Type 0) → ℕ → Known → Known → Type 0
Repeats Does zero k l = l ≡ k
Repeats Does (suc n) k l = (m : Known) × Does k m × Repeats Does n m l

-- a look-up at some seat didn't find what is waited for
pub record LooksPastIt (a : Awaited) (k l : Known) : Type 0 where
  pub past : AtSeat (λ s t. LooksPast a s t) k l

-- so a wait ends: what is answered is what the last look-up found, or why there is none; or there is none
pub record EndsLooking (a : Awaited) (k : Known) (r : Result Reply SeatFault) (l : Known) : Type 0 where
  pub found : AtSeat (λ s t. EndsWait a s r t) k l ⊎ IsLeft r k l

-- none found what is waited for so far
pub record StillLooks (a : Awaited) (k l : Known) : Type 0 where
  pub looks : ℕ
  pub looked : Repeats (LooksPastIt a) looks k l

-- what came of waiting: no look-up before the last one found what is waited for
pub record LentWaits (a : Awaited) (k : Known) (r : Result Reply SeatFault) (l : Known) : Type 0 where
  pub last : Known
  pub still : StillLooks a k last
  pub ends : EndsLooking a last r l

-- a try came to this
abbrev pub Tries : Call → Known → Result Reply SeatFault → Known → Type 0
Tries c k r l = LentGives k (order.Call (try_for c)) r l

-- so it was
pub record TriesInVain (c : Call) (k l : Known) : Type 0 where
  pub answer : Result Reply SeatFault
  pub for_now : is_for_now answer ≡ true
  pub tried : Tries c k answer l

-- So tries end where so many retries are left: by a try that is answered, or behind which there are none; or no further one was made
pub record EndsTry (c : Call) (left : Retries) (k : Known) (r : Result Reply SeatFault) (l : Known) : Type 0 where
  pub came : (Tries c k r l × ((is_for_now r ≡ false) ⊎ (left ≡ Times 0))) ⊎ IsLeft r k l

-- what came of a call for a lock
pub record LentTries (c : Call) (k : Known) (r : Result Reply SeatFault) (l : Known) : Type 0 where
  pub tries : ℕ
  pub last : Known
  pub left : Retries
  pub vain : Repeats (TriesInVain c) tries k last
  pub counted : AreLeft (retries_in c) tries left
  pub ends : EndsTry c left last r l

-- no try got it so far, and these retries are left
pub record StillTries (c : Call) (k l : Known) (left : Retries) : Type 0 where
  pub tries : ℕ
  pub vain : Repeats (TriesInVain c) tries k l
  pub counted : AreLeft (retries_in c) tries left

-- What an order was answered that is asked at seats which are lent: each time at one that knows of its node what was known before. A lock is
-- tried for again and again, and a name looked up again and again that is waited for; all else is asked once at most
abbrev pub LentAnswers : Known → Order → Bool → Result Reply SeatFault → Known → Type 0
LentAnswers k (order.Wait a) linked r l = LentWaits a k r l
LentAnswers k (order.Call (SetLock p id nodes retries)) linked r l = LentTries (SetLock p id nodes retries) k r l
LentAnswers k o linked r l = LentGives k o r l

-- the number of the step that granted a lock last, as a seat tells it
pub record IsFence (k : Known) (fence : Option ℕ) : Type 0 where
  pub seat : Sitting
  pub lent : IsLent k seat
  pub tells : fence ≡ fence_of seat.nodes seat.node seat.granted

-- How a node stands is told of the console's own, with the number of the step that granted the console a lock last; or no reply comes any more.
-- Something is said only of the processes of that node. What lies under the lock of what was said no clause tells
abbrev pub LentStands : Known → Fact → Type 0
LentStands k (Stand (Ok status)) = (status.node.node ≡ k.node) × IsFence k status.fence
LentStands k (Stand (Err f)) = IsEnd f
LentStands k (Said p said) = ⊤
LentStands k (Says p text (Ok u)) = p.node ≡ k.node
LentStands k (Says p text (Err TooMany)) = p.node ≡ k.node
LentStands k (Says p text (Err (Seat f))) = MayNotSay f
