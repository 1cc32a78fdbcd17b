-- What is done at a seat that is lent.
use Rattle.std.proofs.Common.{ℕ, ◌≡◌, ◌∙◌, Option, Some, None, Result, Ok, Err, IfOk, IsErrAnd, MatchOption, inl, inr, refl, sym, subst, arith}
use Rattle.command_lines.specs.declared.Reply.{Reply}
use Rattle.node_seats.specs.declared.told.NodeStatus.{NodeStatus}
use Rattle.node_seats.specs.declared.fault.SeatFault.{SeatFault}
use Rattle.node_seats.specs.Callers.{IsEnd}
use Rattle.node_seats.specs.Fences.{fence_of}
use Rattle.node_seats.specs.Knowing.{Known, known_at, with_known}
use Rattle.node_seats.specs.Seats.{Sitting}
use Rattle.console.specs.declared.orders.Awaited.{Awaited}
use Rattle.console.specs.declared.orders.Order.{Order}
use Rattle.console.specs.Lent.{AtSeat, EndsLooking, IsFence, IsLent, LentGives, LooksPastIt}
use Rattle.console.specs.Seats.{EndsWait, LooksPast, SeatGives}
use Rattle.console.proofs.Unasked.{ended}

-- a seat of the node has learned what is known
pub lent_to : (k : Known) (s t : Sitting) → s.node ≡ k.node → t ≡ with_known k s → IsLent k t
lent_to k s t node is = subst (IsLent k) (sym is) (record { node = node; knows = omega arith; granted = refl })

at_seat : (Does : Sitting → Sitting → Type 0) (k l : Known) (s t : Sitting) → IsLent k s → Does s t → l ≡ known_at t → AtSeat Does k l
at_seat Does k l s t lent does is = record { seat = s; left = t; lent = lent; does = does; known = is }

-- an order was answered
pub given : (o : Order) (r : Result Reply SeatFault) (k l : Known) (s t : Sitting) → IsLent k s → SeatGives s o r t → l ≡ known_at t
    → LentGives k o r l
given o r k l s t lent gives is = record { gave = inl (at_seat (λ u v. SeatGives u o r v) k l s t lent gives is) }

-- none was lent
pub not_given : (o : Order) (f : SeatFault) (k : Known) → IsEnd f → LentGives k o (Err f) k
not_given o f k end = record { gave = inr (ended f end, refl) }

-- so it is of whatever passes the cause on
pub passed_on : (o : Order) (r : Result Reply SeatFault) (f : SeatFault) (k : Known) → IsErrAnd r (λ e. e ≡ f) → IsEnd f → LentGives k o r k
passed_on o (Ok reply) f k is end = absurd is
passed_on o (Err e) f k is end = not_given o e k (subst IsEnd (sym is) end)

-- a look-up didn't find what is waited for; or it did, or tells why there is no answer
pub looked : (a : Awaited) (found : Option (Result Reply SeatFault)) (k l : Known) (s t : Sitting) → IsLent k s → l ≡ known_at t
    → MatchOption found (LooksPast a s t) (λ r. EndsWait a s r t) → MatchOption found (LooksPastIt a k l) (λ r. EndsLooking a k r l)
looked a None k l s t lent is past = record { past = at_seat (λ u v. LooksPast a u v) k l s t lent past is }
looked a (Some r) k l s t lent is ends = record { found = inl (at_seat (λ u v. EndsWait a u r v) k l s t lent ends is) }

-- there was no seat to look from
pub not_looked : (a : Awaited) (f : SeatFault) (k : Known) → IsEnd f → EndsLooking a k (Err f) k
not_looked a f k end = record { found = inr (ended f end, refl) }

-- how a node stands is told of it by each of its names
pub told_of_it : (r : Result NodeStatus SeatFault) (n m : ℕ) → n ≡ m → IfOk r (λ status. status.node ≡ n)
    → IfOk r (λ status. status.node ≡ m)
told_of_it (Ok status) n m is told = told ∙ is
told_of_it (Err f) n m is told = tt

-- what a seat tells that is lent is the console's number
pub fence_told : (k : Known) (s : Sitting) (fence : Option ℕ) → IsLent k s → fence ≡ fence_of s.nodes s.node s.granted → IsFence k fence
fence_told k s fence lent is = record { seat = s; lent = lent; tells = is }
