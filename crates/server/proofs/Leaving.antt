-- What a console leaves behind that was served.
use Rattle.std.proofs.Common.{ℕ, false, List, ◌≡◌, refl, sym, subst, Option, Result, Ok, Err, MatchResult, inl, inr}
use Rattle.node_threads.specs.declared.SeatFault.{SeatFault}
use Rattle.node_threads.specs.Seats.{Sitting}
use Rattle.console.specs.Consoles.{Serves, Stops}
use Rattle.console.specs.Seats.{SeatAnswers, SeatStands}
use Rattle.term.specs.declared.limits.TheConstants.{MOST_LINES}
use Rattle.text_lines.specs.declared.faults.StreamFault.{StreamFault}
use Rattle.server.specs.Attending.{Place, Talks, IsSeated, IsUnseated, Attends, Sits}
use Rattle.server.specs.declared.served.Start.{Start}
use Rattle.server.specs.declared.served.Left.{Left}
use Rattle.server.specs.declared.served.Left.TheVariants.{Served, Unserved}
use Rattle.server.specs.Served.{LeavesBehind}

-- what serving a console from a seat comes to is what it read and wrote
pub talked : (input rest old new : Option (List ℕ)) (s t : Sitting) (r : Result (Unit {0}) StreamFault)
    → MatchResult r (λ _. Serves SeatAnswers SeatStands false MOST_LINES input rest old new s t)
    (Stops SeatAnswers SeatStands false MOST_LINES input rest old new s t) → Talks input rest old new s t
talked input rest old new s t (Ok u) h = inl h
talked input rest old new s t (Err f) h = inr (f, h)

-- what is left of a console that was attended is what one leaves behind that began so
module _ (s : Start) (input rest old new : Option (List ℕ)) where
  unserved : (node : ℕ) (unread written : Option (List ℕ)) (place back : Place) → Sits node unread rest written new place (Unserved back)
      → back ≡ place
  unserved node unread written (Ok free) back sits = absurd sits
  unserved node unread written (Err fault) back sits = sits.0

  pub leaves : (l : Left) → Attends s.nodes input rest old new s.place l → LeavesBehind s l
  leaves (Served transcript witness) a = record { input = input; rest = rest; old = old; new = new; attends = a }
  leaves (Unserved back) (inl a) = unserved a.node a.unread a.written s.place back a.sits
  leaves (Unserved back) (inr a) = cc a.back

-- a console that was attached, by what is known of its place
module _ (node : ℕ) (input rest old new : Option (List ℕ)) (p : Place) where
  sits_so : (free : List Sitting) (l : Left) → IsSeated node input rest old new free l → Sits node input rest old new (Ok free) l
  sits_so free (Served transcript witness) seated = seated
  sits_so free (Unserved back) seated = absurd seated.leaves.kept

  pub sits_served : (free : List Sitting) (l : Left) → p ≡ Ok free → IsSeated node input rest old new free l
      → Sits node input rest old new p l
  sits_served free l is seated = subst (λ (q : Place). Sits node input rest old new q l) (sym is) (sits_so free l seated)

  pub sits_unserved : (fault : SeatFault) → p ≡ Err fault → IsUnseated input rest old new fault
      → Sits node input rest old new p (Unserved (Err fault))
  sits_unserved fault is unseated =
      subst (λ (q : Place). Sits node input rest old new q (Unserved (Err fault))) (sym is) (refl, unseated)
