-- The retries that an open call has left are those that it was given, less the tries after its first, and a call that
-- waits has some.
use Rattle.std.proofs.Common.{ℕ, Bool, true, false, ◌≡◌, ◌+◌, Option, Some, [], ◌∷◌, refl, ap, ◌∙◌}
use Rattle.std.specs.Prelude.{if◌then◌else◌}
use Rattle.std.proofs.Math.Bool.{and-true}
use Rattle.registry_model.specs.Process.{Process}
use Rattle.protocol_model.specs.Node.{LockPhase, LockCall, Retries, Times, Endless}
use Rattle.protocol_model.specs.Event.{is_waiting_call}
use Rattle.protocol_model.specs.Client.{is_spent, in_phase}
use Rattle.protocol_model.specs.LockAnswers.{Tries}
use Rattle.protocol_model.specs.World.{Opening, World}
use Rattle.moves.proofs.Rules
use Rattle.moves.proofs.Rules.{Rule, May, effect}
use Rattle.walk.proofs.ChainKinds.{Hearing, suits}
use Rattle.walk.proofs.Orders.{ordered_keeps}
use Rattle.leftovers.proofs.Growing.{Replying, replying_keeps}
use Rattle.leftovers.proofs.Ongoing.{is_deleting}
use Rattle.leftovers.proofs.Tries.{Fits, fits_chain}
use Rattle.leftovers.proofs.Grounds.{Base}
use Rattle.leftovers.proofs.Phases.{StepOk, Puts, Drops, step_of}
use Rattle.lock_answers.proofs.LastTry.{last_of}
use Rattle.lock_answers.proofs.CallSteps.{AllCalls, found_at, calls_kept}

-- what is left of the retries given, after so many tries
abbrev pub AreLeft : Retries → ℕ → Retries → Type 0
AreLeft (Times given) tried (Times left) = left + tried ≡ given + 1
AreLeft Endless tried Endless = Unit {0}
AreLeft given tried left = ⊥

-- the call is at its last try of these
pub record Spends (t : Tries) (c : LockCall) : Type 0 where
  pub left : AreLeft t.retries t.tried c.retries
  pub more : is_waiting_call c.phase ≡ true → is_spent c.retries ≡ false

-- these are the tries of the call
abbrev pub IsSpending : Option Tries → LockCall → Type 0
IsSpending t c = (s : Tries) × (t ≡ Some s) × Spends s c

-- so it is of p's open call, unless that is a deletion
abbrev pub SpendingOf : Process → Option Tries → Process → LockCall → Type 0
SpendingOf p t q c = q ≡ p → is_deleting c.phase ≡ false → IsSpending t c

abbrev pub SpendsAt : World → Process → Option Tries → Type 0
SpendsAt w p t = AllCalls (SpendingOf p t) w

-- what is kept of p's tries by rules that begin no call
pub record Tried (p : Process) (t : Option Tries) (w : World) : Type 0 where
  pub replying : Replying w
  pub fits : Fits w p (last_of t)
  pub spends : SpendsAt w p t

module _ (o : Opening) (a : ℕ) (p : Process) (t : Option Tries) where
  -- a call goes on in a phase in which it doesn't wait
  goes_on : (c : LockCall) (phase : LockPhase) → is_waiting_call phase ≡ false → IsSpending t c
      → IsSpending t (in_phase phase c)
  goes_on c phase busy was = (
    was.0,
    was.1,
    record {
      left = was.2.left;
      more = λ h. cc (h, busy);
    },
  )

  spend_put : (w : World) (r : Rule) → suits Hearing r ≡ true → May o a w r → Base o w → SpendsAt w p t
      → StepOk (λ c. SpendingOf p t c.holder c) (step_of o.bound (w.node a) r)
  spend_put w (Rules.HearsLock f id g c r) h m B S = λ i d. goes_on c (LockPhase.Asking _) refl
      (S c.holder c (found_at w a B.ordered c (LockPhase.Asking r) m.tested.2) i (ap is_deleting m.tested.2.phase))
  spend_put w (Rules.MarksLockDown d c r) h m B S = λ i e. goes_on c (LockPhase.Asking _) refl
      (S c.holder c (found_at w a B.ordered c (LockPhase.Asking r) m.tested.1) i (ap is_deleting m.tested.1.phase))
  spend_put w (Rules.GivesUpLock c r granted) h m B S = go (is_spent c.retries) refl
    where
      go : (b : Bool) → is_spent c.retries ≡ b
          → StepOk (λ d. SpendingOf p t d.holder d) (if b then Drops c.holder else Puts (in_phase LockPhase.Waiting c))
      go true e = tt
      go false e = λ i d. on (S c.holder c (found_at w a B.ordered c (LockPhase.Asking r) m.tested.0) i
          (ap is_deleting m.tested.0.phase))
        where
          on : IsSpending t c → IsSpending t (in_phase LockPhase.Waiting c)
          on was = (was.0, was.1, record { left = was.2.left; more = λ k. e })
  spend_put w (Rules.CountsGivenBack f c owing) h m B S = λ i d. cc
  spend_put w (Rules.CountsLockDown d c owing) h m B S = λ i e. cc
  spend_put w (Rules.AsksLock c) h m B S = cc
  spend_put w (Rules.DeletesLock c) h m B S = cc
  spend_put w r h m B S = tt

  pub tried_keeps : (w : World) (r : Rule) → suits Hearing r ≡ true → May o a w r → Base o w → Tried p t w
      → Tried p t (effect o a r w)
  tried_keeps w r h m B T = record {
    replying = replying_keeps o a w r m T.replying;
    fits = fits_chain o a (ordered_keeps o) (r ∷ []) w B.num p (last_of t) (and-true (suits Hearing r) ∙ h) (m, tt)
        B.ordered T.replying T.fits;
    spends = calls_kept o a w r B.ordered m (SpendingOf p t) (spend_put w r h m B T.spends) T.spends;
  }
