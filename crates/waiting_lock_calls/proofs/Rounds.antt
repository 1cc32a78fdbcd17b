-- What is so of the round of each open call of who is up: behind a retry, where it is so of each round that begins; and behind a rule of
-- a delivery, where a round that goes on keeps it.
-- w: the quiet world; P: what is so of a call and its round.
use Rattle.std.proofs.Common.{ℕ, Bool, true, false, ◌≡◌, Option, Some, None, refl, sym, ap, subst, ◌∙◌, inl, inr}
use Rattle.std.specs.Prelude.{Contains, if◌then◌else◌}
use Rattle.std.proofs.lemmas.Bool.{cases_eq}
use Rattle.registry_model.specs.Process.{Process}
use Rattle.protocol_model.specs.Letter.{Id}
use Rattle.protocol_model.specs.Round.{Round, begin, asked, answer, down, is_empty}
use Rattle.protocol_model.specs.Node.{LockPhase, LockCall, call_of}
use Rattle.protocol_model.specs.Client.{in_phase, is_spent, one_less}
use Rattle.protocol_model.specs.Event.{Event}
use Rattle.protocol_model.specs.World.{Opening, World, left, At, accepted}
use Rattle.getting_through.proofs.Invariants.{IsUp}
use Rattle.getting_through.proofs.Rules
use Rattle.getting_through.proofs.Rules.{Rule, May}
use Rattle.walk.proofs.ChainKinds.{Hearing, suits}
use Rattle.getting_through.proofs.Calls.{home_of_call}
use Rattle.getting_through.proofs.Clients.{call_at}
use Rattle.getting_through.proofs.Families.{Whole}
use Rattle.getting_through.proofs.Grounds.{Base}
use Rattle.getting_through.proofs.Ongoing.{asked_answer, asked_down}
use Rattle.getting_through.proofs.Phases.{StepOk, Puts, Drops, step_of}
use Rattle.getting_through.proofs.Quiet.{calls_wait}
use Rattle.getting_through.proofs.Rounds.{answer_boss}
use Rattle.getting_through.proofs.CallSteps.{AllCalls, found_at}
use Rattle.getting_through.proofs.CallTurns.{some_unless, begun_over, anew_in, anew}
use Rattle.getting_through.proofs.EventTurns.{AgainTurn, again_turn}
use Rattle.getting_through.proofs.QuietWorlds.{call_listed}
use Rattle.waiting_lock_calls.specs.Retried.{asks}
use Rattle.waiting_lock_calls.proofs.Tried.{still_up}
use Rattle.getting_through.specs.Worlds.{of_nodes, IsQuiet}

module _ (o : Opening) (w : World) (P : LockCall → Round → Type 0) where
  -- it is so of the round of this phase, if it is one's
  abbrev pub InPhase : LockCall → LockPhase → Type 0
  InPhase d (LockPhase.Asking round) = P d round
  InPhase d LockPhase.Waiting = Unit {0}
  InPhase d (LockPhase.Deleting owing) = Unit {0}

  abbrev pub HasSuch : Process → LockCall → Type 0
  HasSuch q d = IsUp o w q.node → InPhase d d.phase

  -- a round that goes on with the same boss, and has asked the same nodes, keeps it
  abbrev pub GoesOn : Type 0
  GoesOn = (d : LockCall) (old new : Round) → ((x : ℕ) → asked new x ≡ asked old x) → new.boss ≡ old.boss → P d old
      → P (in_phase (LockPhase.Asking new) d) new

  -- Behind a rule of a delivery to t
  module _ (t : ℕ) (v : World) (B : Base o v) (each : AllCalls HasSuch v) where
    before : (d : LockCall) (round : Round) → Rules.IsOpen (v.node t) d (LockPhase.Asking round) → IsUp o w d.holder.node → P d round
    before d round e up = subst (InPhase d) e.phase (each d.holder d (found_at v t B.ordered d (LockPhase.Asking round) e) up)

    pub rounds_put : GoesOn → (x : Rule) → suits Hearing x ≡ true → May o t v x
        → StepOk (λ d. HasSuch d.holder d) (step_of o.bound (v.node t) x)
    rounds_put on (Rules.HearsLock f id g d round) h m = λ up. on d round (answer f g round)
        (λ x. asked_answer f g round m.tested.3 x) (answer_boss f g round) (before d round m.tested.2 up)
    rounds_put on (Rules.MarksLockDown e d round) h m = λ up. on d round (down e round)
        (λ x. asked_down e round x) refl (before d round m.tested.1 up)
    rounds_put on (Rules.GivesUpLock d round granted) h m = go (is_spent d.retries)
      where
        go : (b : Bool) → StepOk (λ e. HasSuch e.holder e) (if b then Drops d.holder else Puts (in_phase LockPhase.Waiting d))
        go true = tt
        go false = λ up. tt
    rounds_put on (Rules.CountsGivenBack f d owing) h m = λ up. tt
    rounds_put on (Rules.CountsLockDown e d owing) h m = λ up. tt
    rounds_put on (Rules.AsksLock d) h m = cc h
    rounds_put on (Rules.DeletesLock d) h m = cc h
    rounds_put on x h m = tt

    -- a call whose round hears an answer is at home at t, and has it
    pub heard_home : (f : ℕ) (id : Id) (g : Bool) (d : LockCall) (round : Round) → May o t v (Rules.HearsLock f id g d round)
        → d.holder.node ≡ t
    heard_home f id g d round m = home_of_call t d.holder (v.node t).calls d (B.ordered t) m.tested.2.call

    pub heard_round : left v ≡ left w → (f : ℕ) (id : Id) (g : Bool) (d : LockCall) (round : Round)
        → May o t v (Rules.HearsLock f id g d round) → P d round
    heard_round stay f id g d round m = before d round m.tested.2 (subst (IsUp o w) (sym (heard_home f id g d round m))
        (still_up o v w (sym stay) t (m.inside, m.running)))

  -- At first, behind the retry of a
  module _ (a : ℕ) (W : Whole o w) (Q : IsQuiet (of_nodes o) w)
      (begins : (b : LockCall) → Contains (w.node a).calls b
      → P (in_phase (LockPhase.Asking (begin o.bound (asks w a b))) (record b { retries = one_less b.retries }))
      (begin o.bound (asks w a b))) where
    T : AgainTurn o w W.base.ordered a
    T = again_turn o w W.base.ordered a

    -- a call that is tried anew
    begins_anew : (q : Process) (b d : LockCall) → q.node ≡ a → IsUp o w q.node → call_at w q ≡ Some b
        → anew o.bound a (w.node a).replica.members (Some b) ≡ Some d → InPhase d d.phase
    begins_anew q b d home up e i = subst (λ (x : LockCall). InPhase x x.phase)
        (some_unless (is_empty o.bound (asks w a b)) (in_phase (LockPhase.Asking (begin o.bound (asks w a b)))
        (record b { retries = one_less b.retries })) d tried) (begins b there)
      where
        tried : begun_over o.bound a (w.node a).replica.members (record b { retries = one_less b.retries }) ≡ Some d
        tried = sym (ap (λ (f : LockPhase). anew_in o.bound a (w.node a).replica.members f b) (calls_wait o w W Q q b up e)) ∙ i

        there : Contains (w.node a).calls b
        there = call_listed q (w.node a).calls b (ap (λ (x : ℕ). call_of q (w.node x).calls) (sym home) ∙ e)

    pub rounds_first : AllCalls HasSuch (accepted o w (At a Event.Retry))
    rounds_first q d e up = elim (cases_eq q.node a) [
      | inl home ↦ here home (call_at w q) refl (sym (T.calls q home) ∙ e)
      | inr ne ↦ let was : call_at w q ≡ Some d = sym (T.away q ne) ∙ e in
          subst (InPhase d) (sym (calls_wait o w W Q q d up was)) tt
    ]
      where
        here : q.node ≡ a → (k : Option LockCall) → call_at w q ≡ k
            → anew o.bound a (w.node a).replica.members k ≡ Some d → InPhase d d.phase
        here home None i j = cc j
        here home (Some b) i j = begins_anew q b d home up i j
