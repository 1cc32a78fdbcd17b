-- Each accepted event keeps what an open call has left of its retries.
use Rattle.std.proofs.Common.{ℕ, zero, suc, Bool, true, false, ◌==◌, ◌≡◌, ◌+◌, Option, Some, None, refl, sym, ap, ◌∙◌, subst, arith, inl, inr}
use Rattle.std.specs.Prelude.{◌&&◌, if◌then◌else◌}
use Rattle.std.proofs.lemmas.Bool.{cases_eq, eq-eqb, ne_eqb}
use Rattle.std.proofs.Math.Bool.{and-false}
use Rattle.registry_model.specs.Process.{Text, Process, is_process, Nodes}
use Rattle.protocol_model.specs.Round.{begin, is_empty}
use Rattle.protocol_model.specs.Node.{LockPhase, LockCall, Target, Retries, Times, Endless, targets}
use Rattle.protocol_model.specs.Event.{Call, Event, is_waiting_call}
use Rattle.protocol_model.specs.Client.{is_spent, one_less, in_phase}
use Rattle.protocol_model.specs.ClientLocks.{Try, try_of, waits_for_retry}
use Rattle.protocol_model.specs.Letter.{Client}
use Rattle.protocol_model.specs.LockAnswers.{Tries, watched, next_try, first_try, tries_by}
use Rattle.protocol_model.specs.World.{Opening, World, WorldEvent, At, place, refusal, accepted}
use Rattle.moves.proofs.Rules.{effects}
use Rattle.walk.proofs.ChainKinds.{Hearing, suits}
use Rattle.walk.proofs.Walk.{OrderedWalk}
use Rattle.leftovers.proofs.Clients.{Numbers, call_at}
use Rattle.leftovers.proofs.Ongoing.{is_deleting}
use Rattle.leftovers.proofs.Told.{chain_of}
use Rattle.leftovers.proofs.Tries.{Fits}
use Rattle.lock_answers.proofs.LastTry.{last_of, last_watched}
use Rattle.lock_answers.proofs.Verdicts.{kept_in}
use Rattle.lock_answers.proofs.Spending.{AreLeft, IsSpending, SpendsAt, Tried, tried_keeps}
use Rattle.lock_answers.proofs.CallTurns.{some_unless, begun_over, anew_in, anew, deleted_over}
use Rattle.leftovers.proofs.Beginnings.{new_try, fresh}
use Rattle.lock_answers.proofs.EventTurns.{AgainTurn, again_turn, set_turn, del_turn}
use Rattle.lock_answers.proofs.Behind.{Known, base_of, walk_of, is_plain, plain_hears, plain_tries}

-- one retry is used, where one is left
used : (given left : Retries) (tried : ℕ) → is_spent left ≡ false → AreLeft given tried left
    → AreLeft given (tried + 1) (one_less left)
used (Times g) (Times zero) tried h e = cc
used (Times g) (Times (suc k)) tried h e = omega (arith, e)
used (Times g) Endless tried h e = e
used Endless (Times k) tried h e = e
used Endless Endless tried h e = e

-- at the first try all are left
fresh_left : (given : Retries) → AreLeft given 1 given
fresh_left (Times g) = refl
fresh_left Endless = tt

module _ (o : Opening) (p : Process) where
  -- what a try met is no matter
  spends_watched : (w : World) (e : WorldEvent) (t : Option Tries) (c : LockCall) → IsSpending t c
      → IsSpending (watched o w e p t) c
  spends_watched w e t c (s, i, S) = (
    record s { met = _ },
    ap (watched o w e p) i,
    record { left = S.left; more = S.more },
  )

  module _ (w : World) (num : Numbers) (t : Option Tries) (S : Known o w num) (fit : Fits w p (last_of t))
      (k : SpendsAt w p t) where
    abbrev members : ℕ → Nodes
    members a = (w.node a).replica.members

    -- what is kept along the chain of an event that begins no try
    pub begins_plain : (e : WorldEvent) → is_plain e ≡ true → Tried p (tries_by o w e p t) w
    begins_plain e h = record {
      replying = S.replying;
      fits = subst (Fits w p) (sym (ap last_of (plain_tries o w p t e h) ∙ last_watched o p w e t)) fit;
      spends = λ q c f i d. subst (λ (x : Option Tries). IsSpending x c) (sym (plain_tries o w p t e h))
          (spends_watched w e t c (k q c f i d));
    }

    plain_spends : (e : WorldEvent) → is_plain e ≡ true → refusal o w e ≡ None
        → SpendsAt (accepted o w e) p (tries_by o w e p t)
    plain_spends e h r = subst (λ (v : World). SpendsAt v p (tries_by o w e p t)) W.walk.world (end.spends)
      where
        W : OrderedWalk o w e
        W = walk_of o w num S e r

        end : Tried p (tries_by o w e p t) (effects o (place e) (chain_of o w e W.walk.rest) w)
        end = kept_in o (place e) (suits Hearing) (λ r i. i) (Tried p (tries_by o w e p t))
            (λ v r i m B x. tried_keeps o (place e) p (tries_by o w e p t) v r i m B x) (chain_of o w e W.walk.rest) w
            (plain_hears o w num S e W.walk.rest h W.in_order) W.walk.may (base_of o w num S) (begins_plain e h)

    -- a new try
    set_spends : (a : ℕ) (q : Process) (r z : Text) (target : Target) (retries : Retries)
        → refusal o w (At a (Event.Calling (Call.SetLock q r z target retries))) ≡ None
        → SpendsAt (accepted o w (At a (Event.Calling (Call.SetLock q r z target retries)))) p
        (tries_by o w (At a (Event.Calling (Call.SetLock q r z target retries))) p t)
    set_spends a q r z target retries h x c f i d = by (is_process q p)
        (sym ((set_turn o w S.ordered a q r z target retries h).calls p)
        ∙ subst (λ (y : Process). call_at (accepted o w event) y ≡ Some c) i f)
      where
        event : WorldEvent
        event = At a (Event.Calling (Call.SetLock q r z target retries))

        last : Try
        last = try_of (members a) ((w.node a).last_call + 1) (Client r z) target

        by : (b : Bool)
            → (if b then begun_over o.bound a (members a) (new_try o w a q r z target retries) else call_at w p) ≡ Some c
            → IsSpending (if b then first_try o w event p last retries else watched o w event p t) c
        by true e = subst (IsSpending (first_try o w event p last retries))
            (some_unless (is_empty o.bound (targets (members a) target)) _ c e)
            (_, refl, record { left = fresh_left retries; more = λ y. cc })
        by false e = spends_watched w event t c (k p c e refl d)

    -- a deletion
    del_spends : (a : ℕ) (q : Process) (r z : Text) (target : Target)
        → refusal o w (At a (Event.Calling (Call.DelLock q r z target))) ≡ None
        → SpendsAt (accepted o w (At a (Event.Calling (Call.DelLock q r z target)))) p
        (tries_by o w (At a (Event.Calling (Call.DelLock q r z target))) p t)
    del_spends a q r z target h x c f i d = by (is_process q p)
        (sym ((del_turn o w S.ordered a q r z target h).calls p)
        ∙ subst (λ (y : Process). call_at (accepted o w event) y ≡ Some c) i f)
      where
        event : WorldEvent
        event = At a (Event.Calling (Call.DelLock q r z target))

        by : (b : Bool)
            → (if b then deleted_over o.bound a (members a) (fresh o w a q r z target) else call_at w p) ≡ Some c
            → IsSpending (watched o w event p t) c
        by true e = cc (
          ap (λ (y : LockCall). is_deleting y.phase) (some_unless (is_empty o.bound (targets (members a) target)) _ c e),
          d,
        )
        by false e = spends_watched w event t c (k p c e refl d)

    -- a retry
    retry_spends : (a : ℕ) → SpendsAt (accepted o w (At a Event.Retry)) p (tries_by o w (At a Event.Retry) p t)
    retry_spends a x c f i d = elim (cases_eq p.node a) [
      | inl e ↦ here e (call_at w p) refl (sym (T.calls p e) ∙ found)
      | inr ne ↦ by_away ne
    ]
      where
        event : WorldEvent
        event = At a Event.Retry

        T : AgainTurn o w S.ordered a
        T = again_turn o w S.ordered a

        found : call_at (accepted o w event) p ≡ Some c
        found = subst (λ (y : Process). call_at (accepted o w event) y ≡ Some c) i f

        -- the tries of a call that wasn't refused, or is another node's
        same : ((a == p.node) && waits_for_retry w p) ≡ false → call_at w p ≡ Some c
            → IsSpending (tries_by o w event p t) c
        same e j = subst (λ (b : Bool). IsSpending (if b then next_try o w event p (members a) t else watched o w event p t)
            c) (sym e) (spends_watched w event t c (k p c j refl d))

        by_away : (p.node ≡ a → ⊥) → IsSpending (tries_by o w event p t) c
        by_away ne = same (ap (λ (b : Bool). b && waits_for_retry w p) (ne_eqb a p.node (λ e. ne (sym e))))
            (sym (T.away p ne) ∙ found)

        refused : (y : LockCall) → call_at w p ≡ Some y → waits_for_retry w p ≡ is_waiting_call y.phase
        refused y j = ap (λ (g : Option LockCall). elim g [ None ↦ false | Some z ↦ is_waiting_call z.phase ]) j

        -- of one that was refused
        next : p.node ≡ a → (y : LockCall) → call_at w p ≡ Some y → y.phase ≡ LockPhase.Waiting
            → c.retries ≡ one_less y.retries → is_waiting_call c.phase ≡ false → IsSpending (tries_by o w event p t) c
        next home y j waits less busy =
            let was : IsSpending t y = k p y j refl (ap is_deleting waits) in
            let yes : ((a == p.node) && waits_for_retry w p) ≡ true =
            ap (λ (b : Bool). b && waits_for_retry w p) (eq-eqb a p.node (sym home)) ∙ refused y j
            ∙ ap is_waiting_call waits in
            subst (λ (b : Bool). IsSpending (if b then next_try o w event p (members a) t else watched o w event p t) c)
            (sym yes) (
              _,
              ap (next_try o w event p (members a)) was.1,
              record {
                left = subst (AreLeft was.0.retries (was.0.tried + 1)) (sym less)
                    (used was.0.retries y.retries was.0.tried (was.2.more (ap is_waiting_call waits)) was.2.left);
                more = λ v. cc (v, busy);
              },
            )

        by_phase : p.node ≡ a → (y : LockCall) → call_at w p ≡ Some y → (g : LockPhase) → y.phase ≡ g
            → anew_in o.bound a (members a) g y ≡ Some c → IsSpending (tries_by o w event p t) c
        by_phase home y j LockPhase.Waiting waits e =
            let one : in_phase (LockPhase.Asking (begin o.bound (targets (members a) y.target)))
            (record y { retries = one_less y.retries }) ≡ c =
            some_unless (is_empty o.bound (targets (members a) y.target)) _ c e in
            next home y j waits (sym (ap (λ (v : LockCall). v.retries) one))
            (sym (ap (λ (v : LockCall). is_waiting_call v.phase) one))
        by_phase home y j (LockPhase.Asking r) g e = same (ap (λ (b : Bool). (a == p.node) && b)
            (refused y j ∙ ap is_waiting_call g) ∙ and-false (a == p.node)) (j ∙ e)
        by_phase home y j (LockPhase.Deleting owing) g e = same (ap (λ (b : Bool). (a == p.node) && b)
            (refused y j ∙ ap is_waiting_call g) ∙ and-false (a == p.node)) (j ∙ e)

        here : p.node ≡ a → (g : Option LockCall) → call_at w p ≡ g → anew o.bound a (members a) g ≡ Some c
            → IsSpending (tries_by o w event p t) c
        here home None j e = cc
        here home (Some y) j e = by_phase home y j y.phase refl e

  -- each accepted event
  pub spends_next : (w : World) (num : Numbers) (e : WorldEvent) (t : Option Tries) → Known o w num
      → Fits w p (last_of t) → SpendsAt w p t → refusal o w e ≡ None
      → SpendsAt (accepted o w e) p (tries_by o w e p t)
  spends_next w num (At a (Event.Calling (Call.SetLock q r z target retries))) t S fit k h =
      set_spends w num t S fit k a q r z target retries h
  spends_next w num (At a (Event.Calling (Call.DelLock q r z target))) t S fit k h =
      del_spends w num t S fit k a q r z target h
  spends_next w num (At a Event.Retry) t S fit k h = retry_spends w num t S fit k a
  spends_next w num e t S fit k h = plain_spends w num t S fit k e refl h
