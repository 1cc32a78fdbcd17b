-- The numbers along an event's chain of rules are those that events and answers tell.
use Rattle.std.proofs.Common.{ℕ, Bool, true, false, ◌==◌, ◌≡◌, ◌+◌, ◌-◌, ◌≤◌, Option, Some, None, List, [], ◌∷◌, ◌++◌, refl, sym, ap, ◌∙◌, subst, arith, inl, inr}
use Rattle.std.specs.Prelude.{◌&&◌, ◌||◌, if◌then◌else◌}
use Rattle.std.specs.List.{list_all}
use Rattle.std.proofs.lemmas.Bool.{eqb-true}
use Rattle.registry_model.specs.Process.{Text, Process, is_process}
use Rattle.registry_model.specs.Call.{True}
use Rattle.protocol_model.specs.Round.{begin}
use Rattle.protocol_model.specs.Letter.{Id, is_id, Client, Letter}
use Rattle.protocol_model.specs.Node.{Node, LockPhase, LockCall, Target, Retries, Times, call_of, targets}
use Rattle.protocol_model.specs.Event.{Call, Event, Answer}
use Rattle.protocol_model.specs.Client.{new_call, in_phase}
use Rattle.protocol_model.specs.ClientLocks.{gives, is_no_more}
use Rattle.protocol_model.specs.World.{Opening, World, WorldEvent, At, Deliver, place}
use Rattle.moves.proofs.Rules.{Rule, MayAll, Ordered, effect, effects, turn_by, answers_by, first_by, first_by_letter}
use Rattle.moves.proofs.Rules.Rule.{CallsLock, AsksLock, FailsLock, DeletesLock, DeletesNothing}
use Rattle.moves.proofs.Indices.{both}
use Rattle.walk.proofs.ChainKinds.{Aside, Again, Hearing, suits}
use Rattle.walk.proofs.Walk.{InOrder}
use Rattle.client_locks.proofs.RoundNumbers.{is_won_by_round}
use Rattle.client_locks.proofs.Calls.{call_of-drop, holder_of_call}
use Rattle.client_locks.proofs.Clients.{Numbers, call_at, part_same, node_here}
use Rattle.client_locks.proofs.Numbers.{num_by, nums_by, plus_if, less_if}
use Rattle.client_locks.proofs.Calling.{calls_put}
use Rattle.client_locks.proofs.Growing.{Replying, replying_keeps}
use Rattle.client_locks.proofs.Steps.{call_after}
use Rattle.client_locks.proofs.Chains.{is_calm, aside_calm, OrderedKept, won_nothing, won_later, calm_answers, calm_nums}
use Rattle.client_locks.proofs.HeardChains.{heard_nums}
use Rattle.client_locks.proofs.Numbering.{aside_hears, Numbered, numbered_from, last_effect, last_chain, from_self, from_chain, from_retry, beginner_home, numbered_begins}

pub all_of_all : (f g : Rule → Bool) → ((r : Rule) → f r ≡ true → g r ≡ true) → (rs : List Rule) → list_all f rs ≡ true
    → list_all g rs ≡ true
all_of_all f g h [] e = refl
all_of_all f g h (r ∷ rs) e =
    let parts : (f r ≡ true) × (list_all f rs ≡ true) = both (f r) (list_all f rs) e in
    rw (h r parts.0, all_of_all f g h rs parts.1) refl

pub retry_calm : (v : Node) (r : Rule) → suits (Again v) r ≡ true → is_calm r ≡ true
retry_calm v (AsksLock c) h = refl
retry_calm v (FailsLock c) h = refl
retry_calm v r h = aside_calm r h

-- what an event is to make of a number k
abbrev pub told_by : World → WorldEvent → List Answer → Process → Id → ℕ → ℕ → ℕ
told_by w e ss p id x k = if is_won_by_round id x ss (call_at w p) then k + 1 else (if gives w e p id x then k - 1 else k)

told_none : (w : World) (e : WorldEvent) (ss : List Answer) (p : Process) (id : Id) (x k : ℕ)
    → is_won_by_round id x ss (call_at w p) ≡ false → gives w e p id x ≡ false → told_by w e ss p id x k ≡ k
told_none w e ss p id x k hw hg = rw (hw, hg) refl

told_won : (w : World) (e : WorldEvent) (ss : List Answer) (p : Process) (id : Id) (x k : ℕ) → gives w e p id x ≡ false
    → told_by w e ss p id x k ≡ plus_if (is_won_by_round id x ss (call_at w p)) k
told_won w e ss p id x k hg = rw hg refl

-- the chain of an event
abbrev pub chain_of : Opening → World → WorldEvent → List Rule → List Rule
chain_of o w e rest = first_by o (place e) w e ++ rest

module _ (o : Opening) (kept : OrderedKept o) (w : World) (num : Numbers) (order : Ordered w) (R : Replying w)
    (N : Numbered o w) where
  -- the chain's numbers are those that the event and its answers tell, and calls stay numbered
  pub record Tied (e : WorldEvent) (rest : List Rule) : Type 0 where
    pub numbers : (p : Process) → is_no_more (effects o (place e) (chain_of o w e rest) w) p ≡ false → (id : Id) (x : ℕ)
        → nums_by o (place e) (chain_of o w e rest) w num p id x ≡ told_by w e
        (answers_by o (place e) (chain_of o w e rest) w) p id x (num p id x)
    pub numbered : Numbered o (effects o (place e) (chain_of o w e rest) w)

  -- an event without rules of lock calls
  aside_tied : (e : WorldEvent) (rest : List Rule) → ((p : Process) (id : Id) (x : ℕ) → gives w e p id x ≡ false)
      → MayAll o (place e) (chain_of o w e rest) w
      → list_all (suits Aside) (chain_of o w e rest) ≡ true → Tied e rest
  aside_tied e rest none m h = record {
    numbers = λ p up id x.
        let calm : list_all is_calm (chain_of o w e rest) ≡ true = all_of_all (suits Aside) is_calm aside_calm
        (chain_of o w e rest) h in
        calm_nums o (place e) (chain_of o w e rest) w num calm m p up id x
        ∙ sym (told_none w e (answers_by o (place e) (chain_of o w e rest) w) p id x (num p id x)
        (won_nothing id x (answers_by o (place e) (chain_of o w e rest) w) (call_at w p)
        (calm_answers o (place e) (chain_of o w e rest) w calm m R)) (none p id x));
    numbered = numbered_from o (place e) w (effects o (place e) (chain_of o w e rest) w)
        (from_chain o (place e) kept (chain_of o w e rest) w num (all_of_all (suits Aside) (suits Hearing) aside_hears
        (chain_of o w e rest) h) m order R)
        (last_chain o (place e) (chain_of o w e rest) w) N;
  }

  -- a retry
  retry_tied : (a : ℕ) (rest : List Rule) → MayAll o a rest w → list_all (suits (Again (w.node a))) rest ≡ true
      → Tied (At a Event.Retry) rest
  retry_tied a rest m h = record {
    numbers = λ p up id x.
        let calm : list_all is_calm rest ≡ true = all_of_all (suits (Again (w.node a))) is_calm
        (retry_calm (w.node a)) rest h in
        calm_nums o a rest w num calm m p up id x
        ∙ sym (told_none w (At a Event.Retry) (answers_by o a rest w) p id x (num p id x)
        (won_nothing id x (answers_by o a rest w) (call_at w p) (calm_answers o a rest w calm m R)) refl);
    numbered = numbered_from o a w (effects o a rest w) (from_retry o a kept w rest w num h m order R
        (from_self o a w)) (last_chain o a rest w) N;
  }

  -- a delivery
  pub first_heard : (f t : ℕ) (ls : List Letter) (rest : List Rule) → list_all (suits Hearing) rest ≡ true
      → list_all (suits Hearing) (first_by_letter o t f ls ++ rest) ≡ true
  first_heard f t [] rest h = h
  first_heard f t (Letter.Down ∷ ls) rest h = h
  first_heard f t (_ ∷ ls) rest h = h

  delivery_tied : (f t : ℕ) (rest : List Rule) → MayAll o t (chain_of o w (Deliver f t) rest) w
      → list_all (suits Hearing) rest ≡ true → Tied (Deliver f t) rest
  delivery_tied f t rest m h = record {
    numbers = λ p up id x. heard_nums o t kept (chain_of o w (Deliver f t) rest) w num heard m order R
        (N.distinct t) p up id x
        ∙ sym (told_won w (Deliver f t) (answers_by o t (chain_of o w (Deliver f t) rest) w) p id x (num p id x) refl);
    numbered = numbered_from o t w (effects o t (chain_of o w (Deliver f t) rest) w)
        (from_chain o t kept (chain_of o w (Deliver f t) rest) w num heard m order R)
        (last_chain o t (chain_of o w (Deliver f t) rest) w) N;
  }
    where
      heard : list_all (suits Hearing) (chain_of o w (Deliver f t) rest) ≡ true
      heard = first_heard f t (w.links.queue f t) rest h

  -- a lock call takes its number, and its call begins
  module _ (a : ℕ) (c : LockCall) (is_last : c.number ≡ (w.node a).last_call + 1) where
    abbrev w1 : World
    w1 = effect o a CallsLock w

    same_calls : (p : Process) → call_at w1 p ≡ call_at w p
    same_calls p = part_same (λ v. call_of p v.calls) w a (turn_by o a w CallsLock) refl p.node

    last_1 : (w1.node a).last_call ≡ (w.node a).last_call + 1
    last_1 = ap (λ (v : Node). v.last_call) (node_here w a (turn_by o a w CallsLock) a refl)

    -- calls after the second rule, r, are numbered, and so they are after the others
    begun_numbered : (r : Rule) (next : Option LockCall) (rest : List Rule) → MayAll o a rest (effect o a r w1)
        → c.holder.node ≡ a
        → ((p : Process) → call_at (effect o a r w1) p ≡ (if is_process c.holder p then next else call_at w1 p))
        → ((d : LockCall) → next ≡ Some d → d.number ≡ c.number)
        → Ordered (effect o a r w1) → Replying (effect o a r w1) → list_all (suits Aside) rest ≡ true
        → Numbered o (effects o a rest (effect o a r w1))
    begun_numbered r next rest m home calls same order2 R2 h = numbered_from o a (effect o a r w1)
        (effects o a rest (effect o a r w1))
        (from_chain o a kept rest (effect o a r w1) num (all_of_all (suits Aside) (suits Hearing) aside_hears rest h) m
        order2 R2)
        (last_chain o a rest (effect o a r w1))
        (numbered_begins o a w (effect o a r w1) c.holder next home
        (λ p. calls p ∙ ap (λ (k : Option LockCall). if is_process c.holder p then next else k) (same_calls p))
        (λ d e. same d e ∙ is_last)
        (subst (λ (n : ℕ). n ≤ ((effect o a r w1).node a).last_call) last_1 (last_effect o a w1 r a))
        (λ n. omega (arith, last_effect o a w CallsLock n, last_effect o a w1 r n)) N)

  -- a try
  module _ (a : ℕ) (p : Process) (r q : Text) (target : Target) (retries : Retries) where
    abbrev attempt : WorldEvent
    attempt = At a (Event.Calling (Call.SetLock p r q target retries))

    abbrev new_try : LockCall
    new_try = new_call o.bound a ((w.node a).last_call + 1) p r q target retries

    -- nothing is counted
    try_numbers : (s : Rule) (rest : List Rule) → list_all is_calm (CallsLock ∷ s ∷ rest) ≡ true
        → MayAll o a (CallsLock ∷ s ∷ rest) w
        → (k : Process) → is_no_more (effects o a (CallsLock ∷ s ∷ rest) w) k ≡ false → (id : Id) (x : ℕ)
        → nums_by o a (CallsLock ∷ s ∷ rest) w num k id x ≡ told_by w attempt
        (answers_by o a (CallsLock ∷ s ∷ rest) w) k id x (num k id x)
    try_numbers s rest calm m k up id x = calm_nums o a (CallsLock ∷ s ∷ rest) w num calm m k up id x
        ∙ sym (told_none w attempt (answers_by o a (CallsLock ∷ s ∷ rest) w) k id x (num k id x)
        (won_nothing id x (answers_by o a (CallsLock ∷ s ∷ rest) w) (call_at w k)
        (calm_answers o a (CallsLock ∷ s ∷ rest) w calm m R)) refl)

    asked_tied : (rest : List Rule) → MayAll o a (CallsLock ∷ AsksLock new_try ∷ rest) w
        → list_all (suits Aside) rest ≡ true → Tied attempt (AsksLock new_try ∷ rest)
    asked_tied rest m h = record {
      numbers = try_numbers (AsksLock new_try) rest (all_of_all (suits Aside) is_calm aside_calm rest h) m;
      numbered = begun_numbered a new_try refl (AsksLock new_try) (Some first) rest m.1.1 home
          (call_after a None (turn_by o a (effect o a CallsLock w) (AsksLock new_try)) (effect o a CallsLock w) p
          (Some first) home (calls_put a (effect o a CallsLock w) order1 first home))
          (λ k e. let same : first ≡ k = cc e in sym (ap (λ (j : LockCall). j.number) same))
          (kept a (effect o a CallsLock w) (AsksLock new_try) order1 m.1.0)
          (replying_keeps o a (effect o a CallsLock w) (AsksLock new_try) m.1.0 (replying_keeps o a w CallsLock m.0 R))
          h;
    }
      where
        order1 : Ordered (effect o a CallsLock w)
        order1 = kept a w CallsLock order m.0

        home : p.node ≡ a
        home = beginner_home o a (effect o a CallsLock w) new_try order1 m.1.0.tested.0

        first : LockCall
        first = in_phase (LockPhase.Asking
            (begin o.bound (targets ((effect o a CallsLock w).node a).replica.members target))) new_try

    failed_tied : (rest : List Rule) → MayAll o a (CallsLock ∷ FailsLock new_try ∷ rest) w
        → list_all (suits Aside) rest ≡ true → Tied attempt (FailsLock new_try ∷ rest)
    failed_tied rest m h = record {
      numbers = try_numbers (FailsLock new_try) rest (all_of_all (suits Aside) is_calm aside_calm rest h) m;
      numbered = begun_numbered a new_try refl (FailsLock new_try) None rest m.1.1 home
          (call_after a None (turn_by o a (effect o a CallsLock w) (FailsLock new_try))
          (effect o a CallsLock w) p None home (λ k. call_of-drop k p ((effect o a CallsLock w).node a).calls))
          (λ k e. cc)
          (kept a (effect o a CallsLock w) (FailsLock new_try) order1 m.1.0)
          (replying_keeps o a (effect o a CallsLock w) (FailsLock new_try) m.1.0
          (replying_keeps o a w CallsLock m.0 R)) h;
    }
      where
        order1 : Ordered (effect o a CallsLock w)
        order1 = kept a w CallsLock order m.0

        home : p.node ≡ a
        home = beginner_home o a (effect o a CallsLock w) new_try order1 m.1.0.tested.0

  told_gives : (e : WorldEvent) (ss : List Answer) (p : Process) (id : Id) (x k : ℕ)
      → is_won_by_round id x ss (call_at w p) ≡ false → told_by w e ss p id x k ≡ less_if (gives w e p id x) k
  told_gives e ss p id x k hw = rw hw refl

  and_assoc : (b c d : Bool) → (b && (c && d)) ≡ ((b && c) && d)
  and_assoc true c d = refl
  and_assoc false c d = refl

  -- a deletion counts where it goes
  module _ (a : ℕ) (p : Process) (r q : Text) (target : Target) where
    abbrev deletion : WorldEvent
    deletion = At a (Event.Calling (Call.DelLock p r q target))

    abbrev fresh : LockCall
    fresh = new_call o.bound a ((w.node a).last_call + 1) p r q target (Times 0)

    goes_there : (k : Process) (id : Id) (x : ℕ)
        → (is_process p k && (is_id (Client r q) id && targets ((effect o a CallsLock w).node a).replica.members target
        x)) ≡ gives w deletion k id x
    goes_there k id x =
        ap (λ (v : Node). is_process p k && (is_id (Client r q) id && targets v.replica.members target x))
        (node_here w a (turn_by o a w CallsLock) a refl)
        ∙ and_assoc (is_process p k) (is_id (Client r q) id) (targets (w.node a).replica.members target x)

    deleted_tied : (rest : List Rule) → MayAll o a (CallsLock ∷ DeletesLock fresh ∷ rest) w
        → list_all (suits Aside) rest ≡ true → Tied deletion (DeletesLock fresh ∷ rest)
    deleted_tied rest m h = record {
      numbers = λ k up id x.
          calm_nums o a rest (effect o a (DeletesLock fresh) (effect o a CallsLock w))
          (num_by a (DeletesLock fresh) (effect o a CallsLock w) num) calm m.1.1 k up id x
          ∙ ap (λ (b : Bool). less_if b (num k id x)) (goes_there k id x)
          ∙ sym (told_gives deletion (answers_by o a (CallsLock ∷ DeletesLock fresh ∷ rest) w) k id x (num k id x)
          (won_nothing id x (answers_by o a (CallsLock ∷ DeletesLock fresh ∷ rest) w) (call_at w k)
          (calm_answers o a rest (effect o a (DeletesLock fresh) (effect o a CallsLock w)) calm m.1.1 R2)));
      numbered = begun_numbered a fresh refl (DeletesLock fresh) (Some first) rest m.1.1 home
          (call_after a None (turn_by o a (effect o a CallsLock w) (DeletesLock fresh)) (effect o a CallsLock w) p
          (Some first) home (calls_put a (effect o a CallsLock w) order1 first home))
          (λ k e. let same : first ≡ k = cc e in sym (ap (λ (j : LockCall). j.number) same))
          (kept a (effect o a CallsLock w) (DeletesLock fresh) order1 m.1.0) R2 h;
    }
      where
        calm : list_all is_calm rest ≡ true
        calm = all_of_all (suits Aside) is_calm aside_calm rest h

        order1 : Ordered (effect o a CallsLock w)
        order1 = kept a w CallsLock order m.0

        R1 : Replying (effect o a CallsLock w)
        R1 = replying_keeps o a w CallsLock m.0 R

        R2 : Replying (effect o a (DeletesLock fresh) (effect o a CallsLock w))
        R2 = replying_keeps o a (effect o a CallsLock w) (DeletesLock fresh) m.1.0 R1

        home : p.node ≡ a
        home = beginner_home o a (effect o a CallsLock w) fresh order1 (inl m.1.0.tested.0)

        first : LockCall
        first = in_phase (LockPhase.Deleting (targets ((effect o a CallsLock w).node a).replica.members target)) fresh

    deleted_nothing_tied : (rest : List Rule) → MayAll o a (CallsLock ∷ DeletesNothing fresh ∷ rest) w
        → list_all (suits Aside) rest ≡ true → Tied deletion (DeletesNothing fresh ∷ rest)
    deleted_nothing_tied rest m h = record {
      numbers = λ k up id x.
          calm_nums o a rest (effect o a (DeletesNothing fresh) (effect o a CallsLock w))
          (num_by a (DeletesNothing fresh) (effect o a CallsLock w) num) calm m.1.1 k up id x
          ∙ ap (λ (b : Bool). less_if b (num k id x)) (goes_there k id x)
          ∙ sym (told_gives deletion (answers_by o a (CallsLock ∷ DeletesNothing fresh ∷ rest) w) k id x (num k id x)
          (won_later id x (record { node = a; number = ((w.node a).last_call + 1); reply = True } ∷ [])
          (answers_by o a rest (effect o a (DeletesNothing fresh) (effect o a CallsLock w))) (call_at w k)
          (λ c e. other k c e (a == c.holder.node) (((w.node a).last_call + 1) == c.number) refl refl)
          ∙ won_nothing id x (answers_by o a rest (effect o a (DeletesNothing fresh) (effect o a CallsLock w)))
          (call_at w k) (calm_answers o a rest (effect o a (DeletesNothing fresh) (effect o a CallsLock w)) calm
          m.1.1 R2)));
      numbered = begun_numbered a fresh refl (DeletesNothing fresh) None rest m.1.1 home
          (call_after a None (turn_by o a (effect o a CallsLock w) (DeletesNothing fresh))
          (effect o a CallsLock w) p None home (λ k. call_of-drop k p ((effect o a CallsLock w).node a).calls))
          (λ k e. cc)
          (kept a (effect o a CallsLock w) (DeletesNothing fresh) order1 m.1.0) R2 h;
    }
      where
        calm : list_all is_calm rest ≡ true
        calm = all_of_all (suits Aside) is_calm aside_calm rest h

        order1 : Ordered (effect o a CallsLock w)
        order1 = kept a w CallsLock order m.0

        R1 : Replying (effect o a CallsLock w)
        R1 = replying_keeps o a w CallsLock m.0 R

        R2 : Replying (effect o a (DeletesNothing fresh) (effect o a CallsLock w))
        R2 = replying_keeps o a (effect o a CallsLock w) (DeletesNothing fresh) m.1.0 R1

        home : p.node ≡ a
        home = beginner_home o a (effect o a CallsLock w) fresh order1 (inl m.1.0.tested.0)

        -- the number is that of no call that was open
        other : (k : Process) (c : LockCall) → call_at w k ≡ Some c → (b t : Bool) → (a == c.holder.node) ≡ b
            → (((w.node a).last_call + 1) == c.number) ≡ t → (((b && t) && true) || false) ≡ false
        other k c e false t eb et = refl
        other k c e true false eb et = refl
        other k c e true true eb et =
            let here : k.node ≡ a = ap (λ (i : Process). i.node) (sym (holder_of_call k (w.node k.node).calls c e))
            ∙ sym (eqb-true a c.holder.node eb) in
            let least : c.number ≤ (w.node a).last_call = subst (λ (n : ℕ). c.number ≤ (w.node n).last_call) here
            (N.below k c e) in
            absurd (omega (arith, eqb-true ((w.node a).last_call + 1) c.number et, least))

  -- each accepted event
  pub tied : (e : WorldEvent) (rest : List Rule) → MayAll o (place e) (chain_of o w e rest) w → InOrder o w e rest
      → Tied e rest
  tied (At a (Event.Calling Call.Spawn)) rest m h = aside_tied (At a (Event.Calling Call.Spawn)) rest
      (λ p id x. refl) m h
  tied (At a (Event.Calling (Call.LookUp look))) rest m h = aside_tied (At a (Event.Calling (Call.LookUp look))) rest
      (λ p id x. refl) m h
  tied (At a (Event.Calling (Call.OnName c))) rest m h = aside_tied (At a (Event.Calling (Call.OnName c))) rest
      (λ p id x. refl) m h
  tied (At a (Event.Calling (Call.SetLock p r q target retries))) rest m h =
      (subst (λ (rs : List Rule). MayAll o a (CallsLock ∷ rs) w → Tied
      (At a (Event.Calling (Call.SetLock p r q target retries))) rs) (sym h.1.1.0)
      (elim h.1.1.1 [
        | inl e ↦ subst (λ (s : Rule). MayAll o a (CallsLock ∷ s ∷ h.1.0) w
            → Tied (At a (Event.Calling (Call.SetLock p r q target retries))) (s ∷ h.1.0)) (sym e)
            (λ k. asked_tied a p r q target retries h.1.0 k h.1.1.2)
        | inr e ↦ subst (λ (s : Rule). MayAll o a (CallsLock ∷ s ∷ h.1.0) w
            → Tied (At a (Event.Calling (Call.SetLock p r q target retries))) (s ∷ h.1.0)) (sym e)
            (λ k. failed_tied a p r q target retries h.1.0 k h.1.1.2)
      ])) m
  tied (At a (Event.Calling (Call.DelLock p r q target))) rest m h =
      (subst (λ (rs : List Rule). MayAll o a (CallsLock ∷ rs) w → Tied
      (At a (Event.Calling (Call.DelLock p r q target))) rs) (sym h.1.1.0)
      (elim h.1.1.1 [
        | inl e ↦ subst (λ (s : Rule). MayAll o a (CallsLock ∷ s ∷ h.1.0) w
            → Tied (At a (Event.Calling (Call.DelLock p r q target))) (s ∷ h.1.0)) (sym e)
            (λ k. deleted_tied a p r q target h.1.0 k h.1.1.2)
        | inr e ↦ subst (λ (s : Rule). MayAll o a (CallsLock ∷ s ∷ h.1.0) w
            → Tied (At a (Event.Calling (Call.DelLock p r q target))) (s ∷ h.1.0)) (sym e)
            (λ k. deleted_nothing_tied a p r q target h.1.0 k h.1.1.2)
      ])) m
  tied (At a (Event.Calling (Call.JoinBy j))) rest m h = aside_tied (At a (Event.Calling (Call.JoinBy j))) rest
      (λ p id x. refl) m h
  tied (At a Event.Retry) rest m h = retry_tied a rest m h
  tied (At a (Event.Exiting p)) rest m h = aside_tied (At a (Event.Exiting p)) rest (λ p id x. refl) m h
  tied (At a Event.Leave) rest m h = aside_tied (At a Event.Leave) rest (λ p id x. refl) m h
  tied (Deliver f t) rest m h = delivery_tied f t rest m h
