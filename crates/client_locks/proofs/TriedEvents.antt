-- Each accepted event keeps that the last try of a process is that of its open lock call, and gives by the try what it
-- gives by the call.
use mathlib.Core.Logic.{◌⊎◌}
use Rattle.std.proofs.Common.{ℕ, Bool, true, false, ◌==◌, ◌≡◌, ◌+◌, ◌≤◌, Option, Some, None, List, ◌∷◌, refl, sym, ap, ◌∙◌, subst, arith, inl, inr}
use Rattle.std.specs.Prelude.{◌&&◌, if◌then◌else◌}
use Rattle.std.specs.List.{list_all}
use Rattle.std.proofs.lemmas.Bool.{eq-eqb}
use Rattle.std.proofs.Math.Bool.{and-false}
use Rattle.registry_model.specs.Process.{Text, Process, is_process, Nodes}
use Rattle.protocol_model.specs.Round.{asked}
use Rattle.protocol_model.specs.Letter.{Id, Client, is_id}
use Rattle.protocol_model.specs.Node.{LockPhase, LockCall, Target, Retries, call_of, targets}
use Rattle.protocol_model.specs.Event.{Call, Event, Answer, is_waiting_call}
use Rattle.protocol_model.specs.ClientLocks.{Try, try_of, tried_again, waits_for_retry, last_try, is_won}
use Rattle.protocol_model.specs.World.{Opening, in_world, World, WorldEvent, At, Deliver, place, accepted, turn_of}
use Rattle.moves.proofs.Rules.{Rule, MayAll, Ordered, effect, effects, answers_by}
use Rattle.moves.proofs.Rules.Rule.{CallsLock, AsksLock, FailsLock, DeletesLock, DeletesNothing}
use Rattle.registry_model.proofs.Updates.{by_test}
use Rattle.moves.proofs.Indices.{both}
use Rattle.walk.proofs.ChainKinds.{Aside, Again, Hearing, suits}
use Rattle.walk.proofs.Walk.{InOrder}
use Rattle.client_locks.proofs.Beginnings.{either_rule, numbered, Begins, number_taken, same_targets, attempt, new_try, asking, deletion, fresh, deleting, try_asks, try_fails, deletes, deletes_nothing, deletes_silent, nothing_silent}
use Rattle.client_locks.proofs.RoundNumbers
use Rattle.client_locks.proofs.RoundNumbers.{is_tried}
use Rattle.client_locks.proofs.Ids.{is_process_same}
use Rattle.client_locks.proofs.Calls.{holder_of_call}
use Rattle.client_locks.proofs.Clients.{Numbers, call_at}
use Rattle.client_locks.proofs.Growing.{Replying, replying_keeps}
use Rattle.client_locks.proofs.Answering.{any_true}
use Rattle.client_locks.proofs.Ongoing.{is_deleting, asked_begin}
use Rattle.client_locks.proofs.Chains.{is_calm, aside_calm, OrderedKept, calm_answers}
use Rattle.client_locks.proofs.Numbering.{aside_hears, Numbered, last_effect, last_chain}
use Rattle.client_locks.proofs.Told.{all_of_all, retry_calm, chain_of, first_heard}
use Rattle.client_locks.proofs.Retried.{IsTriedAgain, retry_calls}
use Rattle.client_locks.proofs.Tries.{IsTryOf, Fits, lost_without, fits_chain, won_heard, fits_beside, fits_begins}

-- who is deleting doesn't wait
waiting_not_deleting : (f : LockPhase) → is_waiting_call f ≡ true → is_deleting f ≡ false
waiting_not_deleting (LockPhase.Asking r) h = refl
waiting_not_deleting LockPhase.Waiting h = refl
waiting_not_deleting (LockPhase.Deleting owing) h = cc

-- nothing is won, by the try or by the call, where neither number is answered `true`
both_lost : (p : Process) (id : Id) (x : ℕ) (ss : List Answer) (t : Option Try) (k : Option LockCall)
    → ((s : Try) → t ≡ Some s → any_true p.node s.number ss ≡ false)
    → ((c : LockCall) → k ≡ Some c → any_true c.holder.node c.number ss ≡ false)
    → is_won p id x ss t ≡ RoundNumbers.is_won_by_round id x ss k
both_lost p id x ss t None new old = lost_without p id x ss t new
both_lost p id x ss t (Some c) new old = lost_without p id x ss t new
    ∙ sym (ap (λ (b : Bool). is_tried id x c && b) (old c refl) ∙ and-false (is_tried id x c))

module _ (o : Opening) (kept : OrderedKept o) (w : World) (num : Numbers) (order : Ordered w) (R : Replying w)
    (N : Numbered o w) (p : Process) (t : Option Try) (F : Fits w p t) where
  -- what is shown of an event: what it gives, and that the last try behind it fits
  pub record Tried (e : WorldEvent) (ss : List Answer) (end : World) : Type 0 where
    pub won : (id : Id) (x : ℕ) → is_won p id x ss (last_try w e p t) ≡ RoundNumbers.is_won_by_round id x ss (call_at w p)
    pub fits : Fits end p (last_try w e p t)

  -- of an event that is this chain
  abbrev pub TriedBy : WorldEvent → List Rule → Type 0
  TriedBy e rest =
      Tried e (answers_by o (place e) (chain_of o w e rest) w) (effects o (place e) (chain_of o w e rest) w)

  -- a chain without rules of lock calls
  aside_tried : (e : WorldEvent) (rest : List Rule) → last_try w e p t ≡ t
      → MayAll o (place e) (chain_of o w e rest) w → list_all (suits Aside) (chain_of o w e rest) ≡ true
      → TriedBy e rest
  aside_tried e rest same m h = record {
    won = λ id x. both_lost p id x (answers_by o (place e) (chain_of o w e rest) w) (last_try w e p t) (call_at w p)
        (λ s k. calm_answers o (place e) (chain_of o w e rest) w calm m R p.node s.number)
        (λ c k. calm_answers o (place e) (chain_of o w e rest) w calm m R c.holder.node c.number);
    fits = subst (Fits (effects o (place e) (chain_of o w e rest) w) p) (sym same)
        (fits_chain o (place e) kept (chain_of o w e rest) w num p t
        (all_of_all (suits Aside) (suits Hearing) aside_hears (chain_of o w e rest) h) m order R F);
  }
    where
      calm : list_all is_calm (chain_of o w e rest) ≡ true
      calm = all_of_all (suits Aside) is_calm aside_calm (chain_of o w e rest) h

  -- a delivery
  delivery_tried : (f b : ℕ) (rest : List Rule) → MayAll o b (chain_of o w (Deliver f b) rest) w
      → list_all (suits Hearing) rest ≡ true → TriedBy (Deliver f b) rest
  delivery_tried f b rest m h = record {
    won = won_heard o b kept (chain_of o w (Deliver f b) rest) w num p t heard m order R F;
    fits = fits_chain o b kept (chain_of o w (Deliver f b) rest) w num p t heard m order R F;
  }
    where
      heard : list_all (suits Hearing) (chain_of o w (Deliver f b) rest) ≡ true
      heard = first_heard o kept w num order R N f b (w.links.queue f b) rest h

  -- a lock call takes its number, and its call begins by the rule r
  module _ (a : ℕ) (q : Process) (r : Rule) (rest : List Rule) (next : Option LockCall)
      (m : MayAll o a (CallsLock ∷ r ∷ rest) w) (h : list_all (suits Aside) rest ≡ true)
      (B : Begins o w a q r next) where
    abbrev w1 : World
    w1 = numbered o w a

    abbrev w2 : World
    w2 = effect o a r w1

    -- the rules behind it keep what fits
    later_fits : (k : Process) (s : Option Try) → Fits w2 k s → Fits (effects o a rest w2) k s
    later_fits k s G = fits_chain o a kept rest w2 num k s
        (all_of_all (suits Aside) (suits Hearing) aside_hears rest h) m.1.1
        (kept a w1 r (kept a w CallsLock order m.0) m.1.0)
        (replying_keeps o a w1 r m.1.0 (replying_keeps o a w CallsLock m.0 R)) G

    -- it is another process's, or a deletion
    call_beside : (is_process q p ≡ true → (d : LockCall) → next ≡ Some d → is_deleting d.phase ≡ true)
        → Fits (effects o a rest w2) p t
    call_beside apart = later_fits p t (fits_beside o a kept w w2 q next B.home B.calls B.number p t apart
        (λ n. omega (arith, last_effect o a w CallsLock n, last_effect o a w1 r n)) F)

    -- it is a try
    call_begins : (s : Try) → s.number ≡ (w.node a).last_call + 1
        → ((d : LockCall) → next ≡ Some d → (is_deleting d.phase ≡ false) × IsTryOf s d) → is_process q p ≡ true
        → Fits (effects o a rest w2) p (Some s)
    call_begins s number begins same = subst (λ (k : Process). Fits (effects o a rest w2) k (Some s))
        (is_process_same q p same) (later_fits q (Some s)
        (fits_begins o a kept w w2 q next B.home B.calls B.number s number begins (number_taken o w a r) N))

  -- a try
  module _ (a : ℕ) (q : Process) (r z : Text) (target : Target) (retries : Retries) where
    abbrev event : WorldEvent
    event = attempt o w a q r z target retries

    abbrev new : LockCall
    new = new_try o w a q r z target retries

    abbrev trying : Try
    trying = try_of (w.node a).replica.members ((w.node a).last_call + 1) (Client r z) target

    -- nothing is won
    try_won : (s : Rule) (rest : List Rule) → list_all is_calm (CallsLock ∷ s ∷ rest) ≡ true
        → MayAll o a (CallsLock ∷ s ∷ rest) w → (id : Id) (x : ℕ)
        → is_won p id x (answers_by o a (CallsLock ∷ s ∷ rest) w) (last_try w event p t)
        ≡ RoundNumbers.is_won_by_round id x (answers_by o a (CallsLock ∷ s ∷ rest) w) (call_at w p)
    try_won s rest calm m id x = both_lost p id x (answers_by o a (CallsLock ∷ s ∷ rest) w)
        (last_try w event p t) (call_at w p)
        (λ k e. calm_answers o a (CallsLock ∷ s ∷ rest) w calm m R p.node k.number)
        (λ c e. calm_answers o a (CallsLock ∷ s ∷ rest) w calm m R c.holder.node c.number)

    -- the last try is the new one, or another process tries
    try_fits : (end : World) → (is_process q p ≡ true → Fits end p (Some trying))
        → (is_process q p ≡ false → Fits end p t) → Fits end p (last_try w event p t)
    try_fits end begins beside = go (is_process q p) refl
      where
        go : (b : Bool) → is_process q p ≡ b → Fits end p (if b then Some trying else t)
        go true e = begins e
        go false e = beside e

    -- its round begins
    asked_tried : (rest : List Rule) → MayAll o a (CallsLock ∷ AsksLock new ∷ rest) w
        → list_all (suits Aside) rest ≡ true → TriedBy event (AsksLock new ∷ rest)
    asked_tried rest m h = record {
      won = try_won (AsksLock new) rest (all_of_all (suits Aside) is_calm aside_calm rest h) m;
      fits = try_fits (effects o a rest (effect o a (AsksLock new) (numbered o w a)))
          (call_begins a q (AsksLock new) rest (Some first) m h B trying refl begins)
          (λ i. call_beside a q (AsksLock new) rest (Some first) m h B (λ k d e. absurd (cc (i, k))));
    }
      where
        first : LockCall
        first = asking o w a q r z target retries

        B : Begins o w a q (AsksLock new) (Some first)
        B = try_asks o w a q r z target kept order rest retries m

        all : (id : Id) (x : ℕ) → is_tried id x first ≡ (is_id (Client r z) id && targets
            (w.node a).replica.members target x)
        all id x = ap (λ (b : Bool). is_id (Client r z) id && b)
            (asked_begin o.bound (targets ((numbered o w a).node a).replica.members target) x
            ∙ ap (λ (s : Nodes). s x) (same_targets o w a target))

        begins : (d : LockCall) → Some first ≡ Some d → (is_deleting d.phase ≡ false) × IsTryOf trying d
        begins d e = let same : first ≡ d = cc e in
            subst (λ (c : LockCall). (is_deleting c.phase ≡ false) × IsTryOf trying c) same
            (refl, record { number = refl; id = refl; target = refl; asks = inr all })

    -- there is nobody to ask
    failed_tried : (rest : List Rule) → MayAll o a (CallsLock ∷ FailsLock new ∷ rest) w
        → list_all (suits Aside) rest ≡ true → TriedBy event (FailsLock new ∷ rest)
    failed_tried rest m h = record {
      won = try_won (FailsLock new) rest (all_of_all (suits Aside) is_calm aside_calm rest h) m;
      fits = try_fits (effects o a rest (effect o a (FailsLock new) (numbered o w a)))
          (call_begins a q (FailsLock new) rest None m h B trying refl (λ d e. cc))
          (λ i. call_beside a q (FailsLock new) rest None m h B (λ k d e. cc));
    }
      where
        B : Begins o w a q (FailsLock new) None
        B = try_fails o w a q r z target kept order rest retries m

  -- a deletion
  module _ (a : ℕ) (q : Process) (r z : Text) (target : Target) where
    abbrev dropped : LockCall
    dropped = fresh o w a q r z target

    -- it goes to some node
    deleted_tried : (rest : List Rule) → MayAll o a (CallsLock ∷ DeletesLock dropped ∷ rest) w
        → list_all (suits Aside) rest ≡ true → TriedBy (deletion o w a q r z target) (DeletesLock dropped ∷ rest)
    deleted_tried rest m h = record {
      won = λ id x. both_lost p id x (answers_by o a (CallsLock ∷ DeletesLock dropped ∷ rest) w) t (call_at w p)
          (λ s e. deletes_silent o w a q r z target R rest h p.node s.number m)
          (λ c e. deletes_silent o w a q r z target R rest h c.holder.node c.number m);
      fits = call_beside a q (DeletesLock dropped) rest (Some first) m h (deletes o w a q r z target kept order rest m)
          (λ k d e. let same : first ≡ d = cc e in sym (ap (λ (j : LockCall). is_deleting j.phase) same));
    }
      where
        first : LockCall
        first = deleting o w a q r z target

    -- it goes nowhere, and is answered `true` under its own number
    deleted_nothing_tried : (rest : List Rule) → MayAll o a (CallsLock ∷ DeletesNothing dropped ∷ rest) w
        → list_all (suits Aside) rest ≡ true → TriedBy (deletion o w a q r z target) (DeletesNothing dropped ∷ rest)
    deleted_nothing_tried rest m h = record {
      won = λ id x. both_lost p id x (answers_by o a (CallsLock ∷ DeletesNothing dropped ∷ rest) w) t (call_at w p)
          (λ s e. nothing_silent o w a q r z target R rest h p.node s.number m
          (λ i. subst (λ (n : ℕ). s.number ≤ (w.node n).last_call) (sym i) (F.below s e)))
          (λ c e. nothing_silent o w a q r z target R rest h c.holder.node c.number m
          (λ i. subst (λ (n : ℕ). c.number ≤ (w.node n).last_call)
          (sym (i ∙ ap (λ (k : Process). k.node) (holder_of_call p (w.node p.node).calls c e))) (N.below p c e)));
      fits = call_beside a q (DeletesNothing dropped) rest None m h
          (deletes_nothing o w a q r z target kept order rest m) (λ k d e. cc);
    }

  -- a retry
  module _ (a : ℕ) where
    abbrev again : WorldEvent
    again = At a Event.Retry

    abbrev members : Nodes
    members = (w.node a).replica.members

    -- an open call behind it was open before, or was refused and is tried again
    abbrev Was : ℕ → Process → LockCall → Type 0
    Was x q d = (call_of q (w.node x).calls ≡ Some d)
        ⊎ ((c : LockCall) × ((call_of q (w.node x).calls ≡ Some c) × (IsTriedAgain o.bound members c d × (x ≡ a))))

    -- so it is of each open call
    was_open : (q : Process) (d : LockCall) → call_at (accepted o w again) q ≡ Some d → Was q.node q d
    was_open q d = by_test a (λ x b. call_of q (if b then (turn_of o w again).node else w.node x).calls ≡ Some d
        → Was x q d)
        (λ e. here (retry_calls o.bound a (in_world o) (w.node a) (order a) q d e)) (λ x ne e. inl e) q.node
      where
        here : (call_of q (w.node a).calls ≡ Some d)
            ⊎ ((c : LockCall) × ((call_of q (w.node a).calls ≡ Some c) × IsTriedAgain o.bound members c d))
            → Was a q d
        here (inl e) = inl e
        here (inr e) = inr (e.0, (e.1.0, (e.1.1, refl)))

    -- the last try behind it
    abbrev next_try : Bool → Option Try
    next_try b = if b then tried_again members t else t

    -- it has the number of the last one
    same_number : (b : Bool) (s2 : Try) → next_try b ≡ Some s2 → (s : Try) × ((t ≡ Some s) × (s2.number ≡ s.number))
    same_number b s2 e = go t refl b e
      where
        go : (k : Option Try) → t ≡ k → (d : Bool) → (if d then tried_again members k else k) ≡ Some s2
            → (s : Try) × ((t ≡ Some s) × (s2.number ≡ s.number))
        go None i true j = cc
        go None i false j = cc
        go (Some s) i true j =
            let same : try_of members s.number s.id s.target ≡ s2 = cc j in
            (s, (i, sym (ap (λ (y : Try). y.number) same)))
        go (Some s) i false j = let same : s ≡ s2 = cc j in (s, (i, sym (ap (λ (y : Try). y.number) same)))

    -- an open call is of the last try
    next_own : (b : Bool) → ((a == p.node) && waits_for_retry w p) ≡ b → (d : LockCall)
        → call_at (accepted o w again) p ≡ Some d → is_deleting d.phase ≡ false
        → (s : Try) × ((next_try b ≡ Some s) × IsTryOf s d)
    next_own b i d e hd = go (was_open p d e) b i
      where
        refused_by : (c : LockCall) → call_at w p ≡ Some c → waits_for_retry w p ≡ is_waiting_call c.phase
        refused_by c f = ap (λ (k : Option LockCall). elim k [ None ↦ false | Some c ↦ is_waiting_call c.phase ]) f

        tried : (s : Try) → t ≡ Some s → tried_again members t ≡ Some (try_of members s.number s.id s.target)
        tried s f = ap (tried_again members) f

        go : Was p.node p d → (g : Bool) → ((a == p.node) && waits_for_retry w p) ≡ g
            → (s : Try) × ((next_try g ≡ Some s) × IsTryOf s d)
        go (inl f) false j = F.own d f hd
        go (inl f) true j =
            let known : (s : Try) × ((t ≡ Some s) × IsTryOf s d) = F.own d f hd in
            let s : Try = known.0 in (
              try_of members s.number s.id s.target,
              (
                tried s known.1.0,
                record {
                  number = known.1.1.number;
                  id = known.1.1.id;
                  target = known.1.1.target;
                  asks = inl (sym (refused_by d f) ∙ (both (a == p.node) (waits_for_retry w p) j).1);
                },
              ),
            )
        go (inr f) false j =
            let found : ((a == p.node) && waits_for_retry w p) ≡ true =
            ap (λ (y : Bool). y && waits_for_retry w p) (eq-eqb a p.node (sym f.1.1.1))
            ∙ refused_by f.0 f.1.0 ∙ f.1.1.0.refused in
            absurd (cc (j, found))
        go (inr f) true j =
            let c : LockCall = f.0 in
            let k : IsTriedAgain o.bound members c d = f.1.1.0 in
            let known : (s : Try) × ((t ≡ Some s) × IsTryOf s c) = F.own c f.1.0
            (waiting_not_deleting c.phase k.refused) in
            let s : Try = known.0 in (
              try_of members s.number s.id s.target,
              (
                tried s known.1.0,
                record {
                  number = known.1.1.number ∙ sym k.number;
                  id = known.1.1.id ∙ sym k.id;
                  target = known.1.1.target ∙ sym k.target;
                  asks = inr (λ id x. asks c k s known.1.1 id x);
                },
              ),
            )
          where
            asks : (c : LockCall) → IsTriedAgain o.bound members c d → (s : Try) → IsTryOf s c → (id : Id) (x : ℕ)
                → is_tried id x d ≡ (is_id s.id id && targets members s.target x)
            asks c k s T id x =
                ap (λ (f : LockPhase). is_id d.id id && (elim f [ LockPhase.Asking r ↦ asked r x | _ ↦ false ])) k.phase
                ∙ ap (λ (g : Bool). is_id d.id id && g) (asked_begin o.bound (targets members c.target) x)
                ∙ ap (λ (i : Id). is_id i id && targets members c.target x) (k.id ∙ sym T.id)
                ∙ ap (λ (y : Target). is_id s.id id && targets members y x) (sym T.target)

    -- so the last try still fits, and nothing is won
    retry_tried : (rest : List Rule) → MayAll o a rest w → list_all (suits (Again (w.node a))) rest ≡ true
        → ((n : ℕ) → (w.node n).last_call ≤ ((accepted o w again).node n).last_call)
        → Tried again (answers_by o a rest w) (accepted o w again)
    retry_tried rest m h last = record {
      won = λ id x. both_lost p id x (answers_by o a rest w) (last_try w again p t) (call_at w p)
          (λ s e. calm_answers o a rest w calm m R p.node s.number)
          (λ c e. calm_answers o a rest w calm m R c.holder.node c.number);
      fits = record {
        own = next_own ((a == p.node) && waits_for_retry w p) refl;
        alone = λ s e q c k f n. alone s (same_number ((a == p.node) && waits_for_retry w p) s e) q c k (was_open q c f) n;
        below = λ s e.
            let one : (s0 : Try) × ((t ≡ Some s0) × (s.number ≡ s0.number)) = same_number
            ((a == p.node) && waits_for_retry w p) s e in
            omega (arith, F.below one.0 one.1.0, one.1.1, last p.node);
      };
    }
      where
        calm : list_all is_calm rest ≡ true
        calm = all_of_all (suits (Again (w.node a))) is_calm (retry_calm (w.node a)) rest h

        alone : (s : Try) → (s0 : Try) × ((t ≡ Some s0) × (s.number ≡ s0.number)) → (q : Process) (c : LockCall)
            → q.node ≡ p.node → Was q.node q c → c.number ≡ s.number → (q ≡ p) × (is_deleting c.phase ≡ false)
        alone s one q c k (inl f) n = F.alone one.0 one.1.0 q c k f (n ∙ one.1.1)
        alone s one q c k (inr f) n =
            let was : (q ≡ p) × (is_deleting f.0.phase ≡ false) = F.alone one.0 one.1.0 q f.0 k f.1.0
            (sym f.1.1.0.number ∙ n ∙ one.1.1) in
            (was.0, ap is_deleting f.1.1.0.phase)

  -- a call
  call_tried : (a : ℕ) (c : Call) (rest : List Rule) → MayAll o a (chain_of o w (At a (Event.Calling c)) rest) w
      → InOrder o w (At a (Event.Calling c)) rest → TriedBy (At a (Event.Calling c)) rest
  call_tried a Call.Spawn rest m h = aside_tried (At a (Event.Calling Call.Spawn)) rest refl m h
  call_tried a (Call.LookUp look) rest m h = aside_tried (At a (Event.Calling (Call.LookUp look))) rest refl m h
  call_tried a (Call.OnName c) rest m h = aside_tried (At a (Event.Calling (Call.OnName c))) rest refl m h
  call_tried a (Call.JoinBy j) rest m h = aside_tried (At a (Event.Calling (Call.JoinBy j))) rest refl m h
  call_tried a (Call.SetLock q r z target retries) rest m h =
      either_rule o w a (TriedBy (attempt o w a q r z target retries)) _ _ h.0 h.1.0 rest h.1.1.0 h.1.1.1 m
      (λ k. asked_tried a q r z target retries h.1.0 k h.1.1.2)
      (λ k. failed_tried a q r z target retries h.1.0 k h.1.1.2)
  call_tried a (Call.DelLock q r z target) rest m h =
      either_rule o w a (TriedBy (deletion o w a q r z target)) _ _ h.0 h.1.0 rest h.1.1.0 h.1.1.1 m
      (λ k. deleted_tried a q r z target h.1.0 k h.1.1.2)
      (λ k. deleted_nothing_tried a q r z target h.1.0 k h.1.1.2)

  -- each accepted event
  pub tried : (e : WorldEvent) (rest : List Rule) → MayAll o (place e) (chain_of o w e rest) w → InOrder o w e rest
      → effects o (place e) (chain_of o w e rest) w ≡ accepted o w e
      → Tried e (answers_by o (place e) (chain_of o w e rest) w) (accepted o w e)
  tried (At a Event.Retry) rest m h is = retry_tried a rest m h
      (λ n. subst (λ (v : World). (w.node n).last_call ≤ (v.node n).last_call) is (last_chain o a rest w n))
  tried (At a (Event.Calling c)) rest m h is =
      let e : WorldEvent = At a (Event.Calling c) in
      subst (Tried e (answers_by o a (chain_of o w e rest) w)) is (call_tried a c rest m h)
  tried (At a (Event.Exiting q)) rest m h is =
      let e : WorldEvent = At a (Event.Exiting q) in
      subst (Tried e (answers_by o a (chain_of o w e rest) w)) is (aside_tried e rest refl m h)
  tried (At a Event.Leave) rest m h is =
      let e : WorldEvent = At a Event.Leave in
      subst (Tried e (answers_by o a (chain_of o w e rest) w)) is (aside_tried e rest refl m h)
  tried (Deliver f b) rest m h is =
      let e : WorldEvent = Deliver f b in
      subst (Tried e (answers_by o b (chain_of o w e rest) w)) is (delivery_tried f b rest m h)
