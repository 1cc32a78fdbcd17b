-- How a call that nothing is in the way of stands with a node that it asks, as long as it is open.
-- xs: the events from the opening on.
use mathlib.Core.Logic.{◌⊎◌}
use Rattle.std.proofs.Common.{ℕ, Bool, true, false, ◌==◌, ◌≡◌, ◌<◌, ◌≤◌, ◌+◌, Option, Some, None, List, [], ◌∷◌, ◌++◌, refl, sym, ap, subst, ◌∙◌, inl, inr, arith}
use Rattle.std.specs.Prelude.{not, ◌&&◌, ◌||◌, Contains, if◌then◌else◌}
use Rattle.registry_model.specs.Process.{Process, is_process, Nodes}
use Rattle.registry_model.proofs.Lists.{Contains-front, Contains-behind}
use Rattle.protocol_model.specs.Letter.{Id, Letter, is_id}
use Rattle.protocol_model.specs.LockTable.{Grant, Locks, is_grant_of, count}
use Rattle.protocol_model.specs.Round.{Mark, Out, Later, Owes, Granted, Refused, Lost, Gone, Round, is_empty, is_owes, is_refused, is_gone, has_granted, asked, owes}
use Rattle.protocol_model.specs.Watch.{is_dead}
use Rattle.protocol_model.specs.ClientLocks.{Try}
use Rattle.protocol_model.specs.Node.{LockPhase, LockCall, call_of}
use Rattle.protocol_model.specs.Event.{Event}
use Rattle.protocol_model.specs.ClientLocks.{is_no_more}
use Rattle.protocol_model.specs.LockAnswers.{tries_of}
use Rattle.protocol_model.specs.World.{Opening, World, WorldEvent, At, refusal}
use Rattle.protocol_model.proofs.Ids.{is_id_self}
use Rattle.getting_through.proofs.Tries.{IsTryOf}
use Rattle.getting_through.proofs.Nobody.{some_same}
use Rattle.getting_through.proofs.Indices.{both, is_empty_from}
use Rattle.getting_through.proofs.Invariants.{Each, IsUp}
use Rattle.getting_through.proofs.Base.{not_both}
use Rattle.getting_through.proofs.Clients.{call_at, lives, IsLive, live_parts, caller_lives}
use Rattle.getting_through.proofs.Families.{whole}
use Rattle.getting_through.proofs.Grounds.{lock_state}
use Rattle.getting_through.proofs.Ids.{is_process_same}
use Rattle.getting_through.proofs.Mail
use Rattle.getting_through.proofs.Mail.{ask_of, echo_of}
use Rattle.getting_through.proofs.Ongoing.{is_deleting}
use Rattle.getting_through.proofs.Rest.{RoundRests, PhaseRests}
use Rattle.getting_through.proofs.RoundFacts.{is_before}
use Rattle.getting_through.proofs.RoundNumbers.{round_count}
use Rattle.getting_through.proofs.Sessions
use Rattle.getting_through.proofs.Sessions.{Ask, Takes, Backs, Acks, Frees, Echo, View, Owed, view, view_of, view_in, settled, settled_le, ends_take, Live}
use Rattle.getting_through.proofs.BadMarks.{is_bad}
use Rattle.getting_through.proofs.Behind.{stands}
use Rattle.getting_through.proofs.Denials.{Denies}
use Rattle.getting_through.proofs.LastCalls.{known}
use Rattle.getting_through.proofs.LastTry.{last_of}
use Rattle.getting_through.proofs.ReasonEvents.{ReasonsAt, reasons_next}
use Rattle.getting_through.proofs.ReasonSteps.{Reasons}
use Rattle.getting_through.proofs.Reasons.{MarksIn}
use Rattle.waiting_lock_calls.specs.Retried.{asks}
use Rattle.waiting_lock_calls.proofs.Tried.{still_up, AreTries, up, home, found_home}
use Rattle.waiting_lock_calls.proofs.Front.{is_own, none_own}
use Rattle.getting_through.specs.Worlds.{of_nodes, IsQuiet}
use Rattle.getting_through.specs.Clauses.{world}

-- who is counted is listed
pub counted : (id : Id) (p : Process) (t : Locks) → 0 < count id p t → (g : Grant) × Contains t g × (is_id g.id id ≡ true)
counted id p [] h = absurd (omega (arith, h))
counted id p (g ∷ t) h = go (is_grant_of id p g) refl h (counted id p t)
  where
    go : (b : Bool) → is_grant_of id p g ≡ b → 0 < (if b then g.count else count id p t)
        → (0 < count id p t → (x : Grant) × Contains t x × (is_id x.id id ≡ true))
        → (x : Grant) × Contains (g ∷ t) x × (is_id x.id id ≡ true)
    go true e k more = (g, Contains-front g t, (both (is_id g.id id) (is_process g.holder p) e).0)
    go false e k more = let one : (x : Grant) × Contains t x × (is_id x.id id ≡ true) = more k in
        (one.0, Contains-behind g t one.0 one.1, one.2)

-- what a session has on its way that is owed: a take at the end, or one answer
owed_parts : (id : Id) (ups : List Ask) (downs : List Echo) → Sessions.fits (Owed id) ups downs ≡ true
    → ((downs ≡ []) × (ends_take id ups ≡ true))
    ⊎ ((j : Id) × (g : Bool) × (ups ≡ []) × (downs ≡ Echo.Answers j g ∷ []) × (is_id j id ≡ true))
owed_parts id ups [] h = inl (refl, h)
owed_parts id [] (Echo.Answers j g ∷ []) h = inr (j, g, refl, refl, h)
owed_parts id [] (Echo.Answers j g ∷ x ∷ xs) h = cc h
owed_parts id [] (Echo.Backed ∷ xs) h = cc h
owed_parts id (u ∷ us) (x ∷ xs) h = cc h

-- where a link has none of its requests nothing is taken
untaken : (c : LockCall) (id : Id) → (c.holder.serial == 0) ≡ false → (ls : List Letter) → none_own c ls ≡ true
    → ends_take id (Mail.asks c.holder ls) ≡ false
untaken c id client [] h = refl
untaken c id client (l ∷ ls) h = go l (both (not (is_own c l)) (none_own c ls) h).0
    (untaken c id client ls (both (not (is_own c l)) (none_own c ls) h).1)
  where
    rest : List Ask
    rest = Mail.asks c.holder ls

    go : (l : Letter) → not (is_own c l) ≡ true → ends_take id (Mail.asks c.holder ls) ≡ false
        → ends_take id (ask_of c.holder l ++ Mail.asks c.holder ls) ≡ false
    go (Letter.SetLock i q) k more = by (is_process q c.holder) refl
      where
        by : (b : Bool) → is_process q c.holder ≡ b
            → ends_take id ((if b then Takes i ∷ [] else []) ++ Mail.asks c.holder ls) ≡ false
        by false e = more
        by true e = cc (
          ap (λ (s : Process). not (s.serial == 0) && is_process q c.holder) (is_process_same q c.holder e),
          client,
          e,
          k,
        )
    go (Letter.GiveBack i q ack) k more = by (is_process q c.holder) ack
      where
        by : (b d : Bool) → ends_take id ((if b then (if d then Acks i else Backs i) ∷ [] else []) ++ Mail.asks c.holder ls) ≡ false
        by false d = more
        by true true = refl
        by true false = more
    go (Letter.ReleaseOf q) k more = by (is_process q c.holder)
      where
        by : (b : Bool) → ends_take id ((if b then Frees ∷ [] else []) ++ Mail.asks c.holder ls) ≡ false
        by false = more
        by true = refl
    go l k more = more

-- a denial on its way is for a reason
denied : (p : Process) (so : Bool) (j : Id) (ls : List Letter) → Each (Denies p so) ls
    → Mail.echoes p ls ≡ Echo.Answers j false ∷ [] → so ≡ true
denied p so j [] E h = cc h
denied p so j (l ∷ ls) E h = go l E.0 h (denied p so j ls E.1)
  where
    go : (l : Letter) → Denies p so l → echo_of p l ++ Mail.echoes p ls ≡ Echo.Answers j false ∷ []
        → (Mail.echoes p ls ≡ Echo.Answers j false ∷ [] → so ≡ true) → so ≡ true
    go (Letter.LockAnswer id q g) D k more = by (is_process q p) refl k
      where
        by : (b : Bool) → is_process q p ≡ b → (if b then Echo.Answers id g ∷ [] else []) ++ Mail.echoes p ls ≡ Echo.Answers j false ∷ []
            → so ≡ true
        by false e i = more i
        by true e i = D (ap (λ (b : Bool). b && not g) e ∙ ap not (of i))
          where
            of : Echo.Answers id g ∷ Mail.echoes p ls ≡ Echo.Answers j false ∷ [] → g ≡ false
            of n = cc n
    go (Letter.GivenBack q) D k more = by (is_process q p) k
      where
        by : (b : Bool) → (if b then Echo.Backed ∷ [] else []) ++ Mail.echoes p ls ≡ Echo.Answers j false ∷ [] → so ≡ true
        by false i = more i
        by true i = cc i
    go l D k more = more k

module _ (o : Opening) (es : List WorldEvent) (a : ℕ) (c : LockCall) (listed : Contains ((world o es).node a).calls c)
    (Q : IsQuiet (of_nodes o) (world o es)) (h : refusal o (world o es) (At a Event.Retry) ≡ None)
    (client : (c.holder.serial == 0) ≡ false) where
  abbrev w : World
  w = world o es

  abbrev p : Process
  p = c.holder

  -- an open call behind these events, for which nothing was met
  module _ (xs : List WorldEvent) (T : AreTries o es a c listed Q h xs) (e : LockCall)
      (e_found : call_of p ((world o xs).node a).calls ≡ Some e) (e_number : e.number ≡ c.number) (unmet : T.tries.met ≡ false) where
    abbrev v : World
    v = world o xs

    at_home : call_at v p ≡ Some e
    at_home = found_home o es a c listed Q h v e e_found

    up_p : IsUp o v p.node
    up_p = subst (IsUp o v) (sym (home o es a c listed Q h)) (still_up o w v T.stay a (up o es a c listed Q h))

    living : lives o v p ≡ true
    living = caller_lives o v (λ q i x. round_count o xs q i x) (lock_state o xs).clients p e up_p.1 at_home

    R : Reasons o p v T.tries
    R = (stands o p (λ u g. ReasonsAt o p u g) (λ u num d g S F k i. reasons_next o p u num d g S F k i) (λ y i. cc) xs).kept
        T.tries T.last

    -- it asks by a round
    pub its_round : (round : Round) × (e.phase ≡ LockPhase.Asking round)
    its_round = go e.phase refl
      where
        go : (f : LockPhase) → e.phase ≡ f → (round : Round) × (e.phase ≡ LockPhase.Asking round)
        go (LockPhase.Asking round) i = (round, i)
        go LockPhase.Waiting i = absurd (not_both T.tries.met (subst (MarksIn T.tries.met) i (R.marks p e at_home refl)) unmet)
        go (LockPhase.Deleting owing) i = cc (
          ap is_deleting i,
          ((known o p xs).fits.alone T.tries.last (ap last_of T.last) p e refl at_home (e_number ∙ sym T.number)).1,
        )

    pub same_id : e.id ≡ c.id
    same_id = let S : (s : Try) × ((last_of (tries_of o xs p) ≡ Some s) × IsTryOf s e) =
        (known o p xs).fits.own e at_home (ap is_deleting its_round.1) in
        let one : T.tries.last ≡ S.0 = some_same T.tries.last S.0 (sym (ap last_of T.last) ∙ S.1.0) in
        sym S.1.1.id ∙ sym (ap (λ (s : Try). s.id) one) ∙ T.id

    pub no_bad : (x : ℕ) → is_bad (its_round.0.mark x) ≡ false
    no_bad x = go (is_bad (its_round.0.mark x)) refl
      where
        go : (b : Bool) → is_bad (its_round.0.mark x) ≡ b → b ≡ false
        go false i = refl
        go true i = absurd (not_both T.tries.met (subst (MarksIn T.tries.met) its_round.1 (R.marks p e at_home refl) x i) unmet)

    pub rests : RoundRests o (v.node p.node).replica.told its_round.0
    rests = elim (((whole o xs).rest p.node up_p.0).sides.calls.calls p e at_home) [
      | inl k ↦ subst (PhaseRests o (v.node p.node).replica.told) its_round.1 k
      | inr k ↦ absurd k
    ]

    -- at a node that it asks
    module _ (x : ℕ) (mine : asks w a c x ≡ true) (up_x : IsUp o v x) where
      session : Live (view_of e.id (its_round.0.mark x)) (Mail.asks p (v.links.queue p.node x)) (Mail.echoes p (v.links.queue x p.node))
          (λ i. count i p (v.node x).locks) (λ i. round_count o xs p i x)
      session = subst (λ (y : View). Live y (Mail.asks p (v.links.queue p.node x)) (Mail.echoes p (v.links.queue x p.node))
          (λ i. count i p (v.node x).locks) (λ i. round_count o xs p i x))
          (ap (λ (k : Option LockCall). view k x) at_home ∙ ap (λ (f : LockPhase). view_in e.id f x) its_round.1)
          ((lock_state o xs).clients.sessions p x living up_x)

      undenied : (j : Id) → Mail.echoes p (v.links.queue x p.node) ≡ Echo.Answers j false ∷ [] → ⊥
      undenied j i = not_both T.tries.met (denied p T.tries.met j (v.links.queue x p.node)
          (R.letters gone x (ap (λ (s : Nodes). s x) T.asked ∙ mine)) i) unmet
        where
          L : IsLive o v p
          L = live_parts o v p living

          gone : is_no_more v p ≡ false
          gone = ap (λ (b : Bool). b || is_dead (v.node p.node).watch p.serial) L.up ∙ L.alive

      -- where its request has been taken, p has the lock
      pub has_lock : none_own c (v.links.queue p.node x) ≡ true → is_before (its_round.0.mark x) ≡ false
          → 0 < count e.id p (v.node x).locks
      has_lock none asked = by (its_round.0.mark x) refl
        where
          ups : List Ask
          ups = Mail.asks p (v.links.queue p.node x)

          sum : (m : Mark) → its_round.0.mark x ≡ m → settled e.id (Mail.asks p (v.links.queue p.node x)) (count e.id p (v.node x).locks)
              ≡ round_count o xs p e.id x + Sessions.due e.id (view_of e.id m) (Mail.echoes p (v.links.queue x p.node))
          sum m i = session.sum e.id ∙ ap (λ (n : Mark). round_count o xs p e.id x
              + Sessions.due e.id (view_of e.id n) (Mail.echoes p (v.links.queue x p.node))) i

          at_most : settled e.id (Mail.asks p (v.links.queue p.node x)) (count e.id p (v.node x).locks) ≤ count e.id p (v.node x).locks
          at_most = settled_le e.id (Mail.asks p (v.links.queue p.node x)) (count e.id p (v.node x).locks)

          one : Sessions.one_if (is_id e.id e.id) ≡ 1
          one = ap Sessions.one_if (is_id_self e.id)

          by : (m : Mark) → its_round.0.mark x ≡ m → 0 < count e.id p (v.node x).locks
          by Granted i = omega (arith, sum Granted i, at_most, one)
          by Owes i = elim (owed_parts e.id (Mail.asks p (v.links.queue p.node x)) (Mail.echoes p (v.links.queue x p.node))
              (ap (λ (n : Mark). Sessions.fits (view_of e.id n) (Mail.asks p (v.links.queue p.node x))
              (Mail.echoes p (v.links.queue x p.node)))
              (sym i) ∙ session.fit)) [
                | inl k ↦ absurd (not_both (ends_take e.id (Mail.asks p (v.links.queue p.node x))) k.1
                    (untaken c e.id client (v.links.queue p.node x) none))
                | inr k ↦ answered k.0 k.1 k.3 k.4
              ]
            where
              answered : (j : Id) (g : Bool) → Mail.echoes p (v.links.queue x p.node) ≡ Echo.Answers j g ∷ [] → is_id j e.id ≡ true
                  → 0 < count e.id p (v.node x).locks
              answered j false k n = absurd (undenied j k)
              answered j true k n =
                  let due : Sessions.due e.id (Owed e.id) (Mail.echoes p (v.links.queue x p.node)) ≡ Sessions.one_if (is_id e.id e.id) =
                  ap (Sessions.due e.id (Owed e.id)) k in
                  omega (arith, sum Owes i, at_most, one, due)
          by Out i = cc (ap is_before i, asked)
          by Later i = cc (ap is_before i, asked)
          by Refused i = cc (ap is_bad i, no_bad x)
          by Lost i = cc (ap is_bad i, no_bad x)
          by Gone i = cc (ap is_bad i, no_bad x)

      -- where nothing is on its way it owes no answer
      pub owes_none : v.links.queue p.node x ≡ [] → v.links.queue x p.node ≡ [] → owes its_round.0 x ≡ false
      owes_none there back = by (its_round.0.mark x) refl
        where
          fit : (m : Mark) → its_round.0.mark x ≡ m → Sessions.fits (view_of e.id m) [] [] ≡ true
          fit m i = ap (λ (n : Mark). Sessions.fits (view_of e.id n) [] []) (sym i)
              ∙ ap (λ (ls : List Letter). Sessions.fits (view_of e.id (its_round.0.mark x)) (Mail.asks p ls) []) (sym there)
              ∙ ap (λ (ls : List Letter). Sessions.fits (view_of e.id (its_round.0.mark x)) (Mail.asks p (v.links.queue p.node x))
              (Mail.echoes p ls)) (sym back) ∙ session.fit

          by : (m : Mark) → its_round.0.mark x ≡ m → is_owes m ≡ false
          by Owes i = cc (fit Owes i)
          by Out i = refl
          by Later i = refl
          by Granted i = refl
          by Refused i = refl
          by Lost i = refl
          by Gone i = refl

    -- a round that nobody owes an answer is over
    pub not_idle : ((x : ℕ) → owes its_round.0 x ≡ false) → ⊥
    not_idle idle = over (its_round.0.mark its_round.0.boss) rests.on.boss (idle its_round.0.boss)
        (is_empty_from o.bound (owes its_round.0) (λ x l. idle x)) rests.going
      where
        over : (m : Mark) → is_before m ≡ false → is_owes m ≡ false → is_empty o.bound (owes its_round.0) ≡ true
            → (is_refused m || is_gone m || has_granted m && is_empty o.bound (owes its_round.0)) ≡ false → ⊥
        over Out b n k i = cc b
        over Later b n k i = cc b
        over Owes b n k i = cc n
        over Granted b n k i = cc (k, i)
        over Lost b n k i = cc (k, i)
        over Refused b n k i = cc i
        over Gone b n k i = cc i
