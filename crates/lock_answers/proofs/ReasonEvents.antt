-- Each accepted event keeps that a bad mark in p's round, or a denial on its way to p, has a reason.
use Rattle.std.proofs.Common.{ℕ, Bool, true, false, ◌==◌, ◌≡◌, ◌+◌, Option, Some, None, List, [], ◌∷◌, refl, sym, ap, ◌∙◌, subst, inl, inr}
use Rattle.std.specs.Prelude.{not, ◌&&◌, ◌||◌, if◌then◌else◌}
use Rattle.std.proofs.lemmas.Bool.{cases_eq, eqb-true}
use Rattle.registry_model.specs.Process.{Text, Process, is_process, Nodes}
use Rattle.protocol_model.specs.Letter.{Letter, Client}
use Rattle.protocol_model.specs.Links.{posted}
use Rattle.protocol_model.specs.Round.{is_empty}
use Rattle.protocol_model.specs.Watch.{Watch, is_live, is_dead}
use Rattle.protocol_model.specs.Node.{LockPhase, LockCall, Target, Retries, call_of, targets}
use Rattle.protocol_model.specs.Event.{Call, Event, is_waiting_call}
use Rattle.protocol_model.specs.Turn.{Turn, sent_to}
use Rattle.protocol_model.specs.Client.{one_less}
use Rattle.protocol_model.specs.ClientLocks.{Try, try_of, waits_for_retry, is_no_more}
use Rattle.protocol_model.specs.LockAnswers.{Tries, watched, next_try, first_try, tries_by, meets}
use Rattle.protocol_model.specs.World.{Opening, in_world, World, left, WorldEvent, At, place, refusal, accepted, turn_of}
use Rattle.moves.proofs.Indices.{both, not_true}
use Rattle.moves.proofs.Invariants.{Each}
use Rattle.moves.proofs.SendTests.{pass_each}
use Rattle.walk.proofs.Events.{Accepted, accepted_of}
use Rattle.walk.proofs.Walk.{OrderedWalk}
use Rattle.leftovers.proofs.Base.{each-posted}
use Rattle.leftovers.proofs.Chains.{up_before}
use Rattle.leftovers.proofs.Clients.{Numbers, call_at, part_same}
use Rattle.leftovers.proofs.Ids.{is_process_same}
use Rattle.leftovers.proofs.Mail.{asks, echoes}
use Rattle.leftovers.proofs.Sessions.{Ask, Echo, View, Idle, view, view_in, fits}
use Rattle.leftovers.proofs.Told.{chain_of}
use Rattle.leftovers.proofs.Tries.{Fits}
use Rattle.leftovers.proofs.Near.{target_member}
use Rattle.registry_model.specs.Process.{nodes_of}
use Rattle.lock_answers.proofs.LastTry.{last_of}
use Rattle.lock_answers.proofs.BadMarks.{begin_good}
use Rattle.lock_answers.proofs.CallSteps.{AllCalls}
use Rattle.lock_answers.proofs.CallTurns.{some_unless, is_no_denial, deny_none, begun_over, anew_in, anew, deleted_over}
use Rattle.lock_answers.proofs.Denials.{Denies, each_calm, each_unheard, each_so}
use Rattle.leftovers.proofs.Beginnings.{new_try, fresh}
use Rattle.lock_answers.proofs.EventTurns.{AgainTurn, again_turn, SetTurn, set_turn, DelTurn, del_turn}
use Rattle.lock_answers.proofs.Behind.{Known, walk_of, is_plain, plain_tries}
use Rattle.lock_answers.proofs.Meeting.{met_left, lives_yet}
use Rattle.lock_answers.proofs.Nobody.{some_same}
use Rattle.lock_answers.proofs.Reasons.{MarksIn, MarksOf, Reasoned}
use Rattle.lock_answers.proofs.ReasonSteps.{Reasons, or_first, or_second, marks_so, so, gone_so, is_last, plain_outcome}

-- so it is of all that p tried
abbrev pub ReasonsAt : Opening → Process → World → Option Tries → Type 0
ReasonsAt o p w t = (x : Tries) → t ≡ Some x → Reasons o p w x

-- a live process of a client
live_client : (a : ℕ) (v : Watch) (q : Process) → is_live a v q ≡ true
    → ((q.serial == 0) ≡ false) × (is_dead v q.serial ≡ false)
live_client a v q h =
    let one : (((q.node == a) && not (q.serial == 0)) ≡ true) × (not (is_dead v q.serial) ≡ true) =
    both ((q.node == a) && not (q.serial == 0)) (not (is_dead v q.serial)) h in
    (not_true (q.serial == 0) (both (q.node == a) (not (q.serial == 0)) one.0).1, not_true (is_dead v q.serial) one.1)

-- p hears nothing where it stands idle
idle_echoes : (v : View) (ups : List Ask) (downs : List Echo) → v ≡ Idle → fits v ups downs ≡ true → downs ≡ []
idle_echoes v ups [] e h = refl
idle_echoes v ups (x ∷ xs) e h = cc (ap (λ (y : View). fits y ups (x ∷ xs)) e, h)

-- all that deny nobody
each_true : (p : Process) (now : Bool) → now ≡ true → (ls : List Letter) → Each (Denies p now) ls
each_true p now h [] = tt
each_true p now h (l ∷ ls) = ((λ d. h), each_true p now h ls)

-- a call that begins a round has no bad mark
begun_marks : (n : ℕ) (members : Nodes) (d c : LockCall) (now : Bool) → begun_over n 0 members d ≡ Some c
    → MarksIn now c.phase
begun_marks n members d c now e = subst (λ (k : LockCall). MarksIn now k.phase)
    (some_unless (is_empty n (targets members d.target)) _ c e)
    (λ x bad. absurd (begin_good n (targets members d.target) x bad))

module _ (o : Opening) (p : Process) (w : World) (num : Numbers) (S : Known o w num) where
  abbrev members : ℕ → Nodes
  members a = (w.node a).replica.members

  -- letters behind a turn that denies nobody
  posted_letters : (a : ℕ) (u : Turn) (now : Bool) (c : ℕ) → deny_none u.sends ≡ true
      → Each (Denies p now) (w.links.queue c p.node)
      → Each (Denies p now) ((posted a (λ y. sent_to y u.sends) w.links).queue c p.node)
  posted_letters a u now c calm h = each-posted (Denies p now) a (λ y. sent_to y u.sends) w.links c p.node h
      (λ i. each_calm p now u.sends calm p.node)

  -- who isn't gone behind an event wasn't before
  up_then : (e : WorldEvent) → refusal o w e ≡ None → is_no_more (accepted o w e) p ≡ false → is_no_more w p ≡ false
  up_then e h up =
      let W : OrderedWalk o w e = walk_of o w num S e h in
      up_before o (place e) (chain_of o w e W.walk.rest) w p
      (subst (λ (v : World). is_no_more v p ≡ false) (sym W.walk.world) up)

  -- a process that asks nobody is denied nothing by a node that runs
  idle_letters : (now : Bool) (c : ℕ) → in_world o p.node ≡ true → (p.serial == 0) ≡ false → is_no_more w p ≡ false
      → in_world o c ≡ true → (left w c ≡ true → now ≡ true) → view (call_at w p) c ≡ Idle
      → Each (Denies p now) (w.links.queue c p.node)
  idle_letters now c inside client up known gone idle = go (left w c) refl
    where
      go : (b : Bool) → left w c ≡ b → Each (Denies p now) (w.links.queue c p.node)
      go true e = each_true p now (gone e) (w.links.queue c p.node)
      go false e = each_unheard p now (w.links.queue c p.node)
          (idle_echoes (view (call_at w p) c) (asks p (w.links.queue p.node c)) (echoes p (w.links.queue c p.node)) idle
          (S.clients.sessions p c (lives_yet o w p inside client up) (known, e)).fit)

  -- where the event leaves the try
  module _ (e : WorldEvent) (h : refusal o w e ≡ None) (t : Option Tries) (R : ReasonsAt o p w t) where
    -- whether something has happened by now
    abbrev now : Tries → Bool
    now y = y.met || meets o w e p y.last

    watched_reasons : ((y : Tries) → t ≡ Some y → Reasons o p w y → AllCalls (MarksOf p (now y)) (accepted o w e))
        → ((y : Tries) → t ≡ Some y → Reasons o p w y → is_no_more w p ≡ false → is_no_more (accepted o w e) p ≡ false
        → (c : ℕ) → y.last.asks c ≡ true → Each (Denies p (now y)) ((accepted o w e).links.queue c p.node))
        → ReasonsAt o p (accepted o w e) (watched o w e p t)
    watched_reasons marks letters x is = go t refl is
      where
        go : (g : Option Tries) → t ≡ g → watched o w e p g ≡ Some x → Reasons o p (accepted o w e) x
        go None i j = cc
        go (Some y) i j = subst (Reasons o p (accepted o w e)) (some_same (record y { met = now y }) x j) (record {
          client = (R y i).client;
          inside = (R y i).inside;
          nodes = (R y i).nodes;
          gone = λ c mine gone. or_second y.met (meets o w e p y.last)
              (met_left o w e p y.last h c mine ((R y i).nodes c mine) gone);
          marks = marks y i (R y i);
          letters = λ up. letters y i (R y i) (up_then e h up) up;
        })

    old_marks : (y : Tries) → Reasons o p w y → (c : LockCall) → call_at w p ≡ Some c → MarksIn (now y) c.phase
    old_marks y K c f = marks_so y.met (now y) (or_first y.met (meets o w e p y.last)) c.phase (K.marks p c f refl)

    old_letters : (y : Tries) → Reasons o p w y → is_no_more w p ≡ false → (c : ℕ) → y.last.asks c ≡ true
        → Each (Denies p (now y)) (w.links.queue c p.node)
    old_letters y K up c mine = each_so p y.met (now y) (or_first y.met (meets o w e p y.last))
        (w.links.queue c p.node) (K.letters up c mine)

  -- a plain event
  plain_reasons : (e : WorldEvent) → refusal o w e ≡ None → is_plain e ≡ true → is_last e ≡ false → (t : Option Tries)
      → Fits w p (last_of t) → ReasonsAt o p w t → ReasonsAt o p (accepted o w e) (watched o w e p t)
  plain_reasons e h k l t fit R = watched_reasons e h t R
      (λ y i K. (end y i K).marks) (λ y i K was up. (end y i K).letters up)
    where
      W : OrderedWalk o w e
      W = walk_of o w num S e h

      fit_of : (y : Tries) → t ≡ Some y → Fits w p (Some y.last)
      fit_of y i = subst (λ (g : Option Tries). Fits w p (last_of g)) i fit

      end : (y : Tries) → (i : t ≡ Some y) → (K : Reasons o p w y) → Reasoned o p y.last
          (so o p w num S y (fit_of y i) K e) w (gone_so o p w num S y (fit_of y i) K e) (accepted o w e)
      end y i K = subst (Reasoned o p y.last (so o p w num S y (fit_of y i) K e) w
          (gone_so o p w num S y (fit_of y i) K e)) W.walk.world
          (plain_outcome o p w num S y (fit_of y i) K e k l W).end

  -- a leave
  leave_reasons : (a : ℕ) → refusal o w (At a Event.Leave) ≡ None → (t : Option Tries) → ReasonsAt o p w t
      → ReasonsAt o p (accepted o w (At a Event.Leave)) (watched o w (At a Event.Leave) p t)
  leave_reasons a h t R = watched_reasons (At a Event.Leave) h t R
      (λ y i K q c f s. old_marks (At a Event.Leave) h t R y K c (same q c f s))
      (λ y i K was up c mine. letters y K was c mine)
    where
      u : Turn
      u = turn_of o w (At a Event.Leave)

      same : (q : Process) (c : LockCall) → call_at (accepted o w (At a Event.Leave)) q ≡ Some c → q ≡ p
          → call_at w p ≡ Some c
      same q c f s = subst (λ (k : Process). call_at w k ≡ Some c) s
          (sym (part_same (λ v. call_of q v.calls) w a u refl q.node) ∙ f)

      letters : (y : Tries) → Reasons o p w y → is_no_more w p ≡ false → (c : ℕ) → y.last.asks c ≡ true
          → Each (Denies p (now (At a Event.Leave) h t R y))
          (if p.node == a then [] else (posted a (λ z. sent_to z u.sends) w.links).queue c p.node)
      letters y K up c mine = go (p.node == a)
        where
          go : (b : Bool) → Each (Denies p (now (At a Event.Leave) h t R y))
              (if b then [] else (posted a (λ z. sent_to z u.sends) w.links).queue c p.node)
          go true = tt
          go false = posted_letters a u (now (At a Event.Leave) h t R y) c
              (pass_each is_no_denial (nodes_of o.bound (λ x. in_world o x && not (x == a))) Letter.Down refl)
              (old_letters (At a Event.Leave) h t R y K up c mine)

  -- a deletion
  del_reasons : (a : ℕ) (q : Process) (r z : Text) (target : Target)
      → refusal o w (At a (Event.Calling (Call.DelLock q r z target))) ≡ None → (t : Option Tries) → ReasonsAt o p w t
      → ReasonsAt o p (accepted o w (At a (Event.Calling (Call.DelLock q r z target))))
      (watched o w (At a (Event.Calling (Call.DelLock q r z target))) p t)
  del_reasons a q r z target h t R = watched_reasons e h t R
      (λ y i K k c f s. by y K c (is_process q p)
      (sym (T.calls p) ∙ subst (λ (j : Process). call_at (accepted o w e) j ≡ Some c) s f))
      (λ y i K was up c mine. posted_letters a (turn_of o w e) (now e h t R y) c T.sends
      (old_letters e h t R y K was c mine))
    where
      e : WorldEvent
      e = At a (Event.Calling (Call.DelLock q r z target))

      T : DelTurn o w S.ordered a q r z target
      T = del_turn o w S.ordered a q r z target h

      by : (y : Tries) → Reasons o p w y → (c : LockCall) (b : Bool)
          → (if b then deleted_over o.bound a (members a) (fresh o w a q r z target) else call_at w p) ≡ Some c
          → MarksIn (now e h t R y) c.phase
      by y K c true i = subst (λ (k : LockCall). MarksIn (now e h t R y) k.phase)
          (some_unless (is_empty o.bound (targets (members a) target)) _ c i) tt
      by y K c false i = old_marks e h t R y K c i

  -- a try
  set_reasons : (a : ℕ) (q : Process) (r z : Text) (target : Target) (retries : Retries)
      → refusal o w (At a (Event.Calling (Call.SetLock q r z target retries))) ≡ None → (t : Option Tries)
      → ReasonsAt o p w t
      → ReasonsAt o p (accepted o w (At a (Event.Calling (Call.SetLock q r z target retries))))
      (tries_by o w (At a (Event.Calling (Call.SetLock q r z target retries))) p t)
  set_reasons a q r z target retries h t R = go (is_process q p) refl
    where
      e : WorldEvent
      e = At a (Event.Calling (Call.SetLock q r z target retries))

      T : SetTurn o w S.ordered a q r z target retries
      T = set_turn o w S.ordered a q r z target retries h

      A : Accepted o w e
      A = accepted_of o w e h

      last : Try
      last = try_of (members a) ((w.node a).last_call + 1) (Client r z) target

      new : LockCall
      new = new_try o w a q r z target retries

      calls : (b : Bool) → is_process q p ≡ b → (k : Process) (c : LockCall) → call_at (accepted o w e) k ≡ Some c
          → k ≡ p → (if b then begun_over o.bound a (members a) new else call_at w p) ≡ Some c
      calls b i k c f s = sym (ap (λ (g : Bool). if g then begun_over o.bound a (members a) new else call_at w p) i)
          ∙ sym (T.calls p) ∙ subst (λ (j : Process). call_at (accepted o w e) j ≡ Some c) s f

      nodes : (c : ℕ) → targets (members a) target c ≡ true → in_world o c ≡ true
      nodes c mine = S.family.proper.inside a c A.running A.place_inside (target_member (members a) target c mine)

      client : ((q.serial == 0) ≡ false) × (is_dead (w.node a).watch q.serial ≡ false)
      client = live_client a (w.node a).watch q T.live

      begins : q ≡ p → is_process q p ≡ true → (x : Tries)
          → first_try o w e p last retries ≡ Some x → Reasons o p (accepted o w e) x
      begins own i x is = subst (Reasons o p (accepted o w e))
          (some_same (record { last = last; retries = retries; tried = 1; met = meets o w e p last }) x is) (record {
            client = subst (λ (k : Process). (k.serial == 0) ≡ false) own client.0;
            inside = ap (in_world o) home ∙ A.place_inside;
            nodes = nodes;
            gone = λ c mine gone. met_left o w e p last h c mine (nodes c mine) gone;
            marks = λ k c f s. begun_marks o.bound (members a) new c (meets o w e p last) (calls true i k c f s);
            letters = λ up c mine. posted_letters a (turn_of o w e) (meets o w e p last) c T.sends
                (idle_letters (meets o w e p last) c (ap (in_world o) home ∙ A.place_inside)
                (subst (λ (k : Process). (k.serial == 0) ≡ false) own client.0) (up_then e h up) (nodes c mine)
                (λ gone. met_left o w e p last h c mine (nodes c mine) gone)
                (ap (λ (k : Option LockCall). view k c) none));
          })
        where
          home : p.node ≡ a
          home = ap (λ (k : Process). k.node) (sym own) ∙ T.home

          none : call_at w p ≡ None
          none = subst (λ (k : Process). call_at w k ≡ None) own
              (ap (λ (y : ℕ). call_of q (w.node y).calls) T.home ∙ T.none)

      go : (b : Bool) → is_process q p ≡ b
          → ReasonsAt o p (accepted o w e) (if b then first_try o w e p last retries else watched o w e p t)
      go true i = begins (is_process_same q p i) i
      go false i = watched_reasons e h t R (λ y j K k c f s. old_marks e h t R y K c (calls false i k c f s))
          (λ y j K was up c mine. posted_letters a (turn_of o w e) (now e h t R y) c T.sends
          (old_letters e h t R y K was c mine))

  -- a retry
  again_reasons : (a : ℕ) → refusal o w (At a Event.Retry) ≡ None → (t : Option Tries) → ReasonsAt o p w t
      → ReasonsAt o p (accepted o w (At a Event.Retry)) (tries_by o w (At a Event.Retry) p t)
  again_reasons a h t R = go ((a == p.node) && waits_for_retry w p) refl
    where
      e : WorldEvent
      e = At a Event.Retry

      T : AgainTurn o w S.ordered a
      T = again_turn o w S.ordered a

      A : Accepted o w e
      A = accepted_of o w e h

      -- the call behind it: one that began anew, or the same, which didn't wait, or is another node's
      marks_in : (so : Bool) → ((d : LockCall) → call_at w p ≡ Some d
          → (p.node ≡ a → is_waiting_call d.phase ≡ false) → MarksIn so d.phase) → (k : Process)
          → (c : LockCall) → call_at (accepted o w e) k ≡ Some c → k ≡ p → MarksIn so c.phase
      marks_in so old k c f s = elim (cases_eq p.node a) [
        | inl home ↦ here (call_at w p) refl (sym (T.calls p home) ∙ found)
        | inr ne ↦ old c (sym (T.away p ne) ∙ found) (λ home. absurd (ne home))
      ]
        where
          found : call_at (accepted o w e) p ≡ Some c
          found = subst (λ (j : Process). call_at (accepted o w e) j ≡ Some c) s f

          -- a call that is the same is in the same phase
          busy : (d : LockCall) → Some d ≡ Some c → is_waiting_call d.phase ≡ false → is_waiting_call c.phase ≡ false
          busy d i q = subst (λ (x : LockCall). is_waiting_call x.phase ≡ false) (some_same d c i) q

          by_phase : (d : LockCall) → call_at w p ≡ Some d → (g : LockPhase) → d.phase ≡ g
              → anew_in o.bound a (members a) g d ≡ Some c → MarksIn so c.phase
          by_phase d j LockPhase.Waiting q i =
              begun_marks o.bound (members a) (record d { retries = one_less d.retries }) c so i
          by_phase d j (LockPhase.Asking r) q i = old c (j ∙ i) (λ home. busy d i (ap is_waiting_call q))
          by_phase d j (LockPhase.Deleting owing) q i = old c (j ∙ i) (λ home. busy d i (ap is_waiting_call q))

          here : (g : Option LockCall) → call_at w p ≡ g → anew o.bound a (members a) g ≡ Some c → MarksIn so c.phase
          here None j i = cc
          here (Some d) j i = by_phase d j d.phase refl i

      next : ((a == p.node) && waits_for_retry w p) ≡ true → ReasonsAt o p (accepted o w e) (next_try o w e p (members a) t)
      next refused x is = by t refl is
        where
          waits : waits_for_retry w p ≡ true
          waits = (both (a == p.node) (waits_for_retry w p) refused).1

          -- the call that waits asks nobody, and has no marks
          idle : (c : ℕ) → view (call_at w p) c ≡ Idle
          idle c = by_call (call_at w p) waits
            where
              by_phase : (d : LockCall) (g : LockPhase) → is_waiting_call g ≡ true → view_in d.id g c ≡ Idle
              by_phase d LockPhase.Waiting i = refl
              by_phase d (LockPhase.Asking r) i = cc
              by_phase d (LockPhase.Deleting owing) i = cc

              by_call : (k : Option LockCall) → (elim k [ None ↦ false | Some d ↦ is_waiting_call d.phase ]) ≡ true
                  → view k c ≡ Idle
              by_call None i = cc
              by_call (Some d) i = by_phase d d.phase i

          home : p.node ≡ a
          home = sym (eqb-true a p.node (both (a == p.node) (waits_for_retry w p) refused).0)

          markless : (so : Bool) (d : LockCall) → call_at w p ≡ Some d
              → (p.node ≡ a → is_waiting_call d.phase ≡ false) → MarksIn so d.phase
          markless so d j busy =
              let phase : waits_for_retry w p ≡ is_waiting_call d.phase =
              ap (λ (k : Option LockCall). elim k [ None ↦ false | Some y ↦ is_waiting_call y.phase ]) j in
              cc (busy home, phase, waits)

          by : (g : Option Tries) → t ≡ g → next_try o w e p (members a) g ≡ Some x → Reasons o p (accepted o w e) x
          by None i j = cc
          by (Some y) i j = subst (Reasons o p (accepted o w e))
              (some_same (record y { last = last; tried = y.tried + 1; met = meets o w e p last }) x j) (record {
                client = (R y i).client;
                inside = (R y i).inside;
                nodes = nodes;
                gone = λ c mine gone. met_left o w e p last h c mine (nodes c mine) gone;
                marks = λ k c f s. marks_in (meets o w e p last) (markless (meets o w e p last)) k c f s;
                letters = λ up c mine. posted_letters a (turn_of o w e) (meets o w e p last) c T.sends
                    (idle_letters (meets o w e p last) c (R y i).inside (R y i).client (up_then e h up) (nodes c mine)
                    (λ gone. met_left o w e p last h c mine (nodes c mine) gone) (idle c));
              })
            where
              last : Try
              last = try_of (members a) y.last.number y.last.id y.last.target

              nodes : (c : ℕ) → targets (members a) y.last.target c ≡ true → in_world o c ≡ true
              nodes c mine = S.family.proper.inside a c A.running A.place_inside
                  (target_member (members a) y.last.target c mine)

      go : (b : Bool) → ((a == p.node) && waits_for_retry w p) ≡ b
          → ReasonsAt o p (accepted o w e) (if b then next_try o w e p (members a) t else watched o w e p t)
      go true i = next i
      go false i = watched_reasons e h t R
          (λ y j K k c f s. marks_in (now e h t R y) (λ d g b. old_marks e h t R y K d g) k c f s)
          (λ y j K was up c mine. posted_letters a (turn_of o w e) (now e h t R y) c T.sends
          (old_letters e h t R y K was c mine))

module _ (o : Opening) (p : Process) where
  -- a plain event that isn't a leave
  others : (w : World) (num : Numbers) (e : WorldEvent) (t : Option Tries) → Known o w num → Fits w p (last_of t)
      → ReasonsAt o p w t → refusal o w e ≡ None → is_plain e ≡ true → is_last e ≡ false
      → ReasonsAt o p (accepted o w e) (tries_by o w e p t)
  others w num e t S fit R h k l = subst (ReasonsAt o p (accepted o w e)) (sym (plain_tries o w p t e k))
      (plain_reasons o p w num S e h k l t fit R)

  -- each accepted event
  pub reasons_next : (w : World) (num : Numbers) (e : WorldEvent) (t : Option Tries) → Known o w num
      → Fits w p (last_of t) → ReasonsAt o p w t → refusal o w e ≡ None
      → ReasonsAt o p (accepted o w e) (tries_by o w e p t)
  reasons_next w num (At a (Event.Calling (Call.SetLock q r z target retries))) t S fit R h =
      set_reasons o p w num S a q r z target retries h t R
  reasons_next w num (At a (Event.Calling (Call.DelLock q r z target))) t S fit R h =
      del_reasons o p w num S a q r z target h t R
  reasons_next w num (At a Event.Retry) t S fit R h = again_reasons o p w num S a h t R
  reasons_next w num (At a Event.Leave) t S fit R h = leave_reasons o p w num S a h t R
  reasons_next w num e t S fit R h = others w num e t S fit R h refl refl
