-- A lock call or a retry answers `false` only where there is nobody to ask, and no try `true`.
use Rattle.std.proofs.Common.{ℕ, Bool, true, false, ◌==◌, ◌≡◌, ◌+◌, ◌≤◌, Option, Some, None, [], refl, sym, ap, ◌∙◌, subst, arith}
use Rattle.std.specs.Prelude.{◌&&◌, nat_lt, Contains, is_none, if◌then◌else◌}
use Rattle.std.proofs.lemmas.Bool.{eq-eqb, ltb-true}
use Rattle.registry_model.specs.Process.{Text, Process, is_process, Nodes}
use Rattle.registry_model.specs.Call.{False}
use Rattle.protocol_model.specs.Letter.{Client}
use Rattle.protocol_model.specs.Round.{is_empty}
use Rattle.protocol_model.specs.Node.{LockPhase, LockCall, Target, Retries, targets}
use Rattle.protocol_model.specs.Event.{Call, Event, Answer, Refusal, is_waiting_call}
use Rattle.protocol_model.specs.ClientLocks.{Try, try_of, waits_for_retry}
use Rattle.protocol_model.specs.LockAnswers.{Tries, watched, next_try, first_try, tries_by, Answers, AsksNobody}
use Rattle.protocol_model.specs.World.{Opening, in_world, World, WorldEvent, At, place, refusal, answers, turn_of}
use Rattle.moves.proofs.Indices.{both, empty_at}
use Rattle.moves.proofs.Rules.{Ordered, IsOpen}
use Rattle.moves.proofs.Invariants.{Proper}
use Rattle.walk.proofs.Events.{Accepted, accepted_of}
use Rattle.leftovers.proofs.Calls.{home_of_call}
use Rattle.leftovers.proofs.Clients.{Numbers, call_at}
use Rattle.leftovers.proofs.Near.{target_member}
use Rattle.leftovers.proofs.Ongoing.{is_deleting}
use Rattle.leftovers.proofs.Tries.{IsTryOf, Fits}
use Rattle.lock_answers.proofs.LastTry.{last_of}
use Rattle.lock_answers.proofs.Verdicts.{is_verdict}
use Rattle.lock_answers.proofs.CallSteps.{found_at}
use Rattle.lock_answers.proofs.CallTurns.{AskedNobody, FailedAnew, DeletedNothing}
use Rattle.leftovers.proofs.Beginnings.{new_try, fresh}
use Rattle.lock_answers.proofs.EventTurns.{again_turn, set_turn, del_turn}
use Rattle.lock_answers.proofs.Behind.{Known, is_plain}

-- the answers of an accepted event are those of its turn
pub given_in_turn : (o : Opening) (w : World) (e : WorldEvent) (s : Answer) → refusal o w e ≡ None
    → Contains (answers o w e) s → Contains (turn_of o w e).answers s
given_in_turn o w e s h c = subst (λ (r : Option Refusal). Contains (if is_none r then (turn_of o w e).answers else [])
    s) h c

-- an open call of the number of p's last try is p's, and no deletion
pub record IsOwn (w : World) (p : Process) (c : LockCall) : Type 0 where
  pub holder : c.holder ≡ p
  pub found : call_at w p ≡ Some c
  pub deleting : is_deleting c.phase ≡ false

pub own_call : (w : World) (a : ℕ) (p : Process) (x : Try) → Ordered w → Fits w p (Some x) → (c : LockCall)
    → (now : LockPhase) → IsOpen (w.node a) c now → p.node ≡ a → c.number ≡ x.number → IsOwn w p c
own_call w a p x sorted fit c now e home n =
    let there : call_at w c.holder ≡ Some c = found_at w a sorted c now e in
    let one : (c.holder ≡ p) × (is_deleting c.phase ≡ false) = fit.alone x refl c.holder c
    (home_of_call a c.holder (w.node a).calls c (sorted a) e.call ∙ sym home) there n in
    record {
      holder = one.0;
      found = subst (λ (q : Process). call_at w q ≡ Some c) one.0 there;
      deleting = one.1;
    }

pub some_same : {A : Type 0} (x y : A) → Some x ≡ Some y → x ≡ y
some_same x y e = cc

-- a try that is watched was there before
watched_from : (o : Opening) (w : World) (e : WorldEvent) (p : Process) (t : Option Tries) (x : Tries)
    → watched o w e p t ≡ Some x → (y : Tries) × (t ≡ Some y) × (x.last ≡ y.last)
watched_from o w e p None x h = cc
watched_from o w e p (Some y) x h =
    (y, refl, sym (ap (λ (z : Tries). z.last) (some_same _ x h)))

-- where no node below the bound is asked nobody is, since the members of a running node are nodes of the world
silent : (o : Opening) (w : World) (e : WorldEvent) → Proper o w → refusal o w e ≡ None → (target : Target)
    → is_empty o.bound (targets (w.node (place e)).replica.members target) ≡ true
    → (c : ℕ) → targets (w.node (place e)).replica.members target c ≡ false
silent o w e P h target none c = go (targets members target c) refl
  where
    members : Nodes
    members = (w.node (place e)).replica.members

    A : Accepted o w e
    A = accepted_of o w e h

    go : (b : Bool) → targets members target c ≡ b → targets members target c ≡ false
    go true k =
        let inside : in_world o c ≡ true =
        P.inside (place e) c A.running A.place_inside (target_member members target c k) in
        empty_at o.bound (targets members target) none c
        (ltb-true c o.bound (both (nat_lt c o.bound) (o.nodes c) inside).0)
    go false k = k

module _ (o : Opening) (w : World) (num : Numbers) (p : Process) (t : Option Tries) (S : Known o w num)
    (fit : Fits w p (last_of t)) (x : Tries) (s : Answer) where
  abbrev members : ℕ → Nodes
  members a = (w.node a).replica.members

  -- an answer under a new number isn't to an earlier try
  earlier : (e : WorldEvent) (a : ℕ) → watched o w e p t ≡ Some x → p.node ≡ a
      → x.last.number ≡ (w.node a).last_call + 1 → ⊥
  earlier e a h home n =
      let was : (y : Tries) × (t ≡ Some y) × (x.last ≡ y.last) = watched_from o w e p t x h in
      let below : was.0.last.number ≤ (w.node p.node).last_call = fit.below was.0.last (ap last_of was.1) in
      let less : x.last.number ≤ (w.node a).last_call = subst (λ (y : ℕ). x.last.number ≤ (w.node y).last_call) home
      (subst (λ (y : Try). y.number ≤ (w.node p.node).last_call) (sym was.2) below) in
      absurd (omega (arith, less, n))

  -- a new try
  set_nobody : (a : ℕ) (q : Process) (r z : Text) (target : Target) (retries : Retries)
      → refusal o w (At a (Event.Calling (Call.SetLock q r z target retries))) ≡ None
      → tries_by o w (At a (Event.Calling (Call.SetLock q r z target retries))) p t ≡ Some x
      → Answers o w (At a (Event.Calling (Call.SetLock q r z target retries))) p x.last.number s
      → is_verdict s.reply ≡ true → (s.reply ≡ False) × AsksNobody x.last
  set_nobody a q r z target retries h is A v = (N.reply, by (is_process q p) is)
    where
      event : WorldEvent
      event = At a (Event.Calling (Call.SetLock q r z target retries))

      N : AskedNobody o.bound a (members a) (new_try o w a q r z target retries) s
      N = (set_turn o w S.ordered a q r z target retries h).said s (given_in_turn o w event s h A.given) v

      by : (b : Bool) → (if b then first_try o w event p (try_of (members a) ((w.node a).last_call + 1) (Client r z) target)
          retries else watched o w event p t) ≡ Some x → AsksNobody x.last
      by true e =
          subst (λ (y : Tries). AsksNobody y.last) (some_same _ x e)
          (silent o w event S.family.proper h target N.nobody)
      by false e = absurd (earlier event a e (sym A.node ∙ N.node) (sym A.number ∙ N.number))

  -- a deletion
  del_nobody : (a : ℕ) (q : Process) (r z : Text) (target : Target)
      → refusal o w (At a (Event.Calling (Call.DelLock q r z target))) ≡ None
      → tries_by o w (At a (Event.Calling (Call.DelLock q r z target))) p t ≡ Some x
      → Answers o w (At a (Event.Calling (Call.DelLock q r z target))) p x.last.number s
      → is_verdict s.reply ≡ true → ⊥
  del_nobody a q r z target h is A v = earlier event a is (sym A.node ∙ N.node) (sym A.number ∙ N.number)
    where
      event : WorldEvent
      event = At a (Event.Calling (Call.DelLock q r z target))

      N : DeletedNothing o.bound a (fresh o w a q r z target) s
      N = (del_turn o w S.ordered a q r z target h).said s (given_in_turn o w event s h A.given) v

  -- a retry
  again_nobody : (a : ℕ) → refusal o w (At a Event.Retry) ≡ None → tries_by o w (At a Event.Retry) p t ≡ Some x
      → Answers o w (At a Event.Retry) p x.last.number s → is_verdict s.reply ≡ true
      → (s.reply ≡ False) × AsksNobody x.last
  again_nobody a h is A v = (F.asked.reply, go t refl is)
    where
      event : WorldEvent
      event = At a Event.Retry

      F : FailedAnew o.bound a (w.node a) s
      F = (again_turn o w S.ordered a).said s (given_in_turn o w event s h A.given) v

      home : p.node ≡ a
      home = sym A.node ∙ F.asked.node

      -- the call that failed is of the tries before
      own : (y : Tries) → t ≡ Some y → x.last.number ≡ y.last.number → IsOwn w p F.call
      own y e n = own_call w a p y.last S.ordered (subst (λ (g : Option Tries). Fits w p (last_of g)) e fit) F.call
          LockPhase.Waiting (record { call = F.found; phase = F.waited }) home (sym F.asked.number ∙ A.number ∙ n)

      refused : IsOwn w p F.call → ((a == p.node) && waits_for_retry w p) ≡ true
      refused I = ap (λ (b : Bool). b && waits_for_retry w p) (eq-eqb a p.node (sym home))
          ∙ ap (λ (g : Option LockCall). elim g [ None ↦ false | Some z ↦ is_waiting_call z.phase ]) I.found
          ∙ ap is_waiting_call F.waited

      target_of : (y : Tries) → t ≡ Some y → IsOwn w p F.call → y.last.target ≡ F.call.target
      target_of y e I =
          let known : (u : Try) × ((last_of t ≡ Some u) × IsTryOf u F.call) = fit.own F.call I.found I.deleting in
          let same : Some y.last ≡ Some known.0 = sym (ap last_of e) ∙ known.1.0 in
          let one : y.last ≡ known.0 = cc same in
          ap (λ (u : Try). u.target) one ∙ known.1.1.target

      by : (y : Tries) → t ≡ Some y → (b : Bool) → ((a == p.node) && waits_for_retry w p) ≡ b
          → (if b then next_try o w event p (members a) (Some y) else watched o w event p (Some y)) ≡ Some x
          → AsksNobody x.last
      by y e true i j =
          let I : IsOwn w p F.call = own y e (sym (ap (λ (g : Tries). g.last.number) (some_same _ x j))) in
          subst (λ (g : Tries). AsksNobody g.last) (some_same _ x j)
          (silent o w event S.family.proper h y.last.target
          (ap (λ (g : Target). is_empty o.bound (targets (members a) g)) (target_of y e I) ∙ F.asked.nobody))
      by y e false i j =
          let I : IsOwn w p F.call = own y e (sym (ap (λ (g : Tries). g.last.number) (some_same _ x j))) in
          cc (refused I, i)

      go : (g : Option Tries) → t ≡ g → (if (a == p.node) && waits_for_retry w p then next_try o w event p (members a) g
          else watched o w event p g) ≡ Some x → AsksNobody x.last
      go None e j = none ((a == p.node) && waits_for_retry w p) j
        where
          none : (b : Bool) → (if b then next_try o w event p (members a) None else watched o w event p None) ≡ Some x
              → AsksNobody x.last
          none true k = cc
          none false k = cc
      go (Some y) e j = by y e ((a == p.node) && waits_for_retry w p) refl j

  -- so a lock call or a retry answers `false` to a try that has nobody to ask, and no try `true`
  pub nobody_asked : (e : WorldEvent) → is_plain e ≡ false → refusal o w e ≡ None → tries_by o w e p t ≡ Some x
      → Answers o w e p x.last.number s → is_verdict s.reply ≡ true → (s.reply ≡ False) × AsksNobody x.last
  nobody_asked (At a (Event.Calling (Call.SetLock q r z target retries))) k h is A v =
      set_nobody a q r z target retries h is A v
  nobody_asked (At a (Event.Calling (Call.DelLock q r z target))) k h is A v =
      absurd (del_nobody a q r z target h is A v)
  nobody_asked (At a Event.Retry) k h is A v = again_nobody a h is A v
  nobody_asked e k h is A v = cc
