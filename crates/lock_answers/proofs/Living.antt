-- No lock call of a process is answered that is dead, or whose node has left, before the step or behind it.
use mathlib.Core.Logic.{◌⊎◌}
use Rattle.std.proofs.Common.{ℕ, Bool, true, false, ◌==◌, ◌≡◌, ◌+◌, ◌-◌, Some, None, List, [], ◌∷◌, ◌++◌, length, refl, sym, ap, ◌∙◌, subst, inl, inr}
use Rattle.std.specs.Prelude.{not, ◌&&◌, ◌||◌, Contains}
use Rattle.std.specs.List.{slice_get, list_any, list_all}
use Rattle.std.proofs.lemmas.Bool.{eq-eqb, eqb-true}
use Rattle.std.proofs.lemmas.List.Elements.{Contains-append_cases}
use Rattle.registry_model.specs.Process.{Process}
use Rattle.registry_model.specs.Call.{Reply, True, False}
use Rattle.registry_model.proofs.Lists.{Contains-nil}
use Rattle.registry_model.proofs.Updates.{at_same}
use Rattle.protocol_model.specs.Watch.{Watch, is_dead, is_live}
use Rattle.protocol_model.specs.Node.{Node, LockCall, Times}
use Rattle.protocol_model.specs.Event.{Call, Event, Answer, Refusal, cause, first_cause, names_members, calls_spent}
use Rattle.protocol_model.specs.Turn.{Turn, begun, count_call}
use Rattle.protocol_model.specs.Registrar.{retry_global}
use Rattle.protocol_model.specs.Client.{new_call, try_lock, delete_lock, retry_locks}
use Rattle.protocol_model.specs.Answers.{answer_to, may_have, holder_in, calls_at, answers_under, AtMostOne, NotYet, Once}
use Rattle.protocol_model.specs.ClientLocks.{is_no_more}
use Rattle.protocol_model.specs.Course.{Played, played, answers_of}
use Rattle.protocol_model.specs.Fit.{is_numbered}
use Rattle.protocol_model.specs.LockAnswers.{IsCallOf, AnswersTheLiving, AtEachStep}
use Rattle.protocol_model.specs.Refusals.{HasOpenCall}
use Rattle.protocol_model.specs.World.{Opening, World, left, WorldEvent, At, Deliver, place, refusal, turn_of, accepted, happens, answers, local_causes}
use Rattle.protocol_model.proofs.Waiting.{accepted-node}
use Rattle.moves.proofs.Rules
use Rattle.moves.proofs.Rules.{Rule}
use Rattle.moves.proofs.Rules.Rule.{CallsLock}
use Rattle.moves.proofs.Indices.{both, not_true}
use Rattle.walk.proofs.ChainKinds.{Aside, suits}
use Rattle.walk.proofs.Events.{accepted_of, IsSecond, lock_tested, live_own}
use Rattle.walk.proofs.Walk.{OrderedWalk, InOrder, walked_in_order}
use Rattle.leftovers.proofs.FittingTheorem as Theorem
use Rattle.leftovers.proofs.Clients.{IsLive, live_parts, call_at, caller_lives}
use Rattle.leftovers.proofs.Told.{chain_of}
use Rattle.leftovers.specs.Clauses.{events, world}
use Rattle.leftovers.proofs.Answered.{calls_answered}
use Rattle.leftovers.proofs.Found.{kept_in, in_flat}
use Rattle.leftovers.proofs.LockEvents.{letter_hears}
use Rattle.leftovers.proofs.Story.{ground}
use Rattle.leftovers.proofs.Together
use Rattle.leftovers.proofs.Together.{whole_opens, run_whole}
use Rattle.leftovers.proofs.Doomed.{start-watch}
use Rattle.leftovers.proofs.Grounds.{Base, wide, base_keeps, replicas}
use Rattle.leftovers.proofs.Callers.{IsCalledBy, called_longer, last_called}
use Rattle.leftovers.proofs.Unanswered.{open_waits}
use Rattle.lock_answers.proofs.Winning.{Ground}
use Rattle.protocol_model.proofs.Finding.{found_any}
use Rattle.lock_answers.proofs.GrantEvents.{ground_run}
use Rattle.lock_answers.proofs.Pushed.{events_push, answers_turn, happens_now, answer_place}
use Rattle.lock_answers.proofs.Spared.{is_lock_answer, letter_watch}
use Rattle.lock_answers.proofs.Verdicts.{is_verdict}
use Rattle.lock_answers.proofs.Watches.{try-watch, delete-watch, retry-watch, again-watch}
use Rattle.lock_answers.proofs.Sources.{Closed, closed_call, the_one, rule_closes, aside_silent, WasOpen, heard_source, again_source}

-- a lock call may have lock replies alone
lock_reply : (call : Call) (reply : Reply) (p : Process) → holder_in call ≡ Some p → may_have call reply ≡ true
    → is_verdict reply ≡ true
lock_reply (Call.SetLock q r z target times) True p h m = refl
lock_reply (Call.SetLock q r z target times) False p h m = refl
lock_reply (Call.SetLock q r z target times) _ p h m = cc
lock_reply (Call.DelLock q r z target) True p h m = refl
lock_reply (Call.DelLock q r z target) _ p h m = cc
lock_reply Call.Spawn reply p h m = cc
lock_reply (Call.LookUp look) reply p h m = cc
lock_reply (Call.OnName c) reply p h m = cc
lock_reply (Call.JoinBy j) reply p h m = cc

module _ (o : Opening) (es : List WorldEvent) (s : Answer) (call : Call) (p : Process) (e : WorldEvent)
    (is : refusal o (world o es) e ≡ None) (given : Contains (answers o (world o es) e) s)
    (called : IsCallOf o (es ++ e ∷ []) s.node s.number call) (holder : holder_in call ≡ Some p) where
  -- the answer is one to a lock call
  lock : is_lock_answer s ≡ true
  lock = go (answers_under s.node s.number (events o (es ++ e ∷ [])))
      ((calls_answered o (es ++ e ∷ [])).once s.node s.number called.0)
      (kept_in (λ x. (x.node == s.node) && (x.number == s.number)) (answers_of (events o (es ++ e ∷ []))) s
      (subst (λ (ps : List Played). Contains (answers_of ps) s) (sym (events_push o es e is))
      (in_flat (λ x. x.answers) (events o es) [] (played o (world o es) e) s given))
      (rw (eq-eqb s.node s.node refl, eq-eqb s.number s.number refl) refl))
    where
      go : (xs : List Answer) → AtMostOne (calls_at s.node (events o (es ++ e ∷ []))) s.node s.number xs
          → Contains xs s → is_lock_answer s ≡ true
      go xs NotYet k = absurd (Contains-nil s k)
      go xs (Once c reply found may) k =
          let same : c ≡ call = cc (sym found ∙ called.1) in
          ap is_lock_answer (sym (the_one (answer_to s.node s.number reply) s k))
          ∙ lock_reply call reply p holder (subst (λ (x : Call). may_have x reply ≡ true) same may)

  here : s.node ≡ place e
  here = answer_place o es e is s given

  -- the call of this number is made for p alone
  made_for : (q : Process) (k : ℕ) → q.node ≡ place e → k ≡ s.number
      → IsCalledBy (calls_at q.node (events o es ++ played o (world o es) e ∷ [])) k q → q ≡ p
  made_for q k home number I = cc (sym (ap holder_in same) ∙ I.2, holder)
    where
      there : slice_get (calls_at s.node (events o (es ++ e ∷ []))) (s.number - 1) ≡ Some I.0
      there = ap (λ (ps : List Played). slice_get (calls_at s.node ps) (s.number - 1)) (events_push o es e is)
          ∙ ap (λ (n : ℕ). slice_get (calls_at n (events o es ++ played o (world o es) e ∷ [])) (s.number - 1))
          (here ∙ sym home)
          ∙ ap (λ (n : ℕ). slice_get (calls_at q.node (events o es ++ played o (world o es) e ∷ [])) (n - 1))
          (sym number)
          ∙ I.1

      same : I.0 ≡ call
      same = cc (there, called.1)

  G : Ground o (world o es)
  G = ground_run o es

  running : left (world o es) (place e) ≡ false
  running = (accepted_of o (world o es) e is).running

  -- an open call is of a process that lives
  open_lives : WasOpen o (place e) s lock called.0 (world o es) → (p.node ≡ place e) × (is_no_more (world o es) p ≡ false)
  open_lives W = (sym (ap (λ (q : Process). q.node) same) ∙ W.3, rw (up, parts.alive) refl)
    where
      same : W.0 ≡ p
      same =
          let C : (C : HasOpenCall (events o es) W.0.node W.0) × (C.number ≡ W.1.number) =
          open_waits o es W.0.node W.0 W.1 W.2 in
          made_for W.0 C.0.number W.3 (C.1 ∙ W.4) (called_longer W.0.node (events o es) (played o (world o es) e)
          C.0.number W.0 (C.0.call, C.0.accepted, C.0.holder))

      up : left (world o es) p.node ≡ false
      up = ap (left (world o es)) (sym (ap (λ (q : Process). q.node) same) ∙ W.3) ∙ running

      parts : IsLive o (world o es) p
      parts = live_parts o (world o es) p (caller_lives o (world o es) G.base.num G.base.clients p W.1 up
          (subst (λ (q : Process). call_at (world o es) q ≡ Some W.1) same W.2))

  -- and lives behind the step, where nobody dies by it
  still : p.node ≡ place e → is_no_more (world o es) p ≡ false → left (accepted o (world o es) e) ≡ left (world o es)
      → (turn_of o (world o es) e).node.watch ≡ ((world o es).node (place e)).watch
      → is_no_more (accepted o (world o es) e) p ≡ false
  still home alive stays watch = ap (λ (f : ℕ → Bool). f p.node
      || is_dead ((accepted o (world o es) e).node p.node).watch p.serial) stays
      ∙ ap (λ (x : Watch). left (world o es) p.node || is_dead x p.serial) same ∙ alive
    where
      same : ((accepted o (world o es) e).node p.node).watch ≡ ((world o es).node p.node).watch
      same = ap (λ (n : ℕ). ((accepted o (world o es) e).node n).watch) home
          ∙ ap (λ (f : ℕ → Node). (f (place e)).watch) (accepted-node o (world o es) e)
          ∙ ap (λ (v : Node). v.watch) (at_same (world o es).node (place e) (turn_of o (world o es) e).node)
          ∙ watch ∙ ap (λ (n : ℕ). ((world o es).node n).watch) (sym home)

  abbrev H : OrderedWalk o (world o es) e
  H = walked_in_order o (world o es) e G.base.ordered (wide o (world o es) G.base) is

  -- what is shown
  abbrev Lives : Type 0
  Lives = (is_no_more (world o es) p ≡ false) × (is_no_more (accepted o (world o es) e) p ≡ false)

  count : (a : ℕ) → ((world o es).node a).last_call ≡ length (calls_at a (events o es))
  count = (Theorem.kept_run o (Together.Whole o) (ground o) (whole_opens o) es).book.count

  in_turn : Contains (Rules.answers_by o (place e) (chain_of o (world o es) e H.walk.rest) (world o es)) s
  in_turn = subst (λ (ss : List Answer). Contains ss s) (answers_turn o es e is ∙ sym H.walk.answers) given

  -- a new call is answered at once
  module _ (a : ℕ) (c : Call) (q : Process) (event : e ≡ At a (Event.Calling c)) (of : holder_in c ≡ Some q)
      (numbered : is_numbered c ≡ true) (live : is_live a ((world o es).node a).watch q ≡ true) where
    new_lives : s.number ≡ ((world o es).node a).last_call + 1
        → left (accepted o (world o es) e) ≡ left (world o es)
        → (turn_of o (world o es) e).node.watch ≡ ((world o es).node (place e)).watch → Lives
    new_lives number stays watch = (alive, still at_home alive stays watch)
      where
        at_place : place e ≡ a
        at_place = ap place event

        home : q.node ≡ a
        home = eqb-true q.node a (live_own a ((world o es).node a).watch q live).0

        same : q ≡ p
        same = made_for q (((world o es).node a).last_call + 1) (home ∙ sym at_place) (sym number)
            (subst (λ (n : ℕ). IsCalledBy (calls_at n (events o es ++ played o (world o es) e ∷ []))
            (((world o es).node a).last_call + 1) q) (sym home)
            (subst (λ (x : WorldEvent). IsCalledBy (calls_at a (events o es ++ played o (world o es) x ∷ []))
            (((world o es).node a).last_call + 1) q) (sym event)
            (c, last_called o (world o es) (events o es) a c numbered (count a), of)))

        at_home : p.node ≡ place e
        at_home = sym (ap (λ (x : Process). x.node) same) ∙ home ∙ sym at_place

        dead : is_dead ((world o es).node a).watch q.serial ≡ false
        dead = not_true (is_dead ((world o es).node a).watch q.serial)
            (both ((q.node == a) && not (q.serial == 0)) (not (is_dead ((world o es).node a).watch q.serial)) live).1

        alive : is_no_more (world o es) p ≡ false
        alive = subst (λ (x : Process). is_no_more (world o es) x ≡ false) same
            (rw (ap (left (world o es)) (home ∙ sym at_place) ∙ running) (ap (λ (n : ℕ). is_dead
            ((world o es).node n).watch q.serial) home ∙ dead))

  -- a lock call's second rule gives the answer
  module _ (a : ℕ) (r : Rule) (later : List Rule) (m : Rules.MayAll o a (CallsLock ∷ r ∷ later) (world o es))
      (h : list_all (suits Aside) later ≡ true) where
    second_closes : Contains (Rules.answers_by o a (CallsLock ∷ r ∷ later) (world o es)) s → Closed r s
    second_closes k = elim (Contains-append_cases (Rules.turn_by o a before r).answers
        (Rules.answers_by o a later (Rules.effect o a r before)) s k) [
          | inl i ↦ rule_closes o a before (replicas o before B) s lock called.0 r m.1.0 i
          | inr i ↦ absurd (aside_silent o a s lock called.0 later (Rules.effect o a r before) h m.1.1
              (base_keeps o a before r B m.1.0) i)
        ]
      where
        before : World
        before = Rules.effect o a CallsLock (world o es)

        B : Base o (Rules.effect o a CallsLock (world o es))
        B = base_keeps o a (world o es) CallsLock G.base m.0

  -- so the answer is under the new number
  new_number : (a : ℕ) (c : Call) (new : LockCall) → new.number ≡ ((world o es).node a).last_call + 1
      → ((x : Rule) → IsSecond o a (world o es) c x → (closed_call x ≡ None) ⊎ (closed_call x ≡ Some new)) → (x : Rule)
      → (later rest : List Rule) → rest ≡ x ∷ later → IsSecond o a (world o es) c x
      → list_all (suits Aside) later ≡ true → Rules.MayAll o a (CallsLock ∷ rest) (world o es)
      → Contains (Rules.answers_by o a (CallsLock ∷ rest) (world o es)) s
      → s.number ≡ ((world o es).node a).last_call + 1
  new_number a c new number which x later rest is second h m k = by (which x second)
      (second_closes a x later (subst (λ (rs : List Rule). Rules.MayAll o a (CallsLock ∷ rs) (world o es)) is m) h
      (subst (λ (rs : List Rule). Contains (Rules.answers_by o a (CallsLock ∷ rs) (world o es)) s) is k))
    where
      by : (closed_call x ≡ None) ⊎ (closed_call x ≡ Some new) → Closed x s → s.number ≡ ((world o es).node a).last_call + 1
      by (inl i) C = cc (i, C.1)
      by (inr i) C =
          let is_new : new ≡ C.0 = cc (i, C.1) in
          sym C.2 ∙ sym (ap (λ (y : LockCall). y.number) is_new) ∙ number

  by_event : (x : WorldEvent) → e ≡ x → Rules.MayAll o (place x) (chain_of o (world o es) x H.walk.rest) (world o es)
      → InOrder o (world o es) x H.walk.rest → first_cause (local_causes (world o es) x) ≡ None
      → Contains (Rules.answers_by o (place x) (chain_of o (world o es) x H.walk.rest) (world o es)) s → Lives
  by_event (At a (Event.Calling Call.Spawn)) j m h free k = absurd (aside_silent o a s lock called.0
      (chain_of o (world o es) (At a (Event.Calling Call.Spawn)) H.walk.rest) (world o es) h m G.base k)
  by_event (At a (Event.Calling (Call.LookUp look))) j m h free k = absurd (aside_silent o a s lock called.0
      (chain_of o (world o es) (At a (Event.Calling (Call.LookUp look))) H.walk.rest) (world o es) h m G.base k)
  by_event (At a (Event.Calling (Call.OnName c))) j m h free k = absurd (aside_silent o a s lock called.0
      (chain_of o (world o es) (At a (Event.Calling (Call.OnName c))) H.walk.rest) (world o es) h m G.base k)
  by_event (At a (Event.Calling (Call.JoinBy d))) j m h free k = absurd (aside_silent o a s lock called.0
      (chain_of o (world o es) (At a (Event.Calling (Call.JoinBy d))) H.walk.rest) (world o es) h m G.base k)
  by_event (At a (Event.Exiting q)) j m h free k = absurd (aside_silent o a s lock called.0
      (chain_of o (world o es) (At a (Event.Exiting q)) H.walk.rest) (world o es) h m G.base k)
  by_event (At a Event.Leave) j m h free k = absurd (aside_silent o a s lock called.0
      (chain_of o (world o es) (At a Event.Leave) H.walk.rest) (world o es) h m G.base k)
  by_event (At a (Event.Calling (Call.SetLock q r z target times))) j m h free k = new_lives a
      (Call.SetLock q r z target times) q j refl refl live number (stays j) (watch j)
    where
      new : LockCall
      new = new_call o.bound a (((world o es).node a).last_call + 1) q r z target times

      live : is_live a ((world o es).node a).watch q ≡ true
      live = (lock_tested a ((world o es).node a) q r
          (cause (not (names_members ((world o es).node a) target)) Refusal.UnknownNode
          ∷ calls_spent ((world o es).node a) ∷ []) free).0

      number : s.number ≡ ((world o es).node a).last_call + 1
      number = new_number a (Call.SetLock q r z target times) new refl (λ x i. elim i [
        | inl none ↦ inl (ap closed_call none)
        | inr one ↦ inr (ap closed_call one)
      ]) h.0 h.1.0 H.walk.rest h.1.1.0 h.1.1.1 h.1.1.2 m k

      stays : e ≡ At a (Event.Calling (Call.SetLock q r z target times))
          → left (accepted o (world o es) e) ≡ left (world o es)
      stays i = ap (λ (x : WorldEvent). left (accepted o (world o es) x)) i

      watch : e ≡ At a (Event.Calling (Call.SetLock q r z target times))
          → (turn_of o (world o es) e).node.watch ≡ ((world o es).node (place e)).watch
      watch i = subst (λ (x : WorldEvent). (turn_of o (world o es) x).node.watch ≡ ((world o es).node (place x)).watch)
          (sym i) (start-watch o.bound a (try_lock o.bound a new (count_call (begun ((world o es).node a))))
          ∙ try-watch o.bound a new (count_call (begun ((world o es).node a))))
  by_event (At a (Event.Calling (Call.DelLock q r z target))) j m h free k = new_lives a
      (Call.DelLock q r z target) q j refl refl live number (stays j) (watch j)
    where
      new : LockCall
      new = new_call o.bound a (((world o es).node a).last_call + 1) q r z target (Times 0)

      live : is_live a ((world o es).node a).watch q ≡ true
      live = (lock_tested a ((world o es).node a) q r (calls_spent ((world o es).node a) ∷ []) free).0

      number : s.number ≡ ((world o es).node a).last_call + 1
      number = new_number a (Call.DelLock q r z target) new refl (λ x i. elim i [
        | inl none ↦ inl (ap closed_call none)
        | inr one ↦ inr (ap closed_call one)
      ]) h.0 h.1.0 H.walk.rest h.1.1.0 h.1.1.1 h.1.1.2 m k

      stays : e ≡ At a (Event.Calling (Call.DelLock q r z target))
          → left (accepted o (world o es) e) ≡ left (world o es)
      stays i = ap (λ (x : WorldEvent). left (accepted o (world o es) x)) i

      watch : e ≡ At a (Event.Calling (Call.DelLock q r z target))
          → (turn_of o (world o es) e).node.watch ≡ ((world o es).node (place e)).watch
      watch i = subst (λ (x : WorldEvent). (turn_of o (world o es) x).node.watch ≡ ((world o es).node (place x)).watch)
          (sym i) (start-watch o.bound a (delete_lock o.bound a new (count_call (begun ((world o es).node a))))
          ∙ delete-watch o.bound a new (count_call (begun ((world o es).node a))))
  by_event (At a Event.Retry) j m h free k =
      let one : (p.node ≡ place e) × (is_no_more (world o es) p ≡ false) = open_lives
      (subst (λ (n : ℕ). WasOpen o n s lock called.0 (world o es)) (sym (ap place j))
      (again_source o a s lock called.0 (world o es) H.walk.rest (world o es) h m G.base k)) in
      (one.1, still one.0 one.1 (ap (λ (x : WorldEvent). left (accepted o (world o es) x)) j) watch)
    where
      again : Turn
      again = retry_global o.bound a ((world o es).node a).current (begun ((world o es).node a))

      watch : (turn_of o (world o es) e).node.watch ≡ ((world o es).node (place e)).watch
      watch = subst (λ (x : WorldEvent). (turn_of o (world o es) x).node.watch ≡ ((world o es).node (place x)).watch)
          (sym j) (start-watch o.bound a (retry_locks o.bound a again)
          ∙ retry-watch o.bound a again.node.calls again
          ∙ again-watch o.bound a ((world o es).node a).current (begun ((world o es).node a)))
  by_event (Deliver f t) j m h free k =
      let one : (p.node ≡ place e) × (is_no_more (world o es) p ≡ false) = open_lives
      (subst (λ (n : ℕ). WasOpen o n s lock called.0 (world o es)) (sym (ap place j))
      (heard_source o t s lock called.0 (chain_of o (world o es) (Deliver f t) H.walk.rest) (world o es)
      (letter_hears o (world o es) (events o es) (run_whole o es) f t ((world o es).links.queue f t) H.walk.rest h) m
      G.base G.replying k)) in
      (one.1, still one.0 one.1 (ap (λ (x : WorldEvent). left (accepted o (world o es) x)) j) watch)
    where
      some : list_any is_lock_answer (turn_of o (world o es) (Deliver f t)).answers ≡ true
      some = found_any is_lock_answer (turn_of o (world o es) (Deliver f t)).answers s
          (subst (λ (x : WorldEvent). Contains (turn_of o (world o es) x).answers s) j
          (subst (λ (ss : List Answer). Contains ss s) (answers_turn o es e is) given)) lock

      watch : (turn_of o (world o es) e).node.watch ≡ ((world o es).node (place e)).watch
      watch = subst (λ (x : WorldEvent). (turn_of o (world o es) x).node.watch ≡ ((world o es).node (place x)).watch)
          (sym j) (letter_watch o (world o es) f t some)

  pub lives_on : (is_no_more (world o es) p ≡ false) × (is_no_more (happens o (world o es) e) p ≡ false)
  lives_on = subst (λ (v : World). (is_no_more (world o es) p ≡ false) × (is_no_more v p ≡ false))
      (sym (happens_now o es e is))
      (by_event e refl H.walk.may H.in_order (accepted_of o (world o es) e is).local in_turn)

pub answers_the_living : AtEachStep AnswersTheLiving
answers_the_living o es e is s call p given called holder = lives_on o es s call p e is given called holder
