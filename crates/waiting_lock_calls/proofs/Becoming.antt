-- What a call that waits becomes where its node is retried: along the deliveries behind that it stands open until it is answered, or
-- its process dies.
-- xs: the events from the opening on.
use mathlib.Core.Logic.{◌⊎◌}
use Rattle.std.proofs.Common.{ℕ, true, false, ◌==◌, ◌≡◌, ◌<◌, ◌-◌, Option, Some, None, List, [], ◌∷◌, ◌++◌, refl, sym, ap, subst, ◌∙◌, inl, inr}
use Rattle.std.specs.Prelude.{◌&&◌, Contains, is_none, if◌then◌else◌}
use Rattle.std.specs.List.{slice_get}
use Rattle.std.proofs.lemmas.Bool.{eq-eqb, and_from}
use Rattle.std.proofs.lemmas.Grind.{flat_map-append}
use Rattle.std.proofs.lemmas.List.{append-nil}
use Rattle.std.proofs.lemmas.List.Elements.{Contains-append_left, Contains-append_cases}
use Rattle.registry_model.specs.Process.{Process, Nodes}
use Rattle.registry_model.specs.Call.{Reply, True, False}
use Rattle.registry_model.proofs.Lists.{Contains-cases, Contains-nil}
use Rattle.protocol_model.specs.Watch.{is_dead}
use Rattle.protocol_model.specs.Node.{LockCall, call_of}
use Rattle.protocol_model.specs.Event.{Call, Event, Answer, Refusal}
use Rattle.protocol_model.specs.LockAnswers.{Answers}
use Rattle.protocol_model.specs.World.{Opening, World, WorldEvent, At, opening_world, refusal, accepted, answers}
use Rattle.protocol_model.specs.Course.{Played, played, answers_of}
use Rattle.protocol_model.specs.Fit.{is_delivery}
use Rattle.protocol_model.specs.Answers.{answer_to, may_have, calls_at, answers_under, AtMostOne, NotYet, Once}
use Rattle.protocol_model.specs.Refusals.{HasOpenCall}
use Rattle.getting_through.proofs.Unanswered.{kept_in}
use Rattle.getting_through.specs.Clauses.{events, world}
use Rattle.getting_through.proofs.Answered.{calls_answered}
use Rattle.getting_through.proofs.Exiting.{dead_event}
use Rattle.getting_through.proofs.OpenCalls.{Stands, Gone, Answered, Waits}
use Rattle.getting_through.proofs.OpenEvents.{all_stand}
use Rattle.getting_through.proofs.Tied.{course-push, run-push}
use Rattle.getting_through.proofs.HeadlineUnanswered.{open_waits}
use Rattle.getting_through.proofs.Grounds.{lock_state}
use Rattle.getting_through.proofs.RoundNumbers.{round_count}
use Rattle.getting_through.proofs.Behind.{walk_of}
use Rattle.getting_through.proofs.FailsReasoned.{fails_for_a_reason}
use Rattle.getting_through.proofs.LastCalls.{IsSet, is_set}
use Rattle.getting_through.proofs.Pushed.{events_push, happens_now}
use Rattle.getting_through.proofs.RetriesUsed.{uses_all_retries}
use Rattle.getting_through.proofs.Spending.{AreLeft}
use Rattle.waiting_lock_calls.specs.Retried.{asks, IsItsLast, AsksNobody as NobodyIsAsked, HasNoneLeft}
use Rattle.waiting_lock_calls.proofs.Tried.{AreTries, next_tries, found, home, more, last_left}
use Rattle.getting_through.specs.Worlds.{of_nodes, IsQuiet}

module _ (o : Opening) (es : List WorldEvent) (a : ℕ) (c : LockCall) (listed : Contains ((world o es).node a).calls c)
    (Q : IsQuiet (of_nodes o) (world o es)) (h : refusal o (world o es) (At a Event.Retry) ≡ None) where
  abbrev p : Process
  p = c.holder

  abbrev Tried : List WorldEvent → Type 0
  Tried xs = AreTries o es a c listed Q h xs

  -- this reply to the call is among all answers
  abbrev pub Has : List WorldEvent → Reply → Type 0
  Has xs reply = Contains (answers_of (events o xs)) (answer_to a c.number reply)

  -- Sure: what keeps the call from failing; Clear: what is kept then, as long as it is open
  module _ (Sure : Type 0) (Clear : List WorldEvent → Type 0) where
    -- how the call stands
    pub data Stage (xs : List WorldEvent) : Type 0 where
      Died : is_dead ((world o xs).node a).watch p.serial ≡ true → Stage xs
      Succeeded : Has xs True → Stage xs
      GaveUp : Has xs False → IsItsLast (world o es) a c → (Sure → ⊥) → Stage xs
      Open : (d : LockCall) → call_of p ((world o xs).node a).calls ≡ Some d → d.number ≡ c.number → (Sure → Clear xs) → Stage xs

    -- an event that is accepted while the call is open
    module _ (xs : List WorldEvent) (d : WorldEvent) (is : refusal o (world o xs) d ≡ None) (T : Tried (xs ++ d ∷ []))
        (b : LockCall) (b_found : call_of p ((world o xs).node a).calls ≡ Some b) (b_number : b.number ≡ c.number)
        (unmet : Sure → T.tries.met ≡ false) (somebody : Sure → (x : ℕ) × (asks (world o es) a c x ≡ true))
        (clear : Sure → (e : LockCall) → call_of p ((world o (xs ++ d ∷ [])).node a).calls ≡ Some e → e.number ≡ c.number
        → Clear (xs ++ d ∷ [])) where
      abbrev ys : List WorldEvent
      ys = xs ++ d ∷ []

      set : IsSet (calls_at p.node (events o ys)) p T.tries
      set = is_set o p ys T.tries T.last

      pub positive : 0 < c.number
      positive = subst (λ (k : ℕ). 0 < k) T.number set.positive

      abbrev its_call : Call
      its_call = Call.SetLock p set.resource set.requester T.tries.last.target T.tries.retries

      accepted_call : slice_get (calls_at a (events o ys)) (c.number - 1)
          ≡ Some (Call.SetLock p set.resource set.requester T.tries.last.target T.tries.retries)
      accepted_call = ap (λ (n : ℕ). slice_get (calls_at n (events o ys)) (c.number - 1)) (sym (home o es a c listed Q h))
          ∙ ap (λ (k : ℕ). slice_get (calls_at p.node (events o ys)) (k - 1)) (sym T.number) ∙ set.call

      -- an answer to the call is of this step
      of_step : (s : Answer) → Contains (answers_of (events o ys)) s → s.node ≡ a → s.number ≡ c.number
          → Contains (answers o (world o xs) d) s
      of_step s i node number = elim (Contains-append_cases (answers_of (events o xs)) (answers o (world o xs) d ++ []) s
          (subst (λ (ss : List Answer). Contains ss s)
          (ap answers_of (events_push o xs d is) ∙ flat_map-append (λ (q : Played). q.answers) (events o xs) (played o (world o xs) d ∷ []))
          i)) [
            | inl old ↦ absurd (Contains-nil s (subst (λ (ss : List Answer). Contains ss s) unanswered
                (kept_in (λ (x : Answer). (x.node == a) && (x.number == c.number)) (answers_of (events o xs)) s old
                (and_from (s.node == a) (s.number == c.number) (eq-eqb s.node a node) (eq-eqb s.number c.number number)))))
            | inr now ↦ subst (λ (ss : List Answer). Contains ss s) (append-nil (answers o (world o xs) d)) now
          ]
        where
          unanswered : answers_under a c.number (events o xs) ≡ []
          unanswered = let W : (C : HasOpenCall (events o xs) a p) × (C.number ≡ b.number) = open_waits o xs a p b b_found in
              ap (λ (k : ℕ). answers_under a k (events o xs)) (sym (W.1 ∙ b_number)) ∙ W.0.unanswered

      -- it has a reply that a `set_lock` may have
      replied : (s : Answer) → Contains (answers_of (events o ys)) s → s.node ≡ a → s.number ≡ c.number
          → (s ≡ answer_to a c.number True) ⊎ (s ≡ answer_to a c.number False)
      replied s i node number = go (answers_under a c.number (events o ys)) refl ((calls_answered o ys).once a c.number positive)
        where
          among : Contains (answers_under a c.number (events o ys)) s
          among = kept_in (λ (x : Answer). (x.node == a) && (x.number == c.number)) (answers_of (events o ys)) s i
              (and_from (s.node == a) (s.number == c.number) (eq-eqb s.node a node) (eq-eqb s.number c.number number))

          by_reply : (reply : Reply) → s ≡ answer_to a c.number reply
              → may_have (Call.SetLock p set.resource set.requester T.tries.last.target T.tries.retries) reply ≡ true
              → (s ≡ answer_to a c.number True) ⊎ (s ≡ answer_to a c.number False)
          by_reply True e m = inl e
          by_reply False e m = inr e
          by_reply r e m = cc m

          go : (ss : List Answer) → answers_under a c.number (events o ys) ≡ ss → AtMostOne (calls_at a (events o ys)) a c.number ss
              → (s ≡ answer_to a c.number True) ⊎ (s ≡ answer_to a c.number False)
          go ss e NotYet = absurd (Contains-nil s (subst (λ (l : List Answer). Contains l s) e among))
          go ss e (Once call reply found may) = elim (Contains-cases (answer_to a c.number reply) [] s
              (subst (λ (l : List Answer). Contains l s) e among)) [
                | inl same ↦ by_reply reply (sym same) (let one : call
                    ≡ Call.SetLock p set.resource set.requester T.tries.last.target T.tries.retries = cc (found, accepted_call) in
                    subst (λ (x : Call). may_have x reply ≡ true) one may)
                | inr none ↦ absurd (Contains-nil s none)
              ]

      -- it fails by its last retry
      fails : (s : Answer) → Contains (answers o (world o xs) d) s → s.node ≡ a → s.number ≡ c.number → s.reply ≡ False
          → IsItsLast (world o es) a c × (Sure → ⊥)
      fails s given node number reply = (
        elim (uses_all_retries o xs d is p T.tries s T.last A reply) [
          | inl nobody ↦ NobodyIsAsked (λ x. ap (λ (f : Nodes). f x) (sym T.asked) ∙ nobody x)
          | inr U ↦ HasNoneLeft (last_left U.given T.earlier c.retries (more o es a c listed Q h)
              (subst (λ (g : _). AreLeft g T.earlier c.retries) U.all T.remaining) (sym T.tried ∙ U.used))
        ],
        λ S. elim (fails_for_a_reason o xs d is p T.tries s T.last A reply) [
          | inl nobody ↦ let one : (x : ℕ) × (asks (world o es) a c x ≡ true) = somebody S in
              cc (nobody one.0, ap (λ (f : Nodes). f one.0) T.asked, one.1)
          | inr met ↦ cc (met, unmet S)
        ],
      )
        where
          A : Answers o (world o xs) d p T.tries.last.number s
          A = record { given = given; node = node ∙ sym (home o es a c listed Q h); number = number ∙ sym T.number }

      pub goes_on : Stage ys
      goes_on = go (all_stand o ys a p c.number positive (its_call, accepted_call, refl))
        where
          go : Stands a p c.number (answers_of (events o ys)) ((world o ys).node a) → Stage ys
          go (Gone dead) = Died dead
          go (Answered s i node number) = elim (replied s i node number) [
            | inl won ↦ Succeeded (subst (λ (x : Answer). Contains (answers_of (events o ys)) x) won i)
            | inr lost ↦ let F : IsItsLast (world o es) a c × (Sure → ⊥) = fails s (of_step s i node number) node number
                (ap (λ (x : Answer). x.reply) lost) in
                GaveUp (subst (λ (x : Answer). Contains (answers_of (events o ys)) x) lost i) F.0 F.1
          ]
          go (Waits e e_found number) = Open e e_found number (λ S. clear S e e_found number)

    -- more is answered, and the dead stay dead
    on : (xs : List WorldEvent) (d : WorldEvent) → refusal o (world o xs) d ≡ None → (s : Answer)
        → Contains (answers_of (events o xs)) s → Contains (answers_of (events o (xs ++ d ∷ []))) s
    on xs d is s i = subst (λ (ps : List Played). Contains (answers_of ps) s) (sym (events_push o xs d is))
        (subst (λ (ss : List Answer). Contains ss s)
        (sym (flat_map-append (λ (q : Played). q.answers) (events o xs) (played o (world o xs) d ∷ [])))
        (Contains-append_left (answers_of (events o xs)) (answers_of (played o (world o xs) d ∷ [])) s i))

    still_dead : (xs : List WorldEvent) (d : WorldEvent) → refusal o (world o xs) d ≡ None
        → is_dead ((world o xs).node a).watch p.serial ≡ true → is_dead ((world o (xs ++ d ∷ [])).node a).watch p.serial ≡ true
    still_dead xs d is dead = subst (λ (v : World). is_dead (v.node a).watch p.serial ≡ true)
        (sym (happens_now o xs d is) ∙ sym (run-push o (opening_world o) xs d))
        (dead_event o (world o xs) d
        (walk_of o (world o xs) (λ q i x. round_count o xs q i x) (lock_state o xs) d is).walk a p.serial dead)

    -- a refused event changes nothing
    module _ (xs : List WorldEvent) (d : WorldEvent) (x : Refusal) (is : refusal o (world o xs) d ≡ Some x) where
      pub same_world : world o (xs ++ d ∷ []) ≡ world o xs
      same_world = run-push o (opening_world o) xs d
          ∙ ap (λ (r : Option Refusal). if is_none r then accepted o (world o xs) d else world o xs) is

      same_events : events o (xs ++ d ∷ []) ≡ events o xs
      same_events = course-push o (opening_world o) xs d
          ∙ ap (λ (r : Option Refusal). events o xs ++ (if is_none r then played o (world o xs) d ∷ [] else [])) is
          ∙ append-nil (events o xs)

      pub stays : (Clear xs → Clear (xs ++ d ∷ [])) → Stage xs → Stage (xs ++ d ∷ [])
      stays clear (Died dead) = Died (subst (λ (v : World). is_dead (v.node a).watch p.serial ≡ true) (sym same_world) dead)
      stays clear (Succeeded i) = Succeeded (subst (λ (ps : List Played). Contains (answers_of ps) (answer_to a c.number True))
          (sym same_events) i)
      stays clear (GaveUp i last unsure) = GaveUp
          (subst (λ (ps : List Played). Contains (answers_of ps) (answer_to a c.number False)) (sym same_events) i) last unsure
      stays clear (Open e found number so) = Open e
          (subst (λ (v : World). call_of p (v.node a).calls ≡ Some e) (sym same_world) found) number (λ S. clear (so S))

    -- What an open call becomes by each delivery it becomes by all
    module _ (next : (xs : List WorldEvent) (d : WorldEvent) → is_delivery d ≡ true → Tried xs → refusal o (world o xs) d ≡ None
        → (e : LockCall) → call_of p ((world o xs).node a).calls ≡ Some e → e.number ≡ c.number → (Sure → Clear xs)
        → Stage (xs ++ d ∷ []))
        (same : (xs : List WorldEvent) (d : WorldEvent) (x : Refusal) → refusal o (world o xs) d ≡ Some x → Clear xs
        → Clear (xs ++ d ∷ [])) where
      abbrev pub Both : List WorldEvent → Type 0
      Both xs = Tried xs × Stage xs

      pub each_delivery : (xs : List WorldEvent) (d : WorldEvent) → is_delivery d ≡ true → Both xs → Both (xs ++ d ∷ [])
      each_delivery xs d k B = (next_tries o es a c listed Q h xs d k B.0, go (refusal o (world o xs) d) refl)
        where
          go : (r : Option Refusal) → refusal o (world o xs) d ≡ r → Stage (xs ++ d ∷ [])
          go (Some x) is = stays xs d x is (same xs d x is) B.1
          go None is = by B.1
            where
              by : Stage xs → Stage (xs ++ d ∷ [])
              by (Died dead) = Died (still_dead xs d is dead)
              by (Succeeded i) = Succeeded (on xs d is (answer_to a c.number True) i)
              by (GaveUp i last unsure) = GaveUp (on xs d is (answer_to a c.number False) i) last unsure
              by (Open e found number so) = next xs d k B.0 is e found number so
