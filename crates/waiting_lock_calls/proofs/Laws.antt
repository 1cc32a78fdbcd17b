-- A call that waits becomes what the laws say where its node is retried.
use mathlib.Core.Logic.{◌⊎◌}
use Rattle.std.proofs.Common.{ℕ, true, false, ◌==◌, ◌≡◌, Option, Some, None, List, [], ◌∷◌, ◌++◌, refl, sym, ap, subst, ◌∙◌, inl, inr}
use Rattle.std.specs.Prelude.{◌&&◌, Contains}
use Rattle.std.proofs.lemmas.Bool.{eq-eqb, and_from}
use Rattle.std.proofs.lemmas.Grind.{flat_map-append}
use Rattle.std.proofs.lemmas.List.{append_assoc}
use Rattle.std.proofs.lemmas.List.Elements.{Contains-append_cases}
use Rattle.registry_model.specs.Process.{Process}
use Rattle.registry_model.specs.Call.{Reply, True, False}
use Rattle.registry_model.proofs.Lists.{Contains-nil}
use Rattle.protocol_model.specs.Letter.{Id}
use Rattle.protocol_model.specs.Watch.{is_dead}
use Rattle.protocol_model.specs.Node.{LockPhase, LockCall, Target, Retries, call_of}
use Rattle.protocol_model.specs.Client.{one_less}
use Rattle.protocol_model.specs.Event.{Event, Answer, is_waiting_call}
use Rattle.protocol_model.specs.ClientLocks.{Try}
use Rattle.protocol_model.specs.LockAnswers.{Tries, tries_of, WaitsForRetry}
use Rattle.protocol_model.specs.World.{Opening, World, left, WorldEvent, At, Deliver, opening_world, refusal, run}
use Rattle.protocol_model.specs.Course.{Played, answers_of, course}
use Rattle.protocol_model.specs.Fit.{is_delivery}
use Rattle.protocol_model.specs.Answers.{answer_to, answers_under}
use Rattle.protocol_model.specs.Refusals.{HasOpenCall}
use Rattle.protocol_model.proofs.Courses.{run-append}
use Rattle.getting_through.proofs.Invariants.{IsUp}
use Rattle.getting_through.proofs.Unanswered.{kept_in}
use Rattle.getting_through.specs.Clauses.{events, world}
use Rattle.getting_through.proofs.HeadlineUnanswered.{open_waits}
use Rattle.getting_through.proofs.Base.{not_both}
use Rattle.getting_through.proofs.Calls.{holder_of_call}
use Rattle.getting_through.proofs.Clients.{call_at}
use Rattle.getting_through.proofs.Families.{whole}
use Rattle.getting_through.proofs.Grounds.{lock_state}
use Rattle.getting_through.proofs.GrantLists.{all_grants}
use Rattle.getting_through.proofs.RoundNumbers.{round_count}
use Rattle.walk.proofs.Runs.{happens-accepted}
use Rattle.getting_through.proofs.Tied.{run-push}
use Rattle.getting_through.proofs.Ongoing.{is_deleting}
use Rattle.getting_through.proofs.Quiet.{calls_wait}
use Rattle.getting_through.proofs.Tries.{IsTryOf}
use Rattle.getting_through.proofs.LastCalls.{known}
use Rattle.getting_through.proofs.LastTry.{last_of}
use Rattle.getting_through.proofs.Nobody.{some_same}
use Rattle.getting_through.proofs.RetriesUsed.{spent}
use Rattle.getting_through.proofs.Spending.{AreLeft, IsSpending}
use Rattle.getting_through.proofs.Waiting.{reads_the_seen}
use Rattle.getting_through.proofs.QuietWorlds.{call_listed}
use Rattle.getting_through.specs.GettingThrough.{IsAlone}
use Rattle.getting_through.proofs.Entered.{course-append}
use Rattle.waiting_lock_calls.specs.Retried.{asks, IsRival, HasBecome, Won, Dropped, Failed, WaitsOn, RetriesAreTold, FreeCallsWin}
use Rattle.waiting_lock_calls.proofs.Tried.{along, still_up, AreTries, first, next_tries, found, home, found_home, phase, up, more, next_left}
use Rattle.waiting_lock_calls.proofs.Becoming.{Stage, Died, Succeeded, GaveUp, Open, goes_on, each_delivery}
use Rattle.waiting_lock_calls.proofs.Unrivalled.{is_clear, IsClear, clear_first, clear_next}
use Rattle.waiting_lock_calls.proofs.Winning.{IsSure, free_at_first, IsOnItsWay, first_on_its_way, next_on_its_way, unmet_first, unmet_next, stays_on_its_way, somebody}
use Rattle.getting_through.specs.Worlds.{of_nodes, OfNodes, IsQuiet}

module _ (o : Opening) (es : List WorldEvent) (a : ℕ) (c : LockCall) (listed : Contains ((world o es).node a).calls c)
    (ds : List WorldEvent) (A : IsAlone (of_nodes o) (world o es) (At a Event.Retry) ds) where
  abbrev w : World
  w = world o es

  abbrev p : Process
  p = c.holder

  abbrev fs : List WorldEvent
  fs = At a Event.Retry ∷ ds

  abbrev v : World
  v = run o w fs

  abbrev Sure : Type 0
  Sure = IsSure o es a c listed A.before A.accepted × ((d : LockCall) → IsRival w a c d → ⊥)

  abbrev Tables : Sure → World → Type 0
  Tables S u = IsClear o w a c S.0.resource S.0.requester S.0.id S.1 u

  stay : (S : Sure) (u : World) → Tables S u → left u ≡ left w
  stay S u K = K.stay

  ways : (S : Sure) (u : World) → Tables S u → (x : ℕ) → asks w a c x ≡ true → all_grants (is_clear c) (u.node x).locks ≡ true
  ways S u K = K.ways

  abbrev Clear : List WorldEvent → Type 0
  Clear xs = (S : Sure) → IsOnItsWay o es a c listed A.before A.accepted (Tables S) (stay S) (ways S) xs

  tables_first : (S : Sure) → Tables S (world o (es ++ At a Event.Retry ∷ []))
  tables_first S = subst (Tables S)
      (sym (happens-accepted o w (At a Event.Retry) A.accepted) ∙ sym (run-push o (opening_world o) es (At a Event.Retry)))
      (clear_first o w a c S.0.resource S.0.requester S.0.id S.1 (whole o es) A.before A.accepted
      (free_at_first o es a c listed A.before A.accepted S.0))

  tables_next : (S : Sure) (xs : List WorldEvent) (d : WorldEvent) → is_delivery d ≡ true → Tables S (world o xs)
      → Tables S (world o (xs ++ d ∷ []))
  tables_next S xs d k K = subst (Tables S) (sym (run-push o (opening_world o) xs d))
      (clear_next o w a c S.0.resource S.0.requester S.0.id S.1 (world o xs) (λ q i x. round_count o xs q i x) (lock_state o xs)
      (whole o xs).base d k K)

  abbrev Tried : List WorldEvent → Type 0
  Tried xs = AreTries o es a c listed A.before A.accepted xs

  abbrev Staged : List WorldEvent → Type 0
  Staged xs = Stage o es a c listed A.before A.accepted Sure Clear xs

  begins : Tried (es ++ At a Event.Retry ∷ []) × Staged (es ++ At a Event.Retry ∷ [])
  begins = (
    first o es a c listed A.before A.accepted,
    goes_on o es a c listed A.before A.accepted Sure Clear es (At a Event.Retry) A.accepted (first o es a c listed A.before A.accepted)
        c (found o es a c listed A.before A.accepted) refl
        (λ S. unmet_first o es a c listed A.before A.accepted (Tables S) (stay S) (ways S) S.0)
        (λ S. somebody o es a c listed A.before A.accepted (Tables S) (stay S) (ways S) S.0)
        (λ S e e_found e_number R. first_on_its_way o es a c listed A.before A.accepted (Tables R) (stay R)
        (ways R) R.0 (tables_first R) e e_found e_number),
  )

  next : (xs : List WorldEvent) (d : WorldEvent) → is_delivery d ≡ true → Tried xs → refusal o (world o xs) d ≡ None
      → (e : LockCall) → call_of p ((world o xs).node a).calls ≡ Some e → e.number ≡ c.number → (Sure → Clear xs) → Staged (xs ++ d ∷ [])
  next xs (At b x) k T is e e_found e_number clear = cc k
  next xs (Deliver f t) k T is e e_found e_number clear = goes_on o es a c listed A.before A.accepted Sure Clear xs (Deliver f t) is
      (next_tries o es a c listed A.before A.accepted xs (Deliver f t) k T) e e_found e_number
      (λ S. unmet_next o es a c listed A.before A.accepted (Tables S) (stay S) (ways S) S.0 xs f t is T e e_found (clear S S) _
      (next_tries o es a c listed A.before A.accepted xs (Deliver f t) k T).last)
      (λ S. somebody o es a c listed A.before A.accepted (Tables S) (stay S) (ways S) S.0)
      (λ S b b_found b_number R. next_on_its_way o es a c listed A.before A.accepted (Tables R) (stay R) (ways R) R.0 xs f t is T e
      e_found e_number (clear S R) (tables_next R xs (Deliver f t) refl (clear S R).tables) b b_found b_number)

  ended : Tried ((es ++ At a Event.Retry ∷ []) ++ ds) × Staged ((es ++ At a Event.Retry ∷ []) ++ ds)
  ended = along is_delivery (λ xs. Tried xs × Staged xs) (λ xs d k B. each_delivery o es a c listed A.before A.accepted Sure Clear next
      (λ ys e x is K S. stays_on_its_way o es a c listed A.before A.accepted (Tables S) (stay S) (ways S) S.0 ys e x is (K S)) xs d k B) ds
      (es ++ At a Event.Retry ∷ []) A.delivered begins

  abbrev last : List WorldEvent
  last = es ++ fs

  at_last : Tried last × Staged last
  at_last = subst (λ (xs : List WorldEvent). Tried xs × Staged xs) (append_assoc es (At a Event.Retry ∷ []) ds) ended

  same : world o last ≡ v
  same = run-append o (opening_world o) es fs

  quiet : IsQuiet (of_nodes o) (world o last)
  quiet = subst (IsQuiet (of_nodes o)) (sym same) A.behind

  -- an answer is one of these steps, since the call wasn't answered before
  answered : (reply : Reply) → Contains (answers_of (events o last)) (answer_to a c.number reply)
      → Contains (answers_of (course o w fs)) (answer_to a c.number reply)
  answered reply i = elim (Contains-append_cases (answers_of (events o es)) (answers_of (course o w fs)) (answer_to a c.number reply)
      (subst (λ (ss : List Answer). Contains ss (answer_to a c.number reply)) (ap answers_of (course-append o (opening_world o) es fs)
      ∙ flat_map-append (λ (q : Played). q.answers) (events o es) (course o w fs)) i)) [
        | inl old ↦ absurd (Contains-nil (answer_to a c.number reply)
            (subst (λ (ss : List Answer). Contains ss (answer_to a c.number reply)) unanswered
            (kept_in (λ (x : Answer). (x.node == a) && (x.number == c.number)) (answers_of (events o es)) (answer_to a c.number reply) old
            (and_from (a == a) (c.number == c.number) (eq-eqb a a refl) (eq-eqb c.number c.number refl)))))
        | inr now ↦ now
      ]
    where
      unanswered : answers_under a c.number (events o es) ≡ []
      unanswered = let W : (C : HasOpenCall (events o es) a p) × (C.number ≡ c.number) =
          open_waits o es a p c (found o es a c listed A.before A.accepted) in
          ap (λ (k : ℕ). answers_under a k (events o es)) (sym W.1) ∙ W.0.unanswered

  -- The call is open in the end
  module _ (d : LockCall) (d_found : call_of p ((world o last).node a).calls ≡ Some d) (d_number : d.number ≡ c.number)
      (runs : IsUp o (world o last) a) where
    at_home : call_at (world o last) p ≡ Some d
    at_home = found_home o es a c listed A.before A.accepted (world o last) d d_found

    waits : d.phase ≡ LockPhase.Waiting
    waits = calls_wait o (world o last) (whole o last) quiet p d
        (subst (IsUp o (world o last)) (sym (home o es a c listed A.before A.accepted)) runs) at_home

    abbrev T : Tried last
    T = at_last.0

    own : IsTryOf T.tries.last d
    own = let S : (s : Try) × ((last_of (tries_of o last p) ≡ Some s) × IsTryOf s d) =
        (known o p last).fits.own d at_home (ap is_deleting waits) in
        subst (λ (s : Try). IsTryOf s d) (sym (some_same T.tries.last S.0 (sym (ap last_of T.last) ∙ S.1.0))) S.1.1

    retries : d.retries ≡ one_less c.retries
    retries = let S : IsSpending (tries_of o last p) d = (spent o last p).kept p d at_home refl (ap is_deleting waits) in
        let one : S.0 ≡ T.tries = some_same S.0 T.tries (sym S.1 ∙ T.last) in
        next_left T.tries.retries T.earlier c.retries d.retries (more o es a c listed A.before A.accepted) T.remaining
        (subst (λ (n : ℕ). AreLeft T.tries.retries n d.retries) T.tried
        (subst (λ (t : Tries). AreLeft t.retries t.tried d.retries) one S.2.left))

    is_same : d ≡ record c { retries = one_less c.retries }
    is_same = ap (λ (q : Process). record d { holder = q }) (holder_of_call p ((world o last).node a).calls d d_found)
        ∙ ap (λ (n : ℕ). record d { holder = c.holder; number = n }) d_number
        ∙ ap (λ (i : Id). record d { holder = c.holder; number = c.number; id = i }) (sym own.id ∙ T.id)
        ∙ ap (λ (t : Target). record d { holder = c.holder; number = c.number; id = c.id; target = t }) (sym own.target ∙ T.target)
        ∙ ap (λ (r : Retries). record d { holder = c.holder; number = c.number; id = c.id; target = c.target; retries = r }) retries
        ∙ ap (λ (f : LockPhase). record c { retries = one_less c.retries; phase = f })
        (waits ∙ sym (phase o es a c listed A.before A.accepted))

    waits_on : Contains (v.node a).calls (record c { retries = one_less c.retries })
    waits_on = subst (λ (x : World). Contains (x.node a).calls (record c { retries = one_less c.retries })) same
        (subst (Contains ((world o last).node a).calls) is_same (call_listed p ((world o last).node a).calls d d_found))

    -- something was met, since it was refused
    met : T.tries.met ≡ true
    met = let R : WaitsForRetry o last (world o last) p = (reads_the_seen o last).refused p (ap (λ (k : Option LockCall). elim k [
      | None ↦ false
      | Some x ↦ is_waiting_call x.phase
    ]) at_home ∙ ap is_waiting_call waits) in
        subst (λ (t : Tries). t.met ≡ true) (some_same R.tries T.tries (sym R.last ∙ T.last)) R.failed

  runs_at_last : IsUp o (world o last) a
  runs_at_last = still_up o w (world o last) at_last.0.stay a (up o es a c listed A.before A.accepted)

  pub becomes : HasBecome w v a c (course o w fs)
  becomes = go at_last.1
    where
      go : Staged last → HasBecome w v a c (course o w fs)
      go (Died dead) = Dropped (subst (λ (x : World). is_dead (x.node a).watch p.serial ≡ true) same dead)
      go (Succeeded i) = Won (answered True i)
      go (GaveUp i final unsure) = Failed (answered False i) final
      go (Open d d_found d_number clear) = WaitsOn (waits_on d d_found d_number runs_at_last)

  pub wins : Sure → Contains (answers_of (course o w fs)) (answer_to a c.number True) ⊎ (is_dead (v.node a).watch p.serial ≡ true)
  wins S = go at_last.1
    where
      go : Staged last → Contains (answers_of (course o w fs)) (answer_to a c.number True) ⊎ (is_dead (v.node a).watch p.serial ≡ true)
      go (Died dead) = inr (subst (λ (x : World). is_dead (x.node a).watch p.serial ≡ true) same dead)
      go (Succeeded i) = inl (answered True i)
      go (GaveUp i final unsure) = absurd (unsure S)
      go (Open d d_found d_number clear) = absurd (not_both at_last.0.tries.met (met d d_found d_number runs_at_last)
          ((clear S S).unmet at_last.0.tries at_last.0.last))

pub retries_are_told : OfNodes RetriesAreTold
retries_are_told o es a c ds listed A = becomes o es a c listed ds A

pub free_calls_win : OfNodes FreeCallsWin
free_calls_win o es a c r z ds listed i F none A = wins o es a c listed ds A
    (record { resource = r; requester = z; id = i; free = F }, none)
