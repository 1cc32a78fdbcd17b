-- A world is finished: registrars get free, and then a call that is ready is chosen, and so on until all that wait are held up.
use mathlib.Core.Logic.{◌⊎◌}
use Rattle.std.proofs.Common.{ℕ, zero, suc, Bool, true, false, ◌==◌, ◌≡◌, ◌<◌, ◌≤◌, Option, Some, None, List, [], ◌∷◌, ◌++◌, refl, sym, ap, subst, ◌∙◌, inl, inr, arith}
use Rattle.std.specs.Prelude.{◌&&◌, ◌||◌, Contains, nat_lt, if◌then◌else◌}
use Rattle.std.specs.List.{list_all}
use Rattle.std.proofs.Math.Bool.{or-true}
use Rattle.std.proofs.lemmas.Bool.{cases_eq, eq-eqb, and_from, ltb-true}
use Rattle.std.proofs.lemmas.List.{append-nil, append_assoc}
use Rattle.std.proofs.lemmas.List.Folds.{list_all-append}
use Rattle.registry_model.specs.Process.{Process, Nodes}
use Rattle.registry_model.specs.Call.{True}
use Rattle.registry_model.proofs.Lists.{Contains-nil}
use Rattle.protocol_model.specs.Round.{is_empty, begin}
use Rattle.protocol_model.specs.Watch.{is_dead}
use Rattle.protocol_model.specs.Node.{Current, LockPhase, LockCall, call_of, targets}
use Rattle.protocol_model.specs.Client.{in_phase, one_less}
use Rattle.protocol_model.specs.Event.{Event, Answer, can_retry, is_waiting, is_waiting_call}
use Rattle.protocol_model.specs.World.{Opening, in_world, World, left, WorldEvent, At, Deliver, opening_world, refusal, accepted, run}
use Rattle.protocol_model.specs.Course.{answers_of, course}
use Rattle.protocol_model.specs.Fit.{is_delivery}
use Rattle.protocol_model.specs.Answers.{answer_to, answers_under}
use Rattle.protocol_model.specs.Refusals.{HasOpenCall}
use Rattle.protocol_model.specs.Quiet.{Runs}
use Rattle.protocol_model.proofs.Courses.{run-append}
use Rattle.protocol_model.proofs.Finding.{found_any}
use Rattle.getting_through.proofs.Indices.{both}
use Rattle.getting_through.proofs.Invariants.{IsUp}
use Rattle.walk.proofs.Runs.{happens-accepted}
use Rattle.getting_through.proofs.Unanswered.{kept_in}
use Rattle.getting_through.specs.Clauses.{events, world}
use Rattle.getting_through.proofs.Tied.{run-push}
use Rattle.getting_through.proofs.HeadlineUnanswered.{open_waits, waits_open}
use Rattle.getting_through.proofs.Base.{not_both}
use Rattle.getting_through.proofs.Calls.{holder_of_call}
use Rattle.getting_through.proofs.Clients.{call_at, IsLive, live_parts, caller_lives}
use Rattle.getting_through.proofs.Families.{whole}
use Rattle.getting_through.proofs.Grounds.{lock_state}
use Rattle.getting_through.proofs.RoundNumbers.{round_count}
use Rattle.getting_through.proofs.CallTurns.{anew_in, anew}
use Rattle.getting_through.proofs.EventTurns.{AgainTurn, again_turn}
use Rattle.getting_through.specs.Answering.{NameCallsAreAnswered}
use Rattle.getting_through.proofs.QuietWorlds.{calls, call_listed, quiet_worlds_rest}
use Rattle.getting_through.specs.GettingFree.{LeadsOn as GetFree}
use Rattle.getting_through.proofs.Freeing.{registrars_get_free}
use Rattle.waiting_lock_calls.specs.Retried.{asks}
use Rattle.waiting_lock_calls.specs.HeldUp.{HeldUp}
use Rattle.waiting_lock_calls.specs.NoDeadEnd.{IsHeldUpAt, IsFinished, NoDeadEnd}
use Rattle.waiting_lock_calls.proofs.Tried.{behind, found, home, found_home, there, phase}
use Rattle.waiting_lock_calls.proofs.Chosen.{AreSound, wins_or_dies}
use Rattle.waiting_lock_calls.proofs.OpenCalls.{open_calls, Was, IsLater, later, no_more, fewer}
use Rattle.waiting_lock_calls.proofs.WhyHeld.{IsReady, IsClearOf, all_held}
use Rattle.getting_through.specs.Worlds.{of_nodes, OfNodes, IsQuiet, IsSettled, is_delivery_or_retry}

-- deliveries are deliveries or retries
delivered : (ds : List WorldEvent) → list_all is_delivery ds ≡ true → list_all is_delivery_or_retry ds ≡ true
delivered [] k = refl
delivered (Deliver f t ∷ ds) k = delivered ds k
delivered (At b e ∷ ds) k = cc k

-- an event that isn't a delivery is one at a
abbrev pub is_of : ℕ → WorldEvent → Bool
is_of a (At b e) = b == a
is_of a (Deliver f t) = true

delivered_of : (a : ℕ) (ds : List WorldEvent) → list_all is_delivery ds ≡ true → list_all (is_of a) ds ≡ true
delivered_of a [] k = refl
delivered_of a (Deliver f t ∷ ds) k = delivered_of a ds k
delivered_of a (At b e ∷ ds) k = cc k

module _ (o : Opening) where
  below : (x : ℕ) → in_world o x ≡ true → x < o.bound
  below x h = ltb-true x o.bound (both (nat_lt x o.bound) (o.nodes x) h).0

  -- a call that is ready is over behind some deliveries and a retry
  module _ (es : List WorldEvent) (Q : IsQuiet (of_nodes o) (world o es)) (a : ℕ) (up : IsUp o (world o es) a)
      (R : IsReady o es Q a up) where
    abbrev w : World
    w = world o es

    abbrev c : LockCall
    c = R.call

    abbrev p : Process
    p = R.call.holder

    waits : is_waiting_call c.phase ≡ true
    waits = ap is_waiting_call (calls o w (whole o es) Q a up c R.listed)

    h : refusal o (world o es) (At a Event.Retry) ≡ None
    h = rw (up.0, up.1, can) refl
      where
        can : can_retry ((world o es).node a) ≡ true
        can = ap (λ (b : Bool). is_waiting ((world o es).node a).current || b)
            (found_any (λ (d : LockCall). is_waiting_call d.phase) ((world o es).node a).calls c R.listed waits)
            ∙ or-true (is_waiting ((world o es).node a).current)

    abbrev pub Over : List WorldEvent → Type 0
    Over fs = call_of p ((world o (es ++ fs)).node a).calls ≡ None

    abbrev pub Less : Type 0
    Less = (fs : List WorldEvent) × (list_all is_delivery_or_retry fs ≡ true) × (list_all (is_of a) fs ≡ true)
        × AreSound o (world o es) fs × Over fs

    pub opened : call_of p ((world o es).node a).calls ≡ Some c
    opened = found o es a c R.listed Q h

    pub less_open : (L : Less) → open_calls o (world o (es ++ L.0)) < open_calls o (world o es)
    less_open (fs, k, at, sound, gone) = fewer o es (es ++ fs) (later o es fs k) a up (below a up.0) p c opened gone

    over : (ds : List WorldEvent) → list_all is_delivery ds ≡ true → AreSound o (world o es) (At a Event.Retry ∷ ds)
        → Over (At a Event.Retry ∷ ds) → Less
    over ds k sound gone = (
      At a Event.Retry ∷ ds,
      delivered ds k,
      ap (λ (b : Bool). b && list_all (is_of a) ds) (eq-eqb a a refl) ∙ delivered_of a ds k,
      sound,
      gone,
    )

    -- it has nobody to ask
    nobody : is_empty o.bound (asks w a c) ≡ true → Less
    nobody none = over [] refl (h, up, up, tt)
        (ap (λ (v : World). call_of p (v.node a).calls) (run-push o (opening_world o) es (At a Event.Retry)
        ∙ happens-accepted o w (At a Event.Retry) h)
        ∙ ap (λ (x : ℕ). call_of p ((accepted o w (At a Event.Retry)).node x).calls) (sym (home o es a c R.listed Q h))
        ∙ T.calls p (home o es a c R.listed Q h)
        ∙ ap (anew o.bound a (w.node a).replica.members) (there o es a c R.listed Q h)
        ∙ ap (λ (f : LockPhase). anew_in o.bound a (w.node a).replica.members f c) (phase o es a c R.listed Q h)
        ∙ ap (λ (b : Bool). if b then None else Some (in_phase
        (LockPhase.Asking (begin o.bound (targets (w.node a).replica.members c.target))) (record c { retries = one_less c.retries }))) none)
      where
        T : AgainTurn o w (whole o es).base.ordered a
        T = again_turn o w (whole o es).base.ordered a

    -- or it is chosen
    chosen : IsClearOf o es Q a up c → Less
    chosen S = over D.0 D.1 (
      h,
      up,
      up,
      subst (λ (v : World). AreSound o v D.0) (run-push o (opening_world o) es (At a Event.Retry)) D.2,
    ) (go (call_of p ((world o xs).node a).calls) refl)
      where
        D : (ds : List WorldEvent) × (list_all is_delivery ds ≡ true)
            × AreSound o (world o (behind o es a c R.listed Q h)) ds
            × (Contains (answers_of (events o (behind o es a c R.listed Q h ++ ds))) (answer_to a c.number True)
            ⊎ (is_dead ((world o (behind o es a c R.listed Q h ++ ds)).node a).watch p.serial ≡ true))
        D = wins_or_dies o es a c R.listed Q h
            (record { resource = S.resource; requester = S.requester; id = S.id; free = S.free }) S.first

        xs : List WorldEvent
        xs = es ++ At a Event.Retry ∷ D.0

        decided : Contains (answers_of (events o (es ++ At a Event.Retry ∷ D.0))) (answer_to a c.number True)
            ⊎ (is_dead ((world o (es ++ At a Event.Retry ∷ D.0)).node a).watch p.serial ≡ true)
        decided = subst (λ (ys : List WorldEvent). Contains (answers_of (events o ys)) (answer_to a c.number True)
            ⊎ (is_dead ((world o ys).node a).watch p.serial ≡ true)) (append_assoc es (At a Event.Retry ∷ []) D.0) D.3

        L : IsLater o es (es ++ At a Event.Retry ∷ D.0)
        L = later o es (At a Event.Retry ∷ D.0) (delivered D.0 D.1)

        go : (k : Option LockCall) → call_of p ((world o (es ++ At a Event.Retry ∷ D.0)).node a).calls ≡ k
            → call_of p ((world o (es ++ At a Event.Retry ∷ D.0)).node a).calls ≡ None
        go None e = e
        go (Some d) e = absurd (by decided)
          where
            at_home : call_at (world o (es ++ At a Event.Retry ∷ D.0)) p ≡ Some d
            at_home = found_home o es a c R.listed Q h (world o (es ++ At a Event.Retry ∷ D.0)) d e

            number : c.number ≡ d.number
            number = let W : Was o w p d = L.was p d at_home in
                ap number_of (sym (there o es a c R.listed Q h) ∙ W.1) ∙ W.2
              where
                number_of : Option LockCall → ℕ
                number_of None = 0
                number_of (Some b) = b.number

            by : Contains (answers_of (events o (es ++ At a Event.Retry ∷ D.0))) (answer_to a c.number True)
                ⊎ (is_dead ((world o (es ++ At a Event.Retry ∷ D.0)).node a).watch p.serial ≡ true) → ⊥
            by (inl i) = Contains-nil (answer_to a c.number True) (subst (λ (ss : List Answer). Contains ss (answer_to a c.number True))
                unanswered (kept_in (λ (x : Answer). (x.node == a) && (x.number == c.number))
                (answers_of (events o (es ++ At a Event.Retry ∷ D.0))) (answer_to a c.number True) i
                (and_from (a == a) (c.number == c.number) (eq-eqb a a refl) (eq-eqb c.number c.number refl))))
              where
                unanswered : answers_under a c.number (events o (es ++ At a Event.Retry ∷ D.0)) ≡ []
                unanswered = let W : (C : HasOpenCall (events o (es ++ At a Event.Retry ∷ D.0)) a p) × (C.number ≡ d.number) =
                    open_waits o (es ++ At a Event.Retry ∷ D.0) a p d e in
                    ap (λ (k : ℕ). answers_under a k (events o (es ++ At a Event.Retry ∷ D.0))) (number ∙ sym W.1) ∙ W.0.unanswered
            by (inr dead) = not_both (is_dead ((world o (es ++ At a Event.Retry ∷ D.0)).node a).watch p.serial) dead
                (ap (λ (x : ℕ). is_dead ((world o (es ++ At a Event.Retry ∷ D.0)).node x).watch p.serial) (sym (home o es a c R.listed Q h))
                ∙ alive.alive)
              where
                alive : IsLive o (world o (es ++ At a Event.Retry ∷ D.0)) p
                alive = live_parts o (world o (es ++ At a Event.Retry ∷ D.0)) p (caller_lives o (world o (es ++ At a Event.Retry ∷ D.0))
                    (λ q j x. round_count o (es ++ At a Event.Retry ∷ D.0) q j x) (lock_state o (es ++ At a Event.Retry ∷ D.0)).clients p d
                    (ap (λ (s : Nodes). s p.node) L.stay ∙ ap (left w) (home o es a c R.listed Q h) ∙ up.1) at_home)

    pub ready_ends : Less
    ready_ends = elim R.why [ inl none ↦ nobody none | inr S ↦ chosen S ]

  -- all nodes below n: one has a call that is ready, or all calls are held up
  -- S: which of them
  module _ (S : Nodes) (es : List WorldEvent) (Q : IsQuiet (of_nodes o) (world o es)) where
    abbrev pub SomeReady : Type 0
    SomeReady = (a : ℕ) × (S a ≡ true) × (up : IsUp o (world o es) a) × IsReady o es Q a up

    abbrev pub AllHeld : ℕ → Type 0
    AllHeld n = (a : ℕ) → a < n → S a ≡ true → IsUp o (world o es) a → (c : LockCall) → Contains ((world o es).node a).calls c
        → HeldUp o es (world o es) a c

    pub nodes_held : (n : ℕ) → SomeReady ⊎ AllHeld n
    nodes_held zero = inr (λ a l. absurd (omega (arith, l)))
    nodes_held (suc n) = elim (nodes_held n) [
      | inl r ↦ inl r
      | inr held ↦ here held (S n) refl (in_world o n) refl (left (world o es) n) refl
    ]
      where
        others : AllHeld n → (S n ≡ true → (up : IsUp o (world o es) n) → (c : LockCall) → Contains ((world o es).node n).calls c
            → HeldUp o es (world o es) n c) → AllHeld (suc n)
        others held last a l s up c i = elim (cases_eq a n) [
          | inl same ↦ subst (λ (x : ℕ). S x ≡ true → IsUp o (world o es) x → Contains ((world o es).node x).calls c
              → HeldUp o es (world o es) x c)
              (sym same) (λ t u k. last t u c k) s up i
          | inr ne ↦ held a (omega (arith, l, ne)) s up c i
        ]

        here : AllHeld n → (s : Bool) → S n ≡ s → (b : Bool) → in_world o n ≡ b → (g : Bool) → left (world o es) n ≡ g
            → SomeReady ⊎ AllHeld (suc n)
        here held true s true i false j = elim (all_held o es Q n (i, j) ((world o es).node n).calls (λ c k. k)) [
          | inl r ↦ inl (n, s, (i, j), r)
          | inr all ↦ inr (others held (λ t up c k. all c k))
        ]
        here held true s false i g j = inr (others held (λ t up c k. cc (up.0, i)))
        here held true s true i true j = inr (others held (λ t up c k. cc (up.1, j)))
        here held false s b i g j = inr (others held (λ t up c k. cc (t, s)))

  abbrev every : Nodes
  every = λ x. true

  -- events behind which nothing waits but what is held up
  abbrev Finished : List WorldEvent → Type 0
  Finished es = (fs : List WorldEvent) × (list_all is_delivery_or_retry fs ≡ true) × IsFinished (of_nodes o) (es ++ fs) (world o (es ++ fs))

  joined : (es fs : List WorldEvent) → list_all is_delivery_or_retry fs ≡ true → Finished (es ++ fs) → Finished es
  joined es fs k F = (
    fs ++ F.0,
    list_all-append is_delivery_or_retry fs F.0 ∙ ap (λ (b : Bool). b && list_all is_delivery_or_retry F.0) k ∙ F.1,
    subst (λ (ys : List WorldEvent). IsFinished (of_nodes o) ys (world o ys)) (append_assoc es fs F.0) F.2,
  )

  -- in a settled world
  module _ (es fs : List WorldEvent) (G : GetFree (of_nodes o) es (world o es) fs) where
    abbrev ys : List WorldEvent
    ys = es ++ fs

    same : world o (es ++ fs) ≡ run o (world o es) fs
    same = run-append o (opening_world o) es fs

    settled : IsSettled (of_nodes o) (world o (es ++ fs))
    settled = subst (IsSettled (of_nodes o)) (sym same) G.settled

    all_finished : AllHeld every (es ++ fs) (settled).quiet o.bound → IsFinished (of_nodes o) (es ++ fs) (world o (es ++ fs))
    all_finished held = record {
      settled = settled;
      free = λ x up. subst (λ (v : World). Runs o v x → (v.node x).current ≡ Current.Free) (sym same) (G.free x) up;
      idle = λ x up. subst (λ (v : World). Runs o v x → (v.node x).queue ≡ []) (sym same) (G.idle x) up;
      answered = subst (λ (v : World). NameCallsAreAnswered (Runs o v) (course o (opening_world o) (es ++ fs))) (sym same) G.answered;
      locks = λ a p up C. locks a p up C (is_dead ((world o (es ++ fs)).node a).watch p.serial) refl;
    }
      where
        locks : (a : ℕ) (p : Process) → Runs o (world o (es ++ fs)) a → (C : HasOpenCall (course o (opening_world o) (es ++ fs)) a p)
            → (b : Bool) → is_dead ((world o (es ++ fs)).node a).watch p.serial ≡ b
            → (is_dead ((world o (es ++ fs)).node a).watch p.serial ≡ true) ⊎ IsHeldUpAt o (es ++ fs) (world o (es ++ fs)) a p C.number
        locks a p up C true i = inl i
        locks a p up C false i =
            let W : (c : LockCall) × (call_of p ((world o (es ++ fs)).node a).calls ≡ Some c) × (c.number ≡ C.number) =
            waits_open o (es ++ fs) a p C i in
            let there : Contains ((world o (es ++ fs)).node a).calls W.0 = call_listed p ((world o (es ++ fs)).node a).calls W.0 W.1 in
            inr (record {
              call = W.0;
              listed = there;
              its_holder = holder_of_call p ((world o (es ++ fs)).node a).calls W.0 W.1;
              its_number = W.2;
              waits = (quiet_worlds_rest o (es ++ fs) (settled).quiet).calls a W.0 up there;
              held_up = held a (below a up.0) refl up W.0 there;
            })

  -- one call after another
  finish_by : (n : ℕ) → ((es : List WorldEvent) → open_calls o (world o es) < n → Finished es) → (es : List WorldEvent)
      → open_calls o (world o es) ≤ n → Finished es
  finish_by n more es l = let freed = registrars_get_free o es in go (freed.0, freed.1)
    where
      go : (fs : List WorldEvent) × GetFree (of_nodes o) es (world o es) fs → Finished es
      go (fs, G) = joined es fs G.kinds (elim (nodes_held every (es ++ fs) (settled es fs G).quiet o.bound) [
        | inl R ↦
            let M : open_calls o (world o (es ++ fs)) ≤ open_calls o (world o es) = no_more o es (es ++ fs) (later o es fs G.kinds) in
            let E : Less (es ++ fs) (settled es fs G).quiet R.0 R.2 R.3 = ready_ends (es ++ fs) (settled es fs G).quiet R.0 R.2 R.3 in
            let less : open_calls o (world o ((es ++ fs) ++ E.0)) < open_calls o (world o (es ++ fs)) =
            less_open (es ++ fs) (settled es fs G).quiet R.0 R.2 R.3 E in
            joined (es ++ fs) E.0 E.1 (more ((es ++ fs) ++ E.0) (omega (arith, less, M, l)))
        | inr held ↦ ended es fs G held
      ])
        where
          ended : (es fs : List WorldEvent) (G : GetFree (of_nodes o) es (world o es) fs) → AllHeld every (es ++ fs) (settled es fs G).quiet o.bound
              → Finished (es ++ fs)
          ended es fs G held = (
            [],
            refl,
            subst (λ (zs : List WorldEvent). IsFinished (of_nodes o) zs (world o zs)) (sym (append-nil (es ++ fs))) (all_finished es fs G held),
          )

  finish : (n : ℕ) (es : List WorldEvent) → open_calls o (world o es) ≤ n → Finished es
  finish zero es l = finish_by zero (λ xs k. absurd (omega (arith, k))) es l
  finish (suc m) es l = finish_by (suc m) (λ xs k. finish m xs (omega (arith, k))) es l

pub no_dead_end : OfNodes NoDeadEnd
no_dead_end o es = (
  F.0,
  record {
    kinds = F.1;
    finished = subst (IsFinished (of_nodes o) (es ++ F.0)) (run-append o (opening_world o) es F.0) F.2;
  },
)
  where
    F : Finished o es
    F = finish o (open_calls o (world o es)) es (omega arith)
