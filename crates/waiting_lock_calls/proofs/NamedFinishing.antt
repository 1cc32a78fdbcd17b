-- A world of names is finished, too: registrars get free, and a call that is ready in the world in which all nodes that haven't
-- started were told of all that have left is chosen there, by events that names can make.
-- x: a world of names; y: one that is alike; fs: events of it.
use mathlib.Core.Logic.{◌⊎◌}
use Rattle.std.proofs.Common.{ℕ, zero, suc, Bool, true, false, ◌≡◌, ◌<◌, ◌≤◌, None, Some, List, [], ◌∷◌, ◌++◌, length, refl, sym, ap, subst, ◌∙◌, inl, inr, arith}
use Rattle.std.specs.Prelude.{not, ◌&&◌, ◌||◌, ◌==◌, Contains, nat_lt}
use Rattle.std.specs.List.{list_all}
use Rattle.std.proofs.lemmas.Bool.{eqb-true, and_parts, ltb-true}
use Rattle.std.proofs.lemmas.List.{append-nil, append_assoc}
use Rattle.std.proofs.lemmas.List.Folds.{list_all-append}
use Rattle.std.proofs.lemmas.List.Sums.{fold-append}
use Rattle.registry_model.specs.Process.{Process, Nodes}
use Rattle.protocol_model.specs.Links.{is_nil}
use Rattle.protocol_model.specs.LockTable.{last_count}
use Rattle.protocol_model.specs.Watch.{is_dead}
use Rattle.protocol_model.specs.Round.{greatest}
use Rattle.protocol_model.specs.Node.{Node, Current, LockCall, call_of, targets}
use Rattle.protocol_model.specs.Event.{Event, NoSuchNode, NodeLeft, EmptyLink, cause, first_cause}
use Rattle.protocol_model.specs.World.{Opening, in_world, World, left, WorldEvent, At, opening_world, place, other, refusal, happens, run}
use Rattle.protocol_model.specs.Refusals.{HasOpenCall}
use Rattle.protocol_model.proofs.Courses.{run-append}
use Rattle.getting_through.proofs.Indices.{both}
use Rattle.getting_through.proofs.Invariants.{IsUp as Runs}
use Rattle.getting_through.specs.NodeNames.{NamedOpening, opening_of}
use Rattle.getting_through.specs.NamedWorld.{NamedWorld, NamedEvent, has_started, plain_events, happens_named, run_named, opening_named, after_events}
use Rattle.getting_through.specs.Restarts.{IsUp}
use Rattle.getting_through.specs.Lifted.{events_played}
use Rattle.getting_through.proofs.Alike.{Alike, same_refusal, run_alike}
use Rattle.getting_through.proofs.Always.{happens_keeps}
use Rattle.getting_through.proofs.Apart.{IsStaying}
use Rattle.getting_through.proofs.LeftOfNames
use Rattle.getting_through.proofs.NamedRuns.{happens-plain, named_runs_are_runs}
use Rattle.getting_through.proofs.Standing.{Sound, least_started}
use Rattle.getting_through.proofs.HeadlineUnanswered.{waits_open}
use Rattle.getting_through.proofs.Calls.{holder_of_call}
use Rattle.getting_through.specs.Answering.{NameCallsAreAnswered}
use Rattle.getting_through.specs.Weights.{sum_below, when}
use Rattle.getting_through.proofs.NamedQuiet.{quiet_names_rest}
use Rattle.getting_through.proofs.QuietWorlds.{call_listed}
use Rattle.getting_through.proofs.Sums.{sum-le}
use Rattle.getting_through.proofs.NamedStorms
use Rattle.getting_through.proofs.NamedStorms.{one_started}
use Rattle.getting_through.proofs.NamedFinishing.{names_get_free}
use Rattle.waiting_lock_calls.specs.Retried.{asks, IsRival}
use Rattle.waiting_lock_calls.specs.HeldUp.{comes_before, HeldUp, Taken, Full, Behind}
use Rattle.waiting_lock_calls.specs.NoDeadEnd.{IsHeldUpAt, IsFinished, NoDeadEnd}
use Rattle.waiting_lock_calls.proofs.ByNames.{Silent, silent_next, IsByName, by_name}
use Rattle.waiting_lock_calls.proofs.Chosen.{AreSound}
use Rattle.waiting_lock_calls.proofs.Finishing.{is_of, Less, ready_ends, opened, SomeReady, AllHeld, nodes_held}
use Rattle.waiting_lock_calls.proofs.OpenCalls.{sum_less, IsLater, later, at_each, less_at}
use Rattle.getting_through.specs.Worlds.{of_nodes, IsQuiet, IsSettled, running, is_delivery_or_retry}
use Rattle.getting_through.specs.Clauses.{world}
use Rattle.getting_through.specs.GettingFree.{LeadsOn as GetFree}
use Rattle.getting_through.specs.WorldsOfNames.{of_names, OfNames, is_named_delivery_or_retry}

-- a letter waits where one is delivered
some_waits : (b c n : Bool) → first_cause (cause b NoSuchNode ∷ cause c NodeLeft ∷ cause n EmptyLink ∷ []) ≡ None → n ≡ false
some_waits true c n e = cc e
some_waits false true n e = cc e
some_waits false false true e = cc e
some_waits false false false e = refl

-- a rival is one where the node is the same
pub same_rival : (v w : World) (a : ℕ) → v.node a ≡ w.node a → (c d : LockCall) → IsRival v a c d → IsRival w a c d
same_rival v w a e c d R = record {
  listed = subst (λ (b : Node). Contains b.calls d) e R.listed;
  resource = R.resource;
  requester = R.requester;
  node = R.node;
  asked = ap (λ (b : Node). targets b.replica.members c.target R.node) (sym e) ∙ R.asked;
  asked_too = ap (λ (b : Node). targets b.replica.members d.target R.node) (sym e) ∙ R.asked_too;
}

module _ (o : NamedOpening) where
  abbrev O : Opening
  O = opening_of o

  -- nobody leaves
  stays : (S : Nodes) (d : WorldEvent) → is_delivery_or_retry d ≡ true → IsStaying O S d
  stays S (WorldEvent.Deliver f t) k = tt
  stays S (At a Event.Retry) k = tt
  stays S (At a (Event.Calling c)) k = tt
  stays S (At a (Event.Exiting p)) k = tt
  stays S (At a Event.Leave) k = cc k

  -- these are of nodes that have started
  started : (a : ℕ) (x : NamedWorld) (y : World) → Sound o x → has_started o x a ≡ true → Alike O (has_started o x) x.world y
      → (d : WorldEvent) → is_delivery_or_retry d ≡ true → is_of a d ≡ true → refusal O y d ≡ None
      → (has_started o x (place d) ≡ true) × (has_started o x (other d) ≡ true)
  started a x y s at A (WorldEvent.Deliver f t) k i r = let e : has_started o x t ≡ true = to (has_started o x t) refl in
      (e, from e (has_started o x f) refl)
    where
      some : is_nil (y.links.queue f t) ≡ false
      some = some_waits (not (in_world O t) || not (in_world O f)) (left y t) (is_nil (y.links.queue f t)) r

      to : (b : Bool) → has_started o x t ≡ b → b ≡ true
      to true e = refl
      to false e = cc (ap is_nil (A.late f t e), some)

      from : has_started o x t ≡ true → (b : Bool) → has_started o x f ≡ b → b ≡ true
      from up true e = refl
      from up false e = cc (ap is_nil (A.queue f t up ∙ s.apart.silent f t e), some)
  started a x y s at A (At b Event.Retry) k i r =
      let e : has_started o x b ≡ true = subst (λ (z : ℕ). has_started o x z ≡ true) (sym (eqb-true b a i)) at in (e, e)
  started a x y s at A (At b (Event.Calling c)) k i r = cc k
  started a x y s at A (At b (Event.Exiting p)) k i r = cc k
  started a x y s at A (At b Event.Leave) k i r = cc k

  -- so names make them
  record AreByName (x : NamedWorld) (fs : List WorldEvent) : Type 0 where
    pub events : List NamedEvent
    pub kinds : list_all is_named_delivery_or_retry events ≡ true
    pub plain : plain_events o x events ≡ fs

  all_by_name : (a : ℕ) (fs : List WorldEvent) (x : NamedWorld) (y : World) → Sound o x → has_started o x a ≡ true
      → Alike O (has_started o x) x.world y → Silent O y → list_all is_delivery_or_retry fs ≡ true → list_all (is_of a) fs ≡ true
      → AreSound O y fs → AreByName x fs
  all_by_name a [] x y s at A Z k i R = record { events = []; kinds = refl; plain = refl }
  all_by_name a (d ∷ fs) x y s at A Z k i R =
      let rest : AreByName (happens_named o x B.event) fs =
      all_by_name a fs (happens_named o x B.event) (happens O y d) (happens_keeps o x B.event s)
      (ap (λ (S : Nodes). S a) same_names ∙ at) A1 (silent_next O y d K.0 R.0 R.1 Z) K.1 I.1 R.3 in
      record {
        events = B.event ∷ rest.events;
        kinds = ap (λ (b : Bool). b && list_all is_named_delivery_or_retry rest.events) B.kind ∙ rest.kinds;
        plain = ap (λ (ds : List WorldEvent). ds ++ plain_events o (happens_named o x B.event) rest.events) B.accepted
            ∙ ap (λ (ds : List WorldEvent). d ∷ ds) rest.plain;
      }
    where
      K : (is_delivery_or_retry d ≡ true) × (list_all is_delivery_or_retry fs ≡ true)
      K = both (is_delivery_or_retry d) (list_all is_delivery_or_retry fs) k

      I : (is_of a d ≡ true) × (list_all (is_of a) fs ≡ true)
      I = both (is_of a d) (list_all (is_of a) fs) i

      T : (has_started o x (place d) ≡ true) × (has_started o x (other d) ≡ true)
      T = started a x y s at A d K.0 I.0 R.0

      up : (c : ℕ) → has_started o x c ≡ true → Runs O y c → IsUp o x c
      up c e u = record { inside = u.0; started = e; stays = sym (ap (λ (l : Nodes). l c) A.departures) ∙ u.1 }

      silent : (g t : ℕ) → left x.world g ≡ true → IsUp o x t → x.world.links.queue g t ≡ []
      silent g t gone ut = sym (A.queue g t ut.started)
          ∙ Z g t (ap (λ (l : Nodes). l g) A.departures ∙ gone) (ut.inside, ap (λ (l : Nodes). l t) A.departures ∙ ut.stays)

      B : IsByName o x s silent d
      B = by_name o x s silent d K.0 (sym (same_refusal O (has_started o x) x.world y A d T.0) ∙ R.0) (up (place d) T.0 R.1)
          (up (other d) T.1 R.2)

      same_names : has_started o (happens_named o x B.event) ≡ has_started o x
      same_names = one_started o x B.event B.kind

      at_next : (happens_named o x B.event).world ≡ run O x.world (d ∷ [])
      at_next = happens-plain o x B.event ∙ ap (run O x.world) B.accepted

      A1 : Alike O (has_started o (happens_named o x B.event)) (happens_named o x B.event).world (happens O y d)
      A1 = subst (λ (S : Nodes). Alike O S (happens_named o x B.event).world (happens O y d)) (sym same_names)
          (subst (λ (v : World). Alike O (has_started o x) v (happens O y d)) (sym at_next)
          (run_alike O (has_started o x) (d ∷ []) (least_started o x s) ((stays (has_started o x) d K.0, T.0, T.1), tt) x.world y s.apart
          A).1)

  -- how many lock calls are open at nodes that have started and run
  abbrev open_at : World → ℕ → ℕ
  open_at v c = when (running O v c) (length (v.node c).calls)

  abbrev named_calls : NamedWorld → ℕ
  named_calls w = sum_below O.bound (λ c. when (has_started o w c) (open_at w.world c))

  same_open : (S : Nodes) (v u : World) → Alike O S v u → (c : ℕ) → S c ≡ true → open_at u c ≡ open_at v c
  same_open S v u A c e = ap (λ (l : Nodes). when (in_world O c && not (l c)) (length (u.node c).calls)) A.departures
      ∙ ap (λ (b : Node). when (running O v c) (length b.calls)) (A.node c e)

module _ (o : NamedOpening) (es : List NamedEvent) where
  abbrev E : List WorldEvent
  E = LeftOfNames.E o es

  abbrev w : NamedWorld
  w = LeftOfNames.w o es

  abbrev S : Nodes
  S = has_started o w

  abbrev u : World
  u = LeftOfNames.u o es

  abbrev pub X : List WorldEvent
  X = E ++ LeftOfNames.F o es

  pub u_is : u ≡ world (O o) X
  u_is = sym (run-append (O o) (opening_world (O o)) E (LeftOfNames.F o es)
      ∙ ap (λ (v : World). run (O o) v (LeftOfNames.F o es)) (sym (named_runs_are_runs o es)))

  -- behind deliveries and retries there are no more of them
  module _ (ns : List NamedEvent) (k : list_all is_named_delivery_or_retry ns ≡ true) where
    abbrev x : NamedWorld
    x = run_named o w ns

    abbrev P : List WorldEvent
    P = plain_events o w ns

    L : IsLater (O o) X (X ++ P)
    L = later (O o) X P (NamedStorms.fit o es ns k).0.1

    here_at : (c : ℕ) → S c ≡ true → open_at o (world (O o) (X ++ P)) c ≡ open_at o x.world c
    here_at c e = ap (λ (v : World). open_at o v c) (sym (NamedStorms.reached o es ns k))
        ∙ same_open o S x.world (run (O o) u P) (NamedStorms.B o es ns k) c e

    there_at : (c : ℕ) → S c ≡ true → open_at o (world (O o) X) c ≡ open_at o w.world c
    there_at c e = ap (λ (v : World). open_at o v c) (sym u_is) ∙ same_open o S w.world u (NamedStorms.alike o es) c e

    per : (c : ℕ) → when (has_started o x c) (open_at o x.world c) ≤ when (S c) (open_at o w.world c)
    per c = subst (λ (Z : Nodes). when (Z c) (open_at o x.world c) ≤ when (S c) (open_at o w.world c))
        (sym (NamedStorms.fit o es ns k).1) (go (S c) refl)
      where
        go : (b : Bool) → S c ≡ b → when b (open_at o x.world c) ≤ when b (open_at o w.world c)
        go true e = subst (λ (n : ℕ). n ≤ open_at o w.world c) (here_at c e)
            (subst (λ (n : ℕ). open_at o (world (O o) (X ++ P)) c ≤ n) (there_at c e) (at_each (O o) X (X ++ P) L c))
        go false e = omega arith

    no_more_named : named_calls o x ≤ named_calls o w
    no_more_named = sum-le (O o).bound (λ c. when (has_started o x c) (open_at o x.world c)) (λ c. when (S c) (open_at o w.world c))
        (λ c l. per c)

    fewer_named : (a : ℕ) → S a ≡ true → Runs (O o) (world (O o) X) a → (p : Process) (c : LockCall)
        → call_of p ((world (O o) X).node a).calls ≡ Some c → call_of p ((world (O o) (X ++ P)).node a).calls ≡ None
        → named_calls o x < named_calls o w
    fewer_named a e up p c there gone = sum_less (O o).bound (λ c. when (has_started o x c) (open_at o x.world c))
        (λ c. when (S c) (open_at o w.world c)) a (λ c l. per c) (ltb-true a (O o).bound (and_parts _ ((O o).nodes a) up.0).0)
        (subst (λ (Z : Nodes). when (Z a) (open_at o x.world a) < when (S a) (open_at o w.world a))
        (sym (NamedStorms.fit o es ns k).1) (subst (λ (b : Bool). when b (open_at o x.world a) < when b (open_at o w.world a)) (sym e)
        (subst (λ (n : ℕ). n < open_at o w.world a) (here_at a e)
        (subst (λ (n : ℕ). open_at o (world (O o) (X ++ P)) a < n) (there_at a e) (less_at (O o) X (X ++ P) L a up p c there gone)))))

  -- in a quiet world of names
  module _ (q : IsQuiet (of_names o) w) where
    Q : IsQuiet (of_nodes (O o)) (world (O o) X)
    Q = subst (IsQuiet (of_nodes (O o))) u_is (LeftOfNames.quiet o es q)

    silent : Silent (O o) u
    silent g t gone runs = LeftOfNames.quiet o es q g t
        ((LeftOfNames.s o es).inside g (sym (LeftOfNames.left_same o es g) ∙ gone)) runs

    -- there are fewer behind some where one is ready
    less_named : SomeReady (O o) S X Q → (ns : List NamedEvent) × (list_all is_named_delivery_or_retry ns ≡ true)
        × (named_calls o (run_named o w ns) < named_calls o w)
    less_named R = (
      N.events,
      N.kinds,
      fewer_named N.events N.kinds R.0 R.1 R.2 R.3.call.holder R.3.call (opened (O o) X Q R.0 R.2 R.3)
          (subst (λ (fs : List WorldEvent). call_of R.3.call.holder ((world (O o) (X ++ fs)).node R.0).calls ≡ None) (sym N.plain) M.4),
    )
      where
        M : Less (O o) X Q R.0 R.2 R.3
        M = ready_ends (O o) X Q R.0 R.2 R.3

        N : AreByName o w M.0
        N = all_by_name o R.0 M.0 w u (LeftOfNames.s o es) R.1 (NamedStorms.alike o es) silent M.1 M.2
            (subst (λ (v : World). AreSound (O o) v M.0) (sym u_is) M.3)

    -- what is held up there is held up
    module _ (a : ℕ) (up : IsUp o w a) where
      same : (world (O o) X).node a ≡ w.world.node a
      same = ap (λ (v : World). v.node a) (sym u_is) ∙ LeftOfNames.same o es a up

      same_asks : (c : LockCall) → asks (world (O o) X) a c ≡ asks w.world a c
      same_asks c = ap (λ (v : Node). targets v.replica.members c.target) same

      asked : (c : LockCall) (x : ℕ) → asks (world (O o) X) a c x ≡ true → asks w.world a c x ≡ true
      asked c x k = ap (λ (s : Nodes). s x) (sym (same_asks c)) ∙ k

      before : (d c : LockCall) → comes_before (O o) (world (O o) X) a d c ≡ comes_before (O o) w.world a d c
      before d c = ap (λ (s : Nodes). first s (asks (world (O o) X) a c)) (same_asks d) ∙ ap (first (asks w.world a d)) (same_asks c)
        where
          first : Nodes → Nodes → Bool
          first s t = nat_lt (greatest (O o).bound s) (greatest (O o).bound t)
              || (greatest (O o).bound s == greatest (O o).bound t) && nat_lt d.holder.serial c.holder.serial

      held : (c : LockCall) → HeldUp (O o) X (world (O o) X) a c → HeldUp (O o) E w.world a c
      held c (Taken d x p i k h r n) = Taken d x p i (asked d x k)
          (subst (λ (m : ℕ). 0 < m) (LeftOfNames.counts o es p i x) h) r n
      held c (Full d x k h) = Full d x (asked d x k) (subst (λ (m : ℕ). last_count ≤ m) (LeftOfNames.counts o es d.holder d.id x) h)
      held c (Behind d e R b h) = Behind d e (same_rival (world (O o) X) w.world a same d e R) (sym (before e d) ∙ b) (held e h)

  -- behind them the world is finished, if all are held up
  module _ (t : IsSettled (of_names o) w) where
    locks : AllHeld (O o) S X (Q t.quiet) (O o).bound → (a : ℕ) (p : Process) → IsUp o w a → (C : HasOpenCall (events_played o es) a p)
        → (is_dead (w.world.node a).watch p.serial ≡ true) ⊎ IsHeldUpAt (O o) E w.world a p C.number
    locks all a p up C = go (is_dead (w.world.node a).watch p.serial) refl
      where
        at_end : world (O o) E ≡ w.world
        at_end = sym (named_runs_are_runs o es)

        go : (b : Bool) → is_dead (w.world.node a).watch p.serial ≡ b
            → (is_dead (w.world.node a).watch p.serial ≡ true) ⊎ IsHeldUpAt (O o) E w.world a p C.number
        go true i = inl i
        go false i =
            let W : (c : LockCall) × (call_of p ((world (O o) E).node a).calls ≡ Some c) × (c.number ≡ C.number) =
            waits_open (O o) E a p C (ap (λ (v : World). is_dead (v.node a).watch p.serial) at_end ∙ i) in
            let found : call_of p (w.world.node a).calls ≡ Some W.0 =
            ap (λ (v : World). call_of p (v.node a).calls) (sym at_end) ∙ W.1 in
            let there : Contains (w.world.node a).calls W.0 = call_listed p (w.world.node a).calls W.0 found in
            inr (record {
              call = W.0;
              listed = there;
              its_holder = holder_of_call p (w.world.node a).calls W.0 found;
              its_number = W.2;
              waits = (quiet_names_rest o es t.quiet).calls a W.0 up there;
              held_up = held t.quiet a up W.0 (all a (ltb-true a (O o).bound (and_parts _ ((O o).nodes a) up.inside).0) up.started
                  (subst (λ (v : World). Runs (O o) v a) u_is (up.inside, LeftOfNames.left_same o es a ∙ up.stays)) W.0
                  (subst (λ (v : Node). Contains v.calls W.0) (sym (same t.quiet a up)) there));
            })

module _ (o : NamedOpening) where
  abbrev Finished : List NamedEvent → Type 0
  Finished es = (fs : List NamedEvent) × (list_all is_named_delivery_or_retry fs ≡ true)
      × IsFinished (of_names o) (es ++ fs) (after_events o (es ++ fs))

  joined : (es fs : List NamedEvent) → list_all is_named_delivery_or_retry fs ≡ true → Finished (es ++ fs) → Finished es
  joined es fs k F = (
    fs ++ F.0,
    list_all-append is_named_delivery_or_retry fs F.0 ∙ ap (λ (b : Bool). b && list_all is_named_delivery_or_retry F.0) k ∙ F.1,
    subst (λ (ys : List NamedEvent). IsFinished (of_names o) ys (after_events o ys)) (append_assoc es fs F.0) F.2,
  )

  at_later : (es fs : List NamedEvent) → after_events o (es ++ fs) ≡ run_named o (after_events o es) fs
  at_later es fs = fold-append (happens_named o) (opening_named o) es fs

  module _ (es fs : List NamedEvent) (G : GetFree (of_names o) es (after_events o es) fs) where
    settled : IsSettled (of_names o) (after_events o (es ++ fs))
    settled = subst (IsSettled (of_names o)) (sym (at_later es fs)) G.settled

    ended : AllHeld (O o) (has_started o (after_events o (es ++ fs))) (X o (es ++ fs)) (Q o (es ++ fs) settled.quiet) (O o).bound
        → IsFinished (of_names o) (es ++ fs) (after_events o (es ++ fs))
    ended held = record {
      settled = settled;
      free = λ c up. subst (λ (v : NamedWorld). IsUp o v c → (v.world.node c).current ≡ Current.Free) (sym (at_later es fs)) (G.free c) up;
      idle = λ c up. subst (λ (v : NamedWorld). IsUp o v c → (v.world.node c).queue ≡ []) (sym (at_later es fs)) (G.idle c) up;
      answered = subst (λ (v : NamedWorld). NameCallsAreAnswered (IsUp o v) (events_played o (es ++ fs))) (sym (at_later es fs))
          G.answered;
      locks = locks o (es ++ fs) settled held;
    }

  finish_by : (n : ℕ) → ((es : List NamedEvent) → named_calls o (after_events o es) < n → Finished es) → (es : List NamedEvent)
      → named_calls o (after_events o es) ≤ n → Finished es
  finish_by n more es l = go (names_get_free o es)
    where
      go : (fs : List NamedEvent) × GetFree (of_names o) es (after_events o es) fs → Finished es
      go (fs, G) = joined es fs G.kinds (elim (nodes_held (O o) (has_started o (after_events o (es ++ fs))) (X o (es ++ fs))
          (Q o (es ++ fs) (settled es fs G).quiet) (O o).bound) [
            | inl R ↦
                let M : named_calls o (after_events o (es ++ fs)) ≤ named_calls o (after_events o es) =
                subst (λ (v : NamedWorld). named_calls o v ≤ named_calls o (after_events o es)) (sym (at_later es fs))
                (no_more_named o es fs G.kinds) in
                let N : (ns : List NamedEvent) × (list_all is_named_delivery_or_retry ns ≡ true)
                × (named_calls o (run_named o (after_events o (es ++ fs)) ns) < named_calls o (after_events o (es ++ fs))) =
                less_named o (es ++ fs) (settled es fs G).quiet R in
                let less : named_calls o (after_events o ((es ++ fs) ++ N.0)) < named_calls o (after_events o (es ++ fs)) =
                subst (λ (v : NamedWorld). named_calls o v < named_calls o (after_events o (es ++ fs)))
                (sym (at_later (es ++ fs) N.0)) N.2 in
                joined (es ++ fs) N.0 N.1 (more ((es ++ fs) ++ N.0) (omega (arith, less, M, l)))
            | inr held ↦ (
              [],
              refl,
              subst (λ (zs : List NamedEvent). IsFinished (of_names o) zs (after_events o zs)) (sym (append-nil (es ++ fs)))
                  (ended es fs G held),
            )
          ])

  finish : (n : ℕ) (es : List NamedEvent) → named_calls o (after_events o es) ≤ n → Finished es
  finish zero es l = finish_by zero (λ xs k. absurd (omega (arith, k))) es l
  finish (suc m) es l = finish_by (suc m) (λ xs k. finish m xs (omega (arith, k))) es l

pub no_dead_end_of_names : OfNames NoDeadEnd
no_dead_end_of_names o es = (
  F.0,
  record {
    kinds = F.1;
    finished = subst (IsFinished (of_names o) (es ++ F.0)) (at_later o es F.0) F.2;
  },
)
  where
    F : Finished o es
    F = finish o (named_calls o (after_events o es)) es (omega arith)
