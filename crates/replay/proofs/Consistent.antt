-- Consistent ends are never torn.
use Rattle.std.proofs.Common.{ℕ, zero, suc, Bool, true, false, ◌==◌, ◌≡◌, inl, inr, Option, Some, None, List, [], ◌∷◌, ◌++◌, length, map, filter, refl, sym, ap, subst, ◌∙◌}
use Rattle.std.specs.Prelude.{if◌then◌else◌, ◌||◌, ◌&&◌, not, nat_lt, All}
use Rattle.std.specs.List.{slice_get, list_all}
use Rattle.std.specs.Option.{option_map}
use Rattle.std.proofs.lemmas.List.{append-nil, append_assoc, length-map, map-append}
use Rattle.std.proofs.lemmas.List.Elements.{All-nil, All-cons, All-head, All-tail}
use Rattle.std.proofs.lemmas.List.Sums.{fold-append}
use Rattle.std.proofs.lemmas.Option.{slice_get-map}
use Rattle.protocol_model.specs.Event.{Refusal, NoSuchNode, NodeLeft, NoSuchProcess, AlreadyExited, Cause, cause, first_cause}
use Rattle.protocol_model.specs.Registrar.{registrar}
use Rattle.protocol_model.specs.NamedEvents.{NamedEvent, Plain}
use Rattle.protocol_model.specs.Node.{Node}
use Rattle.protocol_model.specs.Watch.{is_issued, is_dead}
use Rattle.protocol_model.specs.World.{Opening, World, WorldEvent, in_world, left, place, other, local_causes, opening_world, refusal, happens, run}
use Rattle.cluster_world.specs.NodeNames.{NamedOpening}
use Rattle.cluster_world.specs.NamedWorld.{NamedWorld, opening_named, named_refusal, named_answers, run_named}
use Rattle.cluster_world.specs.NobodyBack.{first_opening, as_named, is_among_first, named_world, AreAlike}
use Rattle.cluster_world.proofs.NobodyBack.{nobody_came_back}
use Rattle.term.specs.Nodes.{IsFirst}
use Rattle.cluster_world.specs.WorldState.{WorldState}
use Rattle.cluster_world.specs.Openings.{named_opening}
use Rattle.cluster_world.specs.Seen.{names_of, seen}
use Rattle.closings.specs.Alone.{LogEntry as Alone}
use Rattle.closings.specs.Laws.{ConsistentEnds, PlaysToEnd}
use Rattle.closings.specs.Merging as alone
use Rattle.closings.proofs.Merged.{consistent_ends_play}
use Rattle.closings.proofs.Onward.{consistent_ends_go_on}
use Rattle.node_log.specs.declared.WorldEvent.{WorldEvent as Event}
use Rattle.node_log.specs.declared.WorldEvent.TheVariants.{At, Deliver, Restart}
use Rattle.node_log.specs.Events.{event_of, named_event}
use Rattle.node_log.specs.Entries.{SeatedEntry, Logged}
use Rattle.node_log.specs.declared.transcript.Transcript.{Transcript}
use Rattle.replay.specs.declared.faults.CloseFault.{CloseFault}
use Rattle.replay.specs.declared.faults.CloseFault.TheVariants.{Torn, LeftInHold, Stranger, Memory}
use Rattle.node_log.specs.Seen.{seen_entry}
use Rattle.replay.specs.Consistent.{seen_logs, AreConsistent, is_torn}
use Rattle.replay.specs.Ends.{End, logs_of, is_lesser, HasTableOf}
use Rattle.replay.specs.Least.{IsLeastOther}
use Rattle.replay.specs.Merging.{IsInOrder, IsMerged, IsNext, Rises, RisesBehind}
use Rattle.replay.specs.Playing.{Takes, AreTaken, IsStuck, world_behind}
use Rattle.replay.specs.Replaying.{IsFault, HasOtherTable}
use Rattle.replay.specs.Steps.{Step, happening, steps_of, log_of, next_of, events_in, is_restart}
use Rattle.replay.proofs.FirstNodes.{first_is}

some_one : {X : Type 0} (x y : X) → Some x ≡ Some y → x ≡ y
some_one x y e = cc

-- a step, as the protocol has it
abbrev seen_step : Step → alone.Step
seen_step s = record { node = s.node; entry = seen_entry s.entry }

-- the steps of a node
steps_seen : (a : ℕ) (ss : List Step) → alone.steps_of a (map seen_step ss) ≡ map seen_entry (steps_of a ss)
steps_seen a [] = refl
steps_seen a (s ∷ ss) = go (s.node == a) (steps_seen a ss)
  where
    go : (b : Bool) → alone.steps_of a (map seen_step ss) ≡ map seen_entry (steps_of a ss)
        → map (λ (r : alone.Step). r.entry)
        (if b then seen_step s ∷ filter (λ (r : alone.Step). r.node == a) (map seen_step ss) else filter
        (λ (r : alone.Step). r.node == a) (map seen_step ss))
        ≡ map seen_entry (map (λ (r : Step). r.entry)
        (if b then s ∷ filter (λ (r : Step). r.node == a) ss else filter (λ (r : Step). r.node == a) ss))
    go true h = ap (λ (es : List Alone). seen_entry s.entry ∷ es) h
    go false h = h

-- how many they are
count_seen : (a : ℕ) (ss : List Step) → length (alone.steps_of a (map seen_step ss)) ≡ length (steps_of a ss)
count_seen a ss = ap (λ (es : List Alone). length es) (steps_seen a ss) ∙ length-map (steps_of a ss) seen_entry

-- what a log has next
next_seen : (a : ℕ) (logs : List Logged) (ss : List Step)
    → alone.next_of a (seen_logs logs) (map seen_step ss) ≡ option_map seen_entry (next_of a logs ss)
next_seen a logs ss = ap (λ (n : ℕ). slice_get (seen_logs logs a) n) (count_seen a ss)
    ∙ slice_get-map seen_entry (log_of a logs) (length (steps_of a ss))

-- which step comes next
is_next_seen : (logs : List Logged) (ss : List Step) (s : Step) → IsNext logs ss s
    → alone.IsNext (seen_logs logs) (map seen_step ss) (seen_step s)
is_next_seen logs ss s N = record {
  head = next_seen s.node logs ss ∙ ap (option_map seen_entry) N.head;
  least = λ t next. go t (next_of t.node logs ss) refl (sym (next_seen t.node logs ss) ∙ next);
}
  where
    go : (t : alone.Step) (o : Option SeatedEntry) → next_of t.node logs ss ≡ o → option_map seen_entry o ≡ Some t.entry
        → alone.is_before t (seen_step s) ≡ false
    go t None is e = cc
    go t (Some x) is e =
        ap (λ (d : Alone). alone.is_before (record { node = t.node; entry = d }) (seen_step s))
        (sym (some_one (seen_entry x) t.entry e))
        ∙ N.least (record { node = t.node; entry = x }) is

-- and which came next
taken_seen : (logs : List Logged) (o : NamedOpening) (before ss : List Step) → AreTaken logs o before ss
    → alone.AreNext (seen_logs logs) (map seen_step before) (map seen_step ss)
taken_seen logs o before [] T = tt
taken_seen logs o before (s ∷ ss) T = (
  is_next_seen logs before s T.0,
  subst (λ (bs : List alone.Step). alone.AreNext (seen_logs logs) bs (map seen_step ss)) (map-append seen_step before (s ∷ []))
      (taken_seen logs o (before ++ s ∷ []) ss T.3),
)

-- whether a stamp rises
rises_seen : (es : List SeatedEntry) (k : ℕ) → alone.Rises (map seen_entry es) k → Rises es k
rises_seen es zero r = tt
rises_seen es (suc k) r = λ d e here next.
    r (seen_entry d) (seen_entry e) (slice_get-map seen_entry es k ∙ ap (option_map seen_entry) here)
    (slice_get-map seen_entry es (suc k) ∙ ap (option_map seen_entry) next)

behind_seen : (logs : List Logged) (ss : List Step) (s : Step) → alone.RisesBehind (seen_logs logs) (map seen_step ss) (seen_step s)
    → RisesBehind logs ss s
behind_seen logs ss s r = rises_seen (log_of s.node logs) (length (steps_of s.node ss))
    (subst (λ (n : ℕ). alone.Rises (seen_logs logs s.node) n) (count_seen s.node ss) r)

-- logs that are merged
order_seen : (ss : List Step) → IsInOrder ss → alone.IsInOrder (map seen_step ss)
order_seen [] T = tt
order_seen (s ∷ []) T = tt
order_seen (s ∷ t ∷ ss) T = (T.0, order_seen (t ∷ ss) T.1)

merged_seen : (logs : List Logged) (ss : List Step) → IsMerged logs ss → alone.IsMerged (seen_logs logs) (map seen_step ss)
merged_seen logs ss M = record {
  order = order_seen ss M.order;
  whole = λ a. steps_seen a ss ∙ ap (λ (es : List SeatedEntry). map seen_entry es) (M.whole a);
}

-- what holds of all of two lists holds of the first
All-first : (P : ℕ → Type 0) (xs ys : List ℕ) → All P (xs ++ ys) → All P xs
All-first P [] ys all = All-nil P
All-first P (x ∷ xs) ys all = All-cons P x xs (All-head P x (xs ++ ys) all) (All-first P xs ys (All-tail P x (xs ++ ys) all))

-- one step more came next
next_push : (logs : ℕ → List Alone) (x before : List alone.Step) (s : alone.Step) → alone.AreNext logs x before
    → alone.IsNext logs (x ++ before) s → alone.AreNext logs x (before ++ s ∷ [])
next_push logs x [] s T n = (subst (λ (ys : List alone.Step). alone.IsNext logs ys s) (append-nil x) n, tt)
next_push logs x (b ∷ before) s T n = (
  T.0,
  next_push logs (x ++ b ∷ []) before s T.1
      (subst (λ (ys : List alone.Step). alone.IsNext logs ys s) (sym (append_assoc x (b ∷ []) before)) n),
)

-- the world behind one step more
world_on : (o : Opening) (before : List alone.Step) (s : alone.Step)
    → alone.world_behind o (before ++ s ∷ []) ≡ happens o (alone.world_behind o before) (alone.happening s)
world_on o before s = ap (λ (es : List WorldEvent). run o (opening_world o) es) (map-append alone.happening before (s ∷ []))
    ∙ fold-append (happens o) (opening_world o) (alone.events_in before) (alone.happening s ∷ [])

-- the nodes of an event that a world accepts are its own
among : (o : Opening) (w : World) (e : WorldEvent) → refusal o w e ≡ None → (in_world o (place e) && in_world o (other e)) ≡ true
among o w e is = go (in_world o (place e)) (in_world o (other e)) is
  where
    go : (a b : Bool) → first_cause (cause (not a || not b) NoSuchNode ∷ cause (left w (place e)) NodeLeft ∷ local_causes w e) ≡ None
        → (a && b) ≡ true
    go true true i = refl
    go true false i = cc
    go false b i = cc

-- a restart is none of them
never_restarts : (o : Opening) (w : World) (e : Event) → refusal o w (event_of e) ≡ None → is_restart e ≡ false
never_restarts o w (At a d) is = refl
never_restarts o w (Deliver f t) is = refl
never_restarts o w (Restart x) is = absurd (issued (x == x) (nat_lt (w.node x).watch.last_serial 0)
    (third (not (in_world o x) || not (in_world o x)) (left w x) (is_issued x (w.node x).watch (registrar x)) NoSuchNode NodeLeft
    NoSuchProcess (cause (is_dead (w.node x).watch 0) AlreadyExited ∷ []) is))
  where
    third : (a b c : Bool) (r s t : Refusal) (cs : List Cause)
        → first_cause (cause a r ∷ cause b s ∷ cause (not c) t ∷ cs) ≡ None → c ≡ true
    third true b c r s t cs i = cc
    third false true c r s t cs i = cc
    third false false true r s t cs i = refl
    third false false false r s t cs i = cc

    issued : (b d : Bool) → ((b && not (0 == 0)) && not d) ≡ true → ⊥
    issued true d i = cc
    issued false d i = cc

-- any other event is seen the same in both worlds
event_same : (nodes cluster : List ℕ) (e : Event) → is_restart e ≡ false
    → named_event e ≡ as_named (named_opening nodes cluster) (event_of e)
event_same nodes cluster (At a d) stays = refl
event_same nodes cluster (Deliver f t) stays = refl
event_same nodes cluster (Restart x) stays = cc

module _ (names : NamedOpening) where
  -- the events of steps that the world of first nodes takes are those of first nodes
  among_first : (w : World) (e : WorldEvent) → refusal (first_opening names) w e ≡ None → is_among_first names e ≡ true
  among_first w e is = among (first_opening names) w e is

  all_first : (w : World) (ss : List alone.Step) → alone.TakesAll (first_opening names) w ss
      → list_all (is_among_first names) (alone.events_in ss) ≡ true
  all_first w [] T = refl
  all_first w (s ∷ ss) T = both (among_first w (alone.happening s) T.0.accepted)
      (all_first (happens (first_opening names) w (alone.happening s)) ss T.1)
    where
      both : {a b : Bool} → a ≡ true → b ≡ true → (a && b) ≡ true
      both {a} {b} e f = ap (λ (x : Bool). x && b) e ∙ f

-- and they are the same in both worlds
events_same : (nodes cluster : List ℕ) (w : World) (ss : List Step)
    → alone.TakesAll (first_opening (named_opening nodes cluster)) w (map seen_step ss)
    → events_in ss ≡ map (as_named (named_opening nodes cluster)) (alone.events_in (map seen_step ss))
events_same nodes cluster w [] T = refl
events_same nodes cluster w (s ∷ ss) T =
    ap (λ (e : NamedEvent). e ∷ events_in ss) (event_same nodes cluster s.entry.event
    (never_restarts (first_opening (named_opening nodes cluster)) w s.entry.event T.0.accepted))
    ∙ ap (λ (es : List NamedEvent). as_named (named_opening nodes cluster) (event_of s.entry.event) ∷ es)
    (events_same nodes cluster (happens (first_opening (named_opening nodes cluster)) w (event_of s.entry.event)) ss T.1)

module _ (cluster lone : List ℕ) (first : All IsFirst (cluster ++ lone)) (ends : List End) (C : AreConsistent cluster lone ends) where
  abbrev logs : ℕ → List Alone
  logs = seen_logs (logs_of ends)

  abbrev names : NamedOpening
  names = named_opening (cluster ++ lone) cluster

  abbrev o : Opening
  o = first_opening names

  consistent : ConsistentEnds o logs C.tables
  consistent = subst (λ (p : Opening). ConsistentEnds p logs C.tables) (sym
      (first_is (cluster ++ lone) cluster first (All-first IsFirst cluster lone first))) C.consistent

  -- the world of first nodes takes the steps that come next
  all_taken : (before ss : List alone.Step) → alone.AreNext logs [] before → alone.AreNext logs before ss
      → alone.TakesAll o (alone.world_behind o before) ss
  all_taken before [] first T = tt
  all_taken before (s ∷ ss) first T = (
    (consistent_ends_go_on o logs C.tables before s consistent first T.0).1,
    subst (λ (w : World). alone.TakesAll o w ss) (world_on o before s)
        (all_taken (before ++ s ∷ []) ss (next_push logs [] before s first T.0) T.1),
  )

  -- and the world of named nodes does as that one
  module _ (ss : List Step) (T : alone.TakesAll o (opening_world o) (map seen_step ss)) where
    alike : AreAlike names (alone.events_in (map seen_step ss))
    alike = nobody_came_back names (alone.events_in (map seen_step ss)) (all_first names (opening_world o) (map seen_step ss) T)

    world_same : world_behind names ss ≡ named_world names (alone.events_in (map seen_step ss))
    world_same = ap (λ (es : List NamedEvent). run_named names (opening_named names) es)
        (events_same (cluster ++ lone) cluster (opening_world o) ss T)

    takes_same : (s : Step) → alone.Takes o (alone.world_behind o (map seen_step ss)) (seen_step s) → Takes names (world_behind names ss) s
    takes_same s t = record {
      own = t.own;
      stays = stays;
      accepted = ap (λ (w : NamedWorld). named_refusal names w (happening s)) world_same ∙ ap (named_refusal names there) same
          ∙ alike.refusals (event_of s.entry.event) among ∙ ap (option_map Plain) t.accepted;
      answers = t.answers ∙ sym (ap (λ (w : NamedWorld). named_answers names w (happening s)) world_same
          ∙ ap (named_answers names there) same ∙ alike.answers (event_of s.entry.event) among);
    }
      where
        there : NamedWorld
        there = named_world names (alone.events_in (map seen_step ss))

        stays : is_restart s.entry.event ≡ false
        stays = never_restarts o (alone.world_behind o (map seen_step ss)) s.entry.event t.accepted

        same : happening s ≡ as_named names (event_of s.entry.event)
        same = event_same (cluster ++ lone) cluster s.entry.event stays

        among : is_among_first names (event_of s.entry.event) ≡ true
        among = among_first names (alone.world_behind o (map seen_step ss)) (event_of s.entry.event) t.accepted

  -- it is not stuck in the logs
  not_stuck : (h : WorldState) (a k : ℕ) → names_of h ≡ names → IsStuck (logs_of ends) (names_of h) a k → ⊥
  not_stuck h a k same S = stuck (subst (λ (n : NamedOpening). IsStuck (logs_of ends) n a k) same S)
    where
      stuck : IsStuck (logs_of ends) names a k → ⊥
      stuck T =
          let next = taken_seen (logs_of ends) names [] T.steps T.taken in
          let goes = consistent_ends_go_on o logs C.tables (map seen_step T.steps) (seen_step T.step) consistent next
          (is_next_seen (logs_of ends) T.steps T.step T.next) in
          T.refused (behind_seen (logs_of ends) T.steps T.step goes.0)
          (takes_same T.steps (all_taken [] (map seen_step T.steps) tt next) T.step goes.1)

  -- and its tables are those of the ends
  no_other : (a k : ℕ) → HasOtherTable cluster lone ends a k → ⊥
  no_other a k H = L.other (C.theirs H.other.place L.item L.within L.here
      ∙ sym (plays.last L.item.log.node)
      ∙ sym (ap (λ (v : Node). v.replica.table) ((alike H.steps plays.takes).nodes L.item.log.node))
      ∙ sym (ap (λ (w : NamedWorld). (w.world.node L.item.log.node).replica.table) (H.out.run.agrees.is_run
      ∙ ap (λ (n : NamedOpening). world_behind n H.steps) H.out.opens ∙ world_same H.steps plays.takes)))
    where
      L : IsLeastOther (HasTableOf (seen H.world)) is_lesser ends (length ends) H.other.place
      L = H.other.least

      plays : PlaysToEnd o C.tables (map seen_step H.steps)
      plays = consistent_ends_play o logs C.tables (map seen_step H.steps) consistent
          (merged_seen (logs_of ends) H.steps H.out.merged)

-- so the run isn't torn
pub never_torn : (cluster lone : List ℕ) (ends : List End) (ts : List Transcript) (fault : CloseFault) → All IsFirst (cluster ++ lone)
    → IsFault cluster lone ends ts fault → is_torn fault ≡ true → AreConsistent cluster lone ends → ⊥
never_torn cluster lone ends ts (Torn a k) first F torn C = elim F.1 [
  | inl stop ↦ not_stuck cluster lone first ends C stop.opening a k stop.opens stop.stuck
  | inr other ↦ no_other cluster lone first ends C a k other
]
never_torn cluster lone ends ts (LeftInHold a) first F torn C = cc
never_torn cluster lone ends ts (Stranger seat) first F torn C = cc
never_torn cluster lone ends ts Memory first F torn C = cc
