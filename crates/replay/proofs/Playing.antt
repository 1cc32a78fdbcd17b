-- A world that takes one step more.
use Rattle.std.proofs.Common.{ℕ, false, ◌≡◌, ◌+◌, Some, None, set, get_or, List, [], ◌∷◌, ◌++◌, length, map, refl, sym, ap, subst, ◌∙◌}
use Rattle.std.proofs.lemmas.List.{map-append}
use Rattle.std.specs.List.{slice_get}
use Rattle.node_log.specs.Openings.{repeats}
use Rattle.replay.specs.Steps.{steps_of}
use Rattle.protocol_model.specs.NamedEvents.{NamedEvent}
use Rattle.cluster_world.specs.NodeNames.{NamedOpening}
use Rattle.cluster_world.specs.NamedWorld.{NamedWorld, opening_named, happens_named, run_named, as_events}
use Rattle.cluster_world.specs.WorldState.{WorldState}
use Rattle.cluster_world.specs.Agreeing.{AgreesAfter}
use Rattle.cluster_world.specs.Locks.{LocksAfter}
use Rattle.cluster_world.specs.Playing.{Keeps}
use Rattle.cluster_world.specs.Seen.{names_of, opening_of, seen, named}
use Rattle.cluster_world.proofs.Leftovers.{nothing_left}
use Rattle.node_log.specs.Entries.{SeatedEntry, Logged}
use Rattle.replay.specs.declared.merge.Reader.{Reader}
use Rattle.replay.specs.Merging.{IsNext, Rises, RisesBehind}
use Rattle.replay.specs.Moves.{Moves, MovesReader, StopsReader}
use Rattle.replay.specs.Playing.{Takes, TakesAll, IsRun, AreTaken, world_behind}
use Rattle.replay.specs.Reading.{StandBehind, head_of, step_of, goes_first}
use Rattle.replay.specs.Steps.{Step, happening, events_in}
use Rattle.replay.specs.declared.faults.CloseFault.{CloseFault}
use Rattle.replay.specs.declared.faults.CloseFault.TheVariants.{Torn, LeftInHold, Stranger, Memory}
use Rattle.std.proofs.lemmas.Option.{slice_get_within, slice_get_read}
use Rattle.registry_model.specs.Table.{Table}
use Rattle.node_log.specs.declared.node_end.NodeEnd.{NodeEnd}
use Rattle.replay.specs.Ends.{end_of, logs_of}
use Rattle.std.specs.Prelude.{Option, IfSome, ◌<◌}
use Rattle.replay.specs.Least.{AllSuch, IsLeastOther}
use Rattle.replay.specs.Replaying.{RunsThrough, StopsLogs}
use Rattle.replay.proofs.Merging.{taken_push, length-push, all_merged}
use Rattle.replay.proofs.Reading.{own_log, comes_next, read_on, all_read}

-- so far these logs were played
pub record SoFar (logs : List Logged) (old : WorldState) (events : ℕ) (new : WorldState) (rs : List Reader) : Type 0 where
  pub steps : List Step
  pub count : events ≡ length steps
  pub taken : AreTaken logs (names_of old) [] steps
  pub kept : Keeps old new
  pub run : IsRun steps new
  pub stand : StandBehind logs steps rs

takes_all : (o : NamedOpening) (w : NamedWorld) (ss : List Step) (s : Step) → TakesAll o w ss
    → Takes o (run_named o w (events_in ss)) s
    → TakesAll o w (ss ++ s ∷ [])
takes_all o w [] s all t = (t, tt)
takes_all o w (r ∷ ss) s all t = (all.0, takes_all o (happens_named o w (happening r)) ss s all.1 t)

events_push : (ss : List Step) (s : Step) → events_in (ss ++ s ∷ []) ≡ events_in ss ++ happening s ∷ []
events_push ss s = map-append happening ss (s ∷ [])

-- what the world is behind a run
pub is_behind : (ss : List Step) (h : WorldState) → IsRun ss h → named h ≡ world_behind (names_of h) ss
is_behind ss h R = R.agrees.is_run

pub kept_on : (old mid new : WorldState) → Keeps old mid → Keeps mid new → Keeps old new
kept_on old mid new K L = record { names = L.names ∙ K.names; cluster = L.cluster ∙ K.cluster }

-- a run goes on by a step that the world takes
pub run_on : (ss : List Step) (s : Step) (old new : WorldState) → IsRun ss old → Moves s old new → IsRun (ss ++ s ∷ []) new
run_on ss s old new R M = record {
  takes = subst (λ (o : NamedOpening). TakesAll o (opening_named o) (ss ++ s ∷ [])) (sym M.kept.names)
      (takes_all (names_of old) (opening_named (names_of old)) ss s R.takes
      (subst (λ (w : NamedWorld). Takes (names_of old) w s) (is_behind ss old R) M.takes));
  agrees = agrees;
  locks = subst (λ (es : List NamedEvent). LocksAfter (opening_of new) (as_events (names_of new) es) (seen new))
      (sym (events_push ss s)) (M.locks (events_in ss) R.agrees.is_run);
  leaves_nothing = nothing_left (events_in (ss ++ s ∷ [])) new agrees;
}
  where
    agrees : AgreesAfter (events_in (ss ++ s ∷ [])) new
    agrees = subst (λ (es : List NamedEvent). AgreesAfter es new) (sym (events_push ss s))
        (M.agrees (events_in ss) R.agrees.is_run).0

-- the world behind these steps of a world that opened so
pub behind : (logs : List Logged) (old : WorldState) (events : ℕ) (mid : WorldState) (rs : List Reader) (S : SoFar logs old events mid rs)
    → named mid ≡ world_behind (names_of old) S.steps
behind logs old events mid rs S =
    is_behind S.steps mid S.run ∙ ap (λ (o : NamedOpening). world_behind o S.steps) S.kept.names

-- one step more was played
pub so_far_more : (logs : List Logged) (old mid new : WorldState) (events : ℕ) (rs qs : List Reader) (S : SoFar logs old events mid rs) (s : Step)
    → IsNext logs S.steps s → RisesBehind logs S.steps s → Moves s mid new → StandBehind logs (S.steps ++ s ∷ []) qs
    → SoFar logs old (events + 1) new qs
so_far_more logs old mid new events rs qs S s next up M stand = record {
  steps = S.steps ++ s ∷ [];
  count = ap (λ (n : ℕ). n + 1) S.count ∙ sym (length-push S.steps s);
  taken = taken_push logs (names_of old) S.steps s S.taken next up
      (subst (λ (w : NamedWorld). Takes (names_of old) w s) (behind logs old events mid rs S)
      (subst (λ (o : NamedOpening). Takes o (named mid) s) S.kept.names M.takes));
  kept = kept_on old mid new S.kept M.kept;
  run = run_on S.steps s mid new S.run M;
  stand = stand;
}

module _ (logs : List Logged) (once : repeats (map (λ (l : Logged). l.node) logs) ≡ false) (old : WorldState) (events : ℕ) (mid : WorldState) (rs : List Reader) (S : SoFar logs old events mid rs) where
  -- no entry is left: all was played
  pub run_through : AllSuch (λ (r : Reader). head_of r ≡ None) rs (length rs) → RunsThrough logs events old mid
  run_through none = record {
    steps = S.steps;
    count = S.count;
    merged = all_merged logs (names_of old) S.steps S.taken (all_read logs once S.steps rs S.stand none);
    kept = S.kept;
    run = S.run;
  }

  -- the stamp of what a reader has next rises behind these steps, where it rises in the log that it reads
  rising : (k : ℕ) (r : Reader) (e : SeatedEntry) → slice_get rs k ≡ Some r
      → RisesBehind logs S.steps (step_of r e) ≡ Rises r.log.now.entries r.at
  rising k r e h = ap (λ (es : List SeatedEntry). Rises es (length (steps_of r.log.now.node S.steps)))
      (own_log logs once S.steps rs S.stand k r h)
      ∙ ap (Rises r.log.now.entries) (sym (S.stand.at k r h))

  -- the step that came next was played
  pub played_next : (k : ℕ) (L : IsLeastOther (λ (r : Reader). head_of r ≡ None) goes_first rs (length rs) k) (e : SeatedEntry) (new : WorldState)
      → head_of L.item ≡ Some e → MovesReader L.item mid new
      → SoFar logs old (events + 1) new (set rs k (record L.item { at = L.item.at + 1 }))
  played_next k L e new h M = so_far_more logs old mid new events rs (set rs k (record L.item { at = L.item.at + 1 })) S
      (step_of L.item e)
      (comes_next logs once S.steps rs S.stand k L e h)
      (subst (λ (T : Type 0). T) (sym (rising k L.item e L.here)) (M e h).0) (M e h).1
      (read_on logs once S.steps rs S.stand k L.item e L.here)

  -- or it wasn't
  pub stuck_next : (fault : CloseFault) (k : ℕ) (L : IsLeastOther (λ (r : Reader). head_of r ≡ None) goes_first rs (length rs) k)
      → StopsReader fault L.item mid → StopsLogs fault logs (names_of old)
  stuck_next (Torn a at) k L h = record {
    steps = S.steps;
    taken = S.taken;
    step = step_of L.item h.2;
    next = comes_next logs once S.steps rs S.stand k L h.2 h.3;
    whose = sym h.0;
    place = h.1 ∙ S.stand.at k L.item L.here ∙ ap (λ (c : ℕ). length (steps_of c S.steps)) (sym h.0);
    refused = λ up takes. h.4 (subst (λ (T : Type 0). T) (rising k L.item h.2 L.here) up)
        (subst (λ (w : NamedWorld). Takes (names_of mid) w (step_of L.item h.2)) (sym (behind logs old events mid rs S))
        (subst (λ (o : NamedOpening). Takes o (world_behind (names_of old) S.steps) (step_of L.item h.2)) (sym S.kept.names)
        takes));
  }
  stuck_next (LeftInHold a) k L h = h
  stuck_next (Stranger seat) k L h = h
  stuck_next Memory k L h = tt

  some_entry : (o : Option SeatedEntry) → (o ≡ None → ⊥) → (e : SeatedEntry) × (o ≡ Some e)
  some_entry None h = absurd (h refl)
  some_entry (Some e) h = (e, refl)

  same_item : (k : ℕ) (L : IsLeastOther (λ (r : Reader). head_of r ≡ None) goes_first rs (length rs) k) (r : Reader)
      → slice_get rs k ≡ Some r → L.item ≡ r
  same_item k L r h = some_one L.item r (sym L.here ∙ h)
    where
      some_one : (x y : Reader) → Some x ≡ Some y → x ≡ y
      some_one x y e = cc

  -- the first reader has an entry left
  pub has_entry : (k : ℕ) (L : IsLeastOther (λ (r : Reader). head_of r ≡ None) goes_first rs (length rs) k)
      → IfSome (slice_get rs k) (λ r. r.at < length r.log.now.entries)
  has_entry k L =
      subst (λ (o : Option Reader). IfSome o (λ r. r.at < length r.log.now.entries)) (sym L.here)
      (let e = some_entry (head_of L.item) L.other in slice_get_within L.item.log.now.entries L.item.at e.0 e.1)

  pub played_at : (k : ℕ) (L : IsLeastOther (λ (r : Reader). head_of r ≡ None) goes_first rs (length rs) k) (r : Reader)
      → slice_get rs k ≡ Some r → (new : WorldState) → MovesReader r mid new → (qs : List Reader)
      → qs ≡ set rs k (record r { at = r.at + 1 }) → SoFar logs old (events + 1) new qs
  played_at k L r h new M qs is =
      subst (SoFar logs old (events + 1) new) (sym is)
      (subst (λ (x : Reader). MovesReader x mid new → SoFar logs old (events + 1) new (set rs k (record x { at = x.at + 1 })))
      (same_item k L r h) (λ N. let e = some_entry (head_of L.item) L.other in played_next k L e.0 new e.1 N) M)

  pub stuck_at : (fault : CloseFault) (k : ℕ) (L : IsLeastOther (λ (r : Reader). head_of r ≡ None) goes_first rs (length rs) k)
      (r : Reader) → slice_get rs k ≡ Some r → StopsReader fault r mid → StopsLogs fault logs (names_of old)
  stuck_at fault k L r h stop =
      stuck_next fault k L (subst (λ (x : Reader). StopsReader fault x mid) (sym (same_item k L r h)) stop)

-- the nodes of the logs are those of the ends
pub nodes_are : {N M : Type 0} (contents : N → Table) (ends : List (NodeEnd N Logged M))
    → map (λ (l : Logged). l.node) (logs_of (map (end_of contents) ends)) ≡ map (λ (e : NodeEnd N Logged M). e.log.node) ends
nodes_are contents [] = refl
nodes_are contents (e ∷ es) = ap (λ (ns : List ℕ). e.log.node ∷ ns) (nodes_are contents es)

-- what is read at a place of these readers
pub item_here : (rs qs : List Reader) (k : ℕ) (r : Reader) → qs ≡ rs → k < length qs → r ≡ get_or rs k r → slice_get rs k ≡ Some r
item_here rs qs k r same l is =
    slice_get_read rs (length rs) k r refl (subst (λ (xs : List Reader). k < length xs) same l) is
