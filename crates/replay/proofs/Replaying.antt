-- What a replay comes to, put together.
use Rattle.std.proofs.Common.{ℕ, true, false, [], get_or, ◌==◌, ◌≡◌, refl, ◌∙◌, inl, inr, Some, List, ◌++◌, length, map, sym, ap, subst}
use Rattle.std.proofs.lemmas.Option.{slice_get-map, slice_get-get_or}
use Rattle.std.specs.List.{slice_get}
use Rattle.std.specs.Option.{option_map}
use Rattle.std.proofs.lemmas.Bool.{eq-eqb}
use Rattle.std.specs.Prelude.{All}
use Rattle.protocol_model.specs.World.{World}
use Rattle.term.specs.NodeSets.{set_of}
use Rattle.cluster_world.proofs.Leftovers.{nothing_left}
use Rattle.cluster_world.specs.WorldState.{WorldState, nodes_of}
use Rattle.cluster_world.specs.Playing.{Keeps}
use Rattle.cluster_world.specs.Seen.{names_of, opening_of, seen}
use Rattle.node_log.specs.Openings.{repeats}
use Rattle.cluster_world.specs.Agreeing.{AgreesAfter}
use Rattle.cluster_world.specs.Locks.{LocksAfter}
use Rattle.node_log.specs.Entries.{SeatedEntry, Logged}
use Rattle.node_log.specs.declared.node_end.NodeEnd.{NodeEnd}
use Rattle.node_log.specs.declared.transcript.Transcript.{Transcript}
use Rattle.replay.specs.declared.faults.CloseFault.{CloseFault}
use Rattle.replay.specs.declared.faults.CloseFault.TheVariants.{Torn, LeftInHold, Stranger, Memory}
use Rattle.replay.specs.Ends.{End, logs_of, is_lesser, EndedWell, HasTableOf}
use Rattle.replay.specs.Least.{AllSuch, IsLeastOther}
use Rattle.replay.specs.Playing.{IsRun}
use Rattle.replay.specs.Replaying.{Opens, AreAll, IsFault, IsLeastEnd, PlaysOut, Replayed, RunsThrough, StopsLogs, Differs}
use Rattle.replay.specs.Steps.{log_of}
use Rattle.replay.specs.Transcripts.{Fits, has_lesser_seat}
use Rattle.cluster_world.specs.NodeNames.{NamedOpening}
use Rattle.cluster_world.specs.NamedWorld.{NamedWorld, opening_named}
use Rattle.term.specs.Nodes.{IsFirst, text_in}
use Rattle.cluster_world.specs.Openings.{present_in}
use Rattle.replay.proofs.FirstNodes.{present_first, present_stays, first_of, some_passes}
use Rattle.replay.proofs.Merging.{log_is, set_of-at}

some_one : {X : Type 0} (x y : X) → Some x ≡ Some y → x ≡ y
some_one x y e = cc

-- what opened so is so still
still_opens : (cluster lone : List ℕ) (old new : WorldState) → Opens cluster lone old → Keeps old new → Opens cluster lone new
still_opens cluster lone old new O K = K.names ∙ O

pub as_many : {X : Type 0} (Q : X → Type 0) (xs : List X) (n : ℕ) → n ≡ length xs → AllSuch Q xs n → AreAll Q xs
as_many Q xs n e h = subst (AllSuch Q xs) e h

-- the node of the least end that isn't such
least_end_is : (ends : List End) (Q : End → Type 0) (n k : ℕ) (a : ℕ) (e : End) → n ≡ length ends
    → IsLeastOther Q is_lesser ends n k → slice_get ends k ≡ Some e → e.log.node ≡ a → IsLeastEnd Q ends a
least_end_is ends Q n k a e same L here whose = record {
  place = k;
  least = subst (λ (m : ℕ). IsLeastOther Q is_lesser ends m k) same L;
  whose = ap (λ (f : End). f.log.node) (some_one L.item e (sym L.here ∙ here)) ∙ whose;
}

-- what differs behind a run
module _ (ends : List End) (ts : List Transcript) where
  -- a table is another one
  pub table_differs : (w : World) (n k a at : ℕ) (e : End) → repeats (map (λ (l : Logged). l.node) (logs_of ends)) ≡ false
      → n ≡ length ends → IsLeastOther (HasTableOf w) is_lesser ends n k → slice_get ends k ≡ Some e → e.log.node ≡ a
      → at ≡ length e.log.entries → Differs w ends ts (Torn a at)
  table_differs w n k a at e once same L here whose long = (
    least_end_is ends (HasTableOf w) n k a e same L here whose,
    long
        ∙ sym (ap (λ (es : List SeatedEntry). length es) (log_is (logs_of ends) once k e.log
        (slice_get-map (λ (f : End). f.log) ends k ∙ ap (option_map (λ (f : End). f.log)) here)))
        ∙ ap (λ (c : ℕ). length (log_of c (logs_of ends))) whose,
  )

  -- the tables are the world's, and a transcript doesn't fit
  pub seat_differs : (w : World) (k seat : ℕ) (t : Transcript) → AreAll (HasTableOf w) ends
      → IsLeastOther (Fits (logs_of ends) ts) has_lesser_seat ts (length ts) k → slice_get ts k ≡ Some t → t.seat ≡ seat
      → Differs w ends ts (Stranger seat)
  seat_differs w k seat t tables L here whose =
      (tables, (k, L, ap (λ (u : Transcript). u.seat) (some_one L.item t (sym L.here ∙ here)) ∙ whose))

module _ (cluster lone : List ℕ) (ends : List End) (ts : List Transcript) where
  -- the logs stop
  pub stopped : (old : WorldState) (fault : CloseFault) → Opens cluster lone old → AreAll EndedWell ends
      → StopsLogs fault (logs_of ends) (names_of old) → IsFault cluster lone ends ts fault
  stopped old (Torn a k) O well h = (well, inl (record { opening = old; opens = O; stuck = h }))
  stopped old (LeftInHold a) O well h = absurd h
  stopped old (Stranger seat) O well h = absurd h
  stopped old Memory O well h = well

  -- all was played
  pub out : (old new : WorldState) (events : ℕ) → Opens cluster lone old → (R : RunsThrough (logs_of ends) events old new)
      → PlaysOut cluster lone (logs_of ends) R.steps new
  out old new events O R = record { opens = still_opens cluster lone old new O R.kept; merged = R.merged; run = R.run }

  pub alone : (n k a : ℕ) (e : End) → n ≡ length ends → IsLeastOther EndedWell is_lesser ends n k → slice_get ends k ≡ Some e
      → e.log.node ≡ a → IsFault cluster lone ends ts (LeftInHold a)
  alone n k a e same L here whose = least_end_is ends EndedWell n k a e same L here whose

  -- all was played and compared
  pub replayed : (old new : WorldState) (events : ℕ) → Opens cluster lone old → RunsThrough (logs_of ends) events old new
      → AreAll EndedWell ends → AreAll (HasTableOf (seen new)) ends → AreAll (Fits (logs_of ends) ts) ts
      → Replayed cluster lone ends ts events new
  replayed old new events O R well tables fits = record {
    steps = R.steps;
    out = out old new events O R;
    count = R.count;
    ended = well;
    tables = tables;
    transcripts = fits;
  }

  -- all was played, and something differs
  pub differs : (old new : WorldState) (events : ℕ) (fault : CloseFault) → Opens cluster lone old
      → RunsThrough (logs_of ends) events old new → AreAll EndedWell ends → Differs (seen new) ends ts fault
      → IsFault cluster lone ends ts fault
  differs old new events (Torn a k) O R well D = (
    well,
    inr (record { steps = R.steps; world = new; out = out old new events O R; other = D.0; place = D.1 }),
  )
  differs old new events (LeftInHold a) O R well D = absurd D
  differs old new events (Stranger seat) O R well D = (
    well,
    record {
      steps = R.steps;
      world = new;
      out = out old new events O R;
      tables = D.0;
      place = D.1.0;
      least = D.1.1;
      whose = D.1.2;
    },
  )
  differs old new events Memory O R well D = well

-- a world that was started is the run of no steps
pub opened_run : (h : WorldState) → AgreesAfter [] h → LocksAfter (opening_of h) [] (seen h) → IsRun [] h
opened_run h A E = record { takes = tt; agrees = A; locks = E; leaves_nothing = nothing_left [] h A }

-- the node of an end is one of the world
pub of_world : {N M : Type 0} (cluster lone : List ℕ) (es : List (NodeEnd N Logged M)) (old new : WorldState) (events : ℕ) (logs : List Logged)
    → All IsFirst (cluster ++ lone) → Opens cluster lone old → RunsThrough logs events old new
    → ((c : ℕ) → set_of (map (λ (e : NodeEnd N Logged M). e.log.node) es) c ≡ set_of (cluster ++ lone) c)
    → All (λ (e : NodeEnd N Logged M). set_of (nodes_of new) e.log.node ≡ true) es
of_world {N} {M} cluster lone es old new events logs first O R each k d l =
    present_first (nodes_of new) c (λ x. ap (λ (p : ℕ → ℕ). p x) present) (first_of (cluster ++ lone) first c inside)
    (ap (λ (n : NamedOpening). n.names (text_in c)) (still_opens cluster lone old new O R.kept)
    ∙ some_passes (λ m. text_in m == text_in c) (cluster ++ lone) c inside (eq-eqb (text_in c) (text_in c) refl))
  where
    c : ℕ
    c = (get_or es k d).log.node

    inside : set_of (cluster ++ lone) c ≡ true
    inside = sym (each c) ∙ set_of-at (map (λ (e : NodeEnd N Logged M). e.log.node) es) k c
        (slice_get-map (λ (e : NodeEnd N Logged M). e.log.node) es k
        ∙ ap (option_map (λ (e : NodeEnd N Logged M). e.log.node)) (slice_get-get_or es k d l))

    present : present_in (nodes_of new) ≡ (λ x. 1)
    present = ap (λ (w : NamedWorld). w.present) R.run.agrees.is_run
        ∙ present_stays (names_of new) (opening_named (names_of new)) R.steps R.run.takes
