-- Clients' locks, where events are played in pieces, and who has a lock by a grant.
use Rattle.std.proofs.Common.{ℕ, Bool, true, false, ◌≡◌, ◌<◌, ◌+◌, ◌-◌, Option, Some, None, List, [], ◌∷◌, ◌++◌, sym, subst, arith}
use Rattle.std.specs.Prelude.{is_none, is_some, not, ◌&&◌, ◌||◌, if◌then◌else◌}
use Rattle.std.proofs.lemmas.Bool.{and_parts}
use Rattle.getting_through.proofs.ClientLocks.{client_locks}
use Rattle.registry_model.specs.Process.{Process}
use Rattle.node_core.specs.declared.Answer.{Answer}
use Rattle.protocol_model.specs.ClientLocks.{Tally, tally_from, tally_after, last_try, is_won, is_no_more, gives, Holds}
use Rattle.protocol_model.specs.Event.{Refusal as AnyRefusal}
use Rattle.protocol_model.specs.Letter.{Id, Client}
use Rattle.protocol_model.specs.World.{Opening, World, WorldEvent as AnyWorldEvent, opening_world, refusal, happens, answers, run}
use Rattle.world_events.specs.declared.events.WorldEvent.{WorldEvent}
use Rattle.cluster_world.specs.WorldState.{WorldState}
use Rattle.world_events.specs.Openings.{opening_with}
use Rattle.getting_through.specs.NamedWorld.{NamedWorld, NamedEvent, as_events}
use Rattle.getting_through.proofs.NamedRuns.{tally-append}
use Rattle.getting_through.specs.ClientLocks.{ClientLocks}
use Rattle.getting_through.specs.WorldsOfNames.{of_names}
use Rattle.getting_through.proofs.Lifting.{client_locks as locks_of_names, client_locks_of_their_nodes}
use Rattle.cluster_world.specs.Seen.{names_of, opening_of, seen, named}
use Rattle.cluster_world.specs.Playing.{events_of}
use Rattle.cluster_world.specs.Agreeing.{AgreesAfter, Agrees}
use Rattle.cluster_world.specs.Locks.{LocksAfter, LocksBehind, NeverBothHold, HasLock, is_left, is_kept}

-- where the headline stands behind events, locks are so behind them
pub locks_after : (es : List NamedEvent) (h : WorldState) → AgreesAfter es h
    → LocksAfter (opening_of h) (as_events (names_of h) es) (seen h) × ClientLocks (of_names (names_of h)) es (named h)
locks_after es h A = (
  subst (λ (w : NamedWorld). LocksAfter (opening_of h) (as_events (names_of h) es) w.world) (sym A.is_run)
      (client_locks_of_their_nodes (names_of h) es),
  subst (λ (w : NamedWorld). ClientLocks (of_names (names_of h)) es w) (sym A.is_run) (locks_of_names (names_of h) es),
)

-- and behind what was run
pub locks_behind : (es : List WorldEvent) (given : List Answer) (old new : WorldState) → Agrees es given old new
    → LocksBehind es old new
locks_behind es given old new A before is = locks_after (before ++ events_of es) new (A before is).0

module _ (o : Opening) (p : Process) (id : Id) (c : ℕ) where
  -- a grant counts
  counts : (w : World) (e : AnyWorldEvent) (k : Tally) → refusal o w e ≡ None
      → is_won p id c (answers o w e) (last_try w e p k.last) ≡ true → is_no_more (happens o w e) p ≡ false
      → 0 < (tally_after o w e p id c k).number
  counts w e k free won alive =
      go (refusal o w e) (is_no_more (happens o w e) p) (is_won p id c (answers o w e) (last_try w e p k.last)) free won
      alive
    where
      go : (r : Option AnyRefusal) (gone won : Bool) → r ≡ None → won ≡ true → gone ≡ false
          → 0 < (if is_none r then record {
            number =
                if gone then 0 else
                (if won then k.number + 1 else (if gives w e p id c then k.number - 1 else k.number));
            last = last_try w e p k.last;
          } else k).number
      go (Some r) gone won f h a = cc
      go None true won f h a = cc
      go None false true f h a = omega arith
      go None false false f h a = cc

  -- what leaves p the lock keeps its number
  stays : (w : World) (e : AnyWorldEvent) (k : Tally) → is_left o w e p id c ≡ true → 0 < k.number
      → 0 < (tally_after o w e p id c k).number
  stays w e k = go (refusal o w e) (is_no_more (happens o w e) p) (gives w e p id c)
      (is_won p id c (answers o w e) (last_try w e p k.last))
    where
      go : (r : Option AnyRefusal) (gone given won : Bool) → (is_some r || (not gone && not given)) ≡ true
          → 0 < k.number
          → 0 < (if is_none r then record {
            number = if gone then 0 else (if won then k.number + 1 else (if given then k.number - 1 else k.number));
            last = last_try w e p k.last;
          } else k).number
      go (Some r) gone given won h more = more
      go None true given won h more = cc
      go None false true won h more = cc
      go None false false true h more = omega arith
      go None false false false h more = more

  kept : (w : World) (es : List AnyWorldEvent) (k : Tally) → is_kept o w es p id c ≡ true → 0 < k.number
      → 0 < (tally_from o w es p id c k).number
  kept w [] k h more = more
  kept w (e ∷ es) k h more =
      let both : (is_left o w e p id c ≡ true) × (is_kept o (happens o w e) es p id c ≡ true) =
      and_parts (is_left o w e p id c) (is_kept o (happens o w e) es p id c) h in
      kept (happens o w e) es (tally_after o w e p id c k) both.1 (stays w e k both.0 more)

  -- who has a lock by a grant holds it
  pub has_holds : (es : List AnyWorldEvent) → HasLock o es p id c → Holds o es p id c
  has_holds es L = subst (λ (xs : List AnyWorldEvent). Holds o xs p id c) (sym L.split)
      (subst (λ (k : Tally). 0 < k.number) (sym (tally-append o p id c (opening_world o) L.before (L.event ∷ L.later) nothing))
      (kept (happens o w L.event) L.later (tally_after o w L.event p id c so_far) L.kept
      (counts w L.event so_far L.accepted L.granted L.alive)))
    where
      nothing : Tally
      nothing = record { number = 0; last = None }

      w : World
      w = run o (opening_world o) L.before

      so_far : Tally
      so_far = tally_from o (opening_world o) L.before p id c nothing

-- two requesters never have granted locks on one resource at a running node
pub never_both : NeverBothHold
never_both nodes cluster es c p q resource x y inside running other hp hq = other
    ((client_locks (opening_with nodes cluster) es).exclusion c inside running p q resource x y
    (has_holds (opening_with nodes cluster) p (Client resource x) c es hp)
    (has_holds (opening_with nodes cluster) q (Client resource y) c es hq))
