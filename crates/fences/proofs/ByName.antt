-- What events of named nodes are in the world is accepted there, so a run by names is a run.
use Rattle.std.proofs.Common.{suc, ◌≡◌, ◌≤◌, Option, Some, None, List, [], ◌∷◌, ◌++◌, map, length, refl, sym, ap, subst, arith}
use Rattle.std.specs.Prelude.{is_none, if◌then◌else◌}
use Rattle.registry_model.proofs.Lists.{by_push}
use Rattle.protocol_model.specs.Event.{Refusal}
use Rattle.protocol_model.specs.Course.{Played, played, course}
use Rattle.protocol_model.specs.World.{Opening, World, WorldEvent, opening_world, refusal, happens, run}
use Rattle.closings.specs.Merging.{Step, happening, events_in, TakesAll}
use Rattle.creations.specs.NodeNames.{NamedOpening, opening_of}
use Rattle.creations.specs.NamedWorld.{NamedEvent, plain_accepted, after_events, as_events}
use Rattle.creations.proofs.Always.{accepted_events_are_played}
use Rattle.creations.proofs.NamedRuns.{named_runs_are_runs, as_events-push}
use Rattle.fences.specs.Named.{AreTold, RunsByNamesAreRuns}

module _ (o : Opening) where
  -- each of these events is accepted, in its turn
  abbrev AllAccepted : World → List WorldEvent → Type 0
  AllAccepted w [] = Unit {0}
  AllAccepted w (e ∷ es) = (refusal o w e ≡ None) × AllAccepted (happens o w e) es

  all_append : (w : World) (xs ys : List WorldEvent) → AllAccepted w xs → AllAccepted (run o w xs) ys → AllAccepted w (xs ++ ys)
  all_append w [] ys h k = k
  all_append w (x ∷ xs) ys h k = (h.0, all_append (happens o w x) xs ys h.1 k)

  -- a course has no more events than there are
  short : (es : List WorldEvent) (w : World) → length (map (λ (p : Played). p.event) (course o w es)) ≤ length es
  short [] w = omega arith
  short (e ∷ es) w = go (refusal o w e) (short es (happens o w e))
    where
      go : (r : Option Refusal) → length (map (λ (p : Played). p.event) (course o (happens o w e) es)) ≤ length es
          → length (map (λ (p : Played). p.event)
          ((if is_none r then played o w e ∷ [] else []) ++ course o (happens o w e) es)) ≤ suc (length es)
      go None h = omega (arith, h)
      go (Some r) h = omega (arith, h)

  -- so where it has all, they are accepted
  all_accepted : (es : List WorldEvent) (w : World) → map (λ (p : Played). p.event) (course o w es) ≡ es → AllAccepted w es
  all_accepted [] w h = tt
  all_accepted (e ∷ es) w h = go (refusal o w e) refl h (all_accepted es)
    where
      rest : {x : WorldEvent} {xs : List WorldEvent} → x ∷ xs ≡ e ∷ es → xs ≡ es
      rest k = cc

      go : (r : Option Refusal) → refusal o w e ≡ r → map (λ (p : Played). p.event)
          ((if is_none r then played o w e ∷ [] else []) ++ course o (happens o w e) es) ≡ e ∷ es
          → ((v : World) → map (λ (p : Played). p.event) (course o v es) ≡ es → AllAccepted v es) → AllAccepted w (e ∷ es)
      go None free k later = (free, later (happens o w e) (rest k))
      go (Some r) refused k later = absurd (omega (arith, ap length k, short es (happens o w e)))

  takes_all : (ss : List Step) (w : World) → AllAccepted w (events_in ss) → AreTold o w ss → TakesAll o w ss
  takes_all [] w h k = tt
  takes_all (s ∷ ss) w h k =
      (record { own = k.0; accepted = h.0; answers = k.1 }, takes_all ss (happens o w (happening s)) h.1 k.2)

-- whatever events of named nodes are
named_accepted : (o : NamedOpening) (es : List NamedEvent)
    → AllAccepted (opening_of o) (opening_world (opening_of o)) (as_events o es)
named_accepted o = by_push (λ es. AllAccepted (opening_of o) (opening_world (opening_of o)) (as_events o es)) tt more
  where
    more : (es : List NamedEvent) (e : NamedEvent)
        → AllAccepted (opening_of o) (opening_world (opening_of o)) (as_events o es)
        → AllAccepted (opening_of o) (opening_world (opening_of o)) (as_events o (es ++ e ∷ []))
    more es e h = subst (AllAccepted (opening_of o) (opening_world (opening_of o))) (sym (as_events-push o es e))
        (all_append (opening_of o) (opening_world (opening_of o)) (as_events o es) (plain_accepted o (after_events o es) e) h
        (subst (λ (w : World). AllAccepted (opening_of o) w (plain_accepted o (after_events o es) e)) (named_runs_are_runs o es)
        (all_accepted (opening_of o) (plain_accepted o (after_events o es) e) (after_events o es).world
        (accepted_events_are_played o es e))))

pub runs_by_names_are_runs : RunsByNamesAreRuns
runs_by_names_are_runs o es ss R = record {
  order = R.order;
  takes = takes_all (opening_of o) ss (opening_world (opening_of o))
      (subst (AllAccepted (opening_of o) (opening_world (opening_of o))) (sym R.events) (named_accepted o es)) R.told;
}
