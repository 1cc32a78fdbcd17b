-- What is found of an event that is admitted.
use Rattle.std.proofs.Common.{ℕ, ◌≡◌, ◌<◌, ◌+◌, Some, None, ap, sym, subst, ◌∙◌}
use Rattle.getting_through.specs.NamedWorld.{named_refusal}
use Rattle.term.specs.Nodes.{name_of, creation_of, last_creation}
use Rattle.link.specs.MeshState.{place}
use Rattle.world_events.specs.declared.events.WorldEvent.{WorldEvent}
use Rattle.world_events.specs.declared.events.WorldEvent.TheVariants as event
use Rattle.world_events.specs.Events.{named_event}
use Rattle.cluster_world.specs.declared.admission.Admission.{Admission}
use Rattle.cluster_world.specs.declared.admission.Admission.TheVariants.{Own, Deliver, Restart}
use Rattle.cluster_world.specs.declared.admission.Comeback.{Comeback}
use Rattle.cluster_world.specs.Admissions.{event_by, place_by, IsFound, MayStart}
use Rattle.cluster_world.specs.WorldState.{WorldState, nodes_of}
use Rattle.cluster_world.specs.Seen.{names_of, named}
use Rattle.cluster_world.specs.Steps.{IsAdmitted}

found_so : (a : Admission) (h : WorldState) → IsFound a h → IsAdmitted (place_by a) (event_by a) h
found_so (Own p n e) h found = found
found_so (Deliver d) h found = found.admitted
found_so (Restart b) h found = found.admitted

-- it is accepted, at its place
pub found_admitted : (a : Admission) (h : WorldState) (e : WorldEvent) → IsFound a h → event_by a ≡ e → IsAdmitted (place_by a) e h
found_admitted a h e found is = subst (λ (x : WorldEvent). IsAdmitted (place_by a) x h) is (found_so a h found)

-- a name comes back where its node stands at a place, and may
pub may_start : (d : Comeback) (h : WorldState) (n x : ℕ) → place n (nodes_of h) ≡ Some d.place → name_of n ≡ x → d.older ≡ n
    → creation_of d.older < last_creation → d.next ≡ d.older + 1
    → named_refusal (names_of h) (named h) (named_event (event.Restart x)) ≡ None → MayStart d h
may_start d h n x at own is less next free = record {
  older = ap (λ (m : ℕ). place m (nodes_of h)) is ∙ at;
  further = less;
  next = next;
  admitted = record {
    node = n;
    place = at;
    own = ap name_of (sym is);
    accepted = ap (λ (y : ℕ). named_refusal (names_of h) (named h) (named_event (event.Restart y))) (ap name_of is ∙ own) ∙ free;
  };
}
