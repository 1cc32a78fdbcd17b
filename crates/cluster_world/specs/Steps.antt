-- The step of one node within its world.
use Rattle.std.specs.Prelude.{ℕ, ◌≡◌, ◌≤◌, Some, None, List, length, slice_index_or}
use Rattle.getting_through.specs.NamedWorld.{named_refusal}
use Rattle.term.specs.Nodes.{name_of}
use Rattle.link.specs.MeshState.{place}
use Rattle.node_core.specs.declared.Answer.{Answer}
use Rattle.node_core.specs.CoreState.{CoreState}
use Rattle.node_core.specs.Rare.{most_answers}
use Rattle.world_events.specs.declared.events.WorldEvent.{WorldEvent}
use Rattle.world_events.specs.declared.events.WorldEvent.TheVariants.{At, Deliver, Restart}
use Rattle.world_events.specs.Events.{named_event}
use Rattle.cluster_world.specs.WorldState.{WorldState, nodes_of}
use Rattle.cluster_world.specs.Seen.{names_of, named}

-- the node at this place is that of the event: of which it is, of the name that it is delivered to, or of the name that comes back
abbrev pub IsOfEvent : ℕ → WorldEvent → Type 0
IsOfEvent a (At b e) = a ≡ b
IsOfEvent a (Deliver x y) = name_of a ≡ y
IsOfEvent a (Restart x) = name_of a ≡ x

-- the event is accepted, and the node at this place is its own
pub record IsAdmitted (p : ℕ) (e : WorldEvent) (h : WorldState) : Type 0 where
  pub node : ℕ
  pub place : place node (nodes_of h) ≡ Some p
  pub own : IsOfEvent node e
  pub accepted : named_refusal (names_of h) (named h) (named_event e) ≡ None

-- no more answers than the core at this place gives in its next step
abbrev pub AreFew : ℕ → WorldState → List Answer → Type 0
AreFew p h given = (d : CoreState) → length given ≤ most_answers (slice_index_or h.cores p d)
