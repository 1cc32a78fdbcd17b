-- How a world is finished: letters are delivered until none waits, and then the first running node whose registrar was refused is
-- retried, and so on until there is none.
use Rattle.std.specs.Prelude.{ℕ, zero, suc, Bool, not, ◌&&◌, ◌≡◌, is_some, is_none, Option, Some, None, List, [], ◌∷◌}
use Rattle.protocol_model.specs.Event.{Event}
use Rattle.getting_through.specs.NodeNames.{NamedOpening}
use Rattle.getting_through.specs.NamedWorld.{NamedWorld, NamedEvent, AtNode, named_refusal, happens_named}
use Rattle.getting_through.specs.NamedScript.{next_named}
use Rattle.getting_through.specs.NamedFinishing.{first_refused}
use Rattle.term.specs.NodeSets.{with_older}
use Rattle.node_core.specs.declared.Answer.{Answer}
use Rattle.node_core.specs.CoreState.{CoreState}
use Rattle.node_core.specs.Joining.{join_number_of}
use Rattle.node_core.specs.Seen.{node_of}
use Rattle.world_events.specs.declared.events.LocalEvent.TheVariants.{Retry}
use Rattle.world_events.specs.declared.events.WorldEvent.TheVariants.{At}
use Rattle.cluster_world.specs.WorldState.{WorldState}
use Rattle.cluster_world.specs.Agreeing.{IsRunOf}
use Rattle.cluster_world.specs.Playing.{Played, events_of}
use Rattle.cluster_world.specs.Seen.{names_of, named}
use Rattle.cluster_world.specs.Settling.{GoesOn}
use Rattle.getting_through.specs.WorldsOfNames.{of_names}
use Rattle.getting_through.specs.GettingFree.{LeadsOn}

-- a retry of this node, if there is one
abbrev pub retry_of : Option ℕ → Option NamedEvent
retry_of None = None
retry_of (Some n) = Some (AtNode n Event.Retry)

module _ (o : NamedOpening) where
  -- what comes next: the delivery that `settle` makes next, and where no letter waits that retry
  abbrev pub next_to_finish : NamedWorld → Option NamedEvent
  next_to_finish w = elim (next_named o w) [ None ↦ retry_of (first_refused o w) | Some e ↦ Some e ]

  -- that again and again; at most so many events
  abbrev pub finishing_left : ℕ → NamedWorld → List NamedEvent
  finishing_left zero w = []
  finishing_left (suc most) w =
      elim (next_to_finish w) [ None ↦ [] | Some e ↦ e ∷ finishing_left most (happens_named o w e) ]

-- where these nodes have left, the core is that of a running node whose registrar is at an operation, and waits for no contact: where
-- no letter waits it was refused
abbrev pub seems_refused : List ℕ → CoreState → Bool
seems_refused departed c =
    not (with_older departed c.name) && is_some c.registrar.current && is_none (join_number_of (node_of c).current)

-- the first refused node was retried, with the answers behind those given before
pub record RetriesInto (old new : WorldState) (given now : List Answer) : Type 0 where
  pub node : ℕ
  pub refused : first_refused (names_of old) (named old) ≡ Some node
  pub played : Played (At node Retry) old new given now

-- something comes next, and the protocol accepts it
pub record HasMore (h : WorldState) : Type 0 where
  pub event : NamedEvent
  pub next : next_to_finish (names_of h) (named h) ≡ Some event
  pub accepted : named_refusal (names_of h) (named h) event ≡ None

-- A world was finished: all was played that comes next, with these answers. So nothing waits but lock calls, whatever made the old
-- world what it was: each running registrar is free, with nothing queued, and each name call and each join has been answered
pub record Finishes (old new : WorldState) (given : List Answer) : Type 0 where
  pub goes_on : GoesOn next_to_finish old new given
  pub ended : next_to_finish (names_of new) (named new) ≡ None
  pub leads_on : (before : List NamedEvent) → IsRunOf before old
      → LeadsOn (of_names (names_of old)) before (named old) (events_of goes_on.events)

-- Of these events some were played, the first ones, with these answers, and memory was refused for the next
pub record StopsFinishing (old new : WorldState) (given : List Answer) : Type 0 where
  pub goes_on : GoesOn next_to_finish old new given
  pub waits : HasMore new
