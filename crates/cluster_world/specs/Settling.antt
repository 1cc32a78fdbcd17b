-- The deliveries of a `settle`, one by one, and all of them.
use Rattle.std.specs.Prelude.{ℕ, ◌≡◌, ◌<◌, Option, Some, None, List, [], ◌∷◌, ◌++◌}
use Rattle.getting_through.specs.NodeNames.{NamedOpening}
use Rattle.getting_through.specs.NamedWorld.{NamedWorld, NamedEvent, named_refusal, happens_named}
use Rattle.getting_through.specs.NamedScript.{next_named}
use Rattle.getting_through.specs.Restarts.{IsUp}
use Rattle.getting_through.specs.Lifted.{events_played}
use Rattle.getting_through.specs.Answering.{DeletionsAreAnswered}
use Rattle.getting_through.specs.NamedNoDeadEnd.{named_work}
use Rattle.getting_through.specs.QuietWorlds.{IsAtRest}
use Rattle.node_core.specs.declared.Answer.{Answer}
use Rattle.world_events.specs.declared.events.WorldEvent.{WorldEvent}
use Rattle.world_events.specs.declared.events.WorldEvent.TheVariants.{Deliver}
use Rattle.world_events.specs.Events.{named_event}
use Rattle.cluster_world.specs.Agreeing.{IsRunOf, Agrees}
use Rattle.term.specs.Nodes.{name_of}
use Rattle.cluster_world.specs.declared.admission.Delivery.{Delivery}
use Rattle.cluster_world.specs.Admissions.{IsReady}
use Rattle.cluster_world.specs.WorldState.{WorldState}
use Rattle.cluster_world.specs.Leftovers.{LeavesNothing}
use Rattle.cluster_world.specs.Locks.{LocksBehind}
use Rattle.cluster_world.specs.Playing.{Played, WentThrough, WaitsOn, events_of}
use Rattle.cluster_world.specs.Seen.{names_of, opening_of, seen, named}

-- the delivery is the one that is made next
pub record IsNextLetter (d : Delivery) (h : WorldState) : Type 0 where
  pub ready : IsReady d h
  pub next : WaitsOn (Some (name_of d.sender, name_of d.receiver)) h

-- `settle` makes a delivery next, from name to name, which the protocol accepts
pub record HasNext (h : WorldState) : Type 0 where
  pub sender : ℕ
  pub receiver : ℕ
  pub next : WaitsOn (Some (sender, receiver)) h
  pub accepted : named_refusal (names_of h) (named h) (named_event (Deliver sender receiver)) ≡ None

-- it was made, and gave these answers; and so all holds behind it that does behind an event that is played
pub record DeliversNext (old new : WorldState) (given : List Answer) : Type 0 where
  pub sender : ℕ
  pub receiver : ℕ
  pub next : WaitsOn (Some (sender, receiver)) old
  pub played : Played (Deliver sender receiver) old new [] given
  pub agrees : Agrees (Deliver sender receiver ∷ []) given old new
  pub locks : LocksBehind (Deliver sender receiver ∷ []) old new
  pub leaves_nothing : LeavesNothing (Deliver sender receiver ∷ []) old new

-- it was made, with its answers behind those given before, and less work is left
pub record DeliversInto (old new : WorldState) (given now : List Answer) : Type 0 where
  pub sender : ℕ
  pub receiver : ℕ
  pub next : WaitsOn (Some (sender, receiver)) old
  pub played : Played (Deliver sender receiver) old new given now
  pub less : named_work (names_of new) (named new) < named_work (names_of old) (named old)

-- each of these events comes next by a rule, in the world behind those before it
module _ (o : NamedOpening) (next : NamedWorld → Option NamedEvent) where
  abbrev pub AreNext : NamedWorld → List NamedEvent → Type 0
  AreNext w [] = Unit {0}
  AreNext w (e ∷ es) = (next w ≡ Some e) × AreNext (happens_named o w e) es

-- events were played as each came next by this rule, with their answers behind those given before
pub record PlaysOn (next : NamedOpening → NamedWorld → Option NamedEvent) (old new : WorldState) (given now : List Answer) : Type 0 where
  pub events : List WorldEvent
  pub are : AreNext (names_of old) (next (names_of old)) (named old) (events_of events)
  pub played : WentThrough events old new given now

-- Events were played as each came next by this rule, with these answers; and so all holds behind them that does behind events that
-- are played
pub record GoesOn (next : NamedOpening → NamedWorld → Option NamedEvent) (old new : WorldState) (given : List Answer) : Type 0 where
  pub events : List WorldEvent
  pub are : AreNext (names_of old) (next (names_of old)) (named old) (events_of events)
  pub played : WentThrough events old new [] given
  pub agrees : Agrees events given old new
  pub locks : LocksBehind events old new
  pub leaves_nothing : LeavesNothing events old new

-- A world was settled: the deliveries were made that `settle` makes, with these answers, until no letter waits. So it rests: each
-- running registrar is free with nothing to do, or was refused and waits for a retry, or waits for a contact that does; and each
-- `del_lock` has been answered, whatever made the old world what it was, unless its process is dead
pub record Settles (old new : WorldState) (given : List Answer) : Type 0 where
  pub goes_on : GoesOn next_named old new given
  pub ended : WaitsOn None new
  pub rests : IsAtRest (IsUp (names_of new) (named new)) (opening_of new) (seen new)
  pub answered : (before : List NamedEvent) → IsRunOf before old → DeletionsAreAnswered (IsUp (names_of new) (named new))
      (events_played (names_of new) (before ++ events_of goes_on.events)) (seen new)

-- Of these deliveries some were made, the first ones, with these answers, and memory was refused for the next
pub record StopsSettling (old new : WorldState) (given : List Answer) : Type 0 where
  pub goes_on : GoesOn next_named old new given
  pub waits : HasNext new
