-- What playing events comes to, as the protocol has it.
use Rattle.std.specs.Prelude.{ℕ, Bool, true, ◌&&◌, ◌≡◌, ◌≤◌, Option, Some, None, is_none, List, [], ◌∷◌, ◌++◌, map, take, length}
use Rattle.std.specs.List.{slice_get}
use Rattle.protocol_model.specs.Event.{Answer as AnyAnswer}
use Rattle.getting_through.specs.NodeNames.{NamedOpening}
use Rattle.getting_through.specs.NamedWorld.{NamedWorld, NamedEvent, Deliver, named_refusal, happens_named, named_answers, run_named}
use Rattle.getting_through.specs.NamedScript.{next_named}
use Rattle.term.specs.Nodes.{text_in}
use Rattle.node_core.specs.declared.Answer.{Answer}
use Rattle.node_core.specs.NodeEventsSeen.{answer_of}
use Rattle.world_events.specs.declared.refusal.Refusal.{Refusal}
use Rattle.world_events.specs.declared.events.WorldEvent.{WorldEvent}
use Rattle.world_events.specs.Events.{named_event}
use Rattle.world_events.specs.Refusals.{refusal_of}
use Rattle.cluster_world.specs.WorldState.{WorldState}
use Rattle.cluster_world.specs.Seen.{names_of, named}

-- what no event changes, whatever comes of it
pub record Keeps (old new : WorldState) : Type 0 where
  pub names : names_of new ≡ names_of old
  pub cluster : new.cluster ≡ old.cluster

-- an event was accepted and played: the protocol's world makes its step, and gives these answers behind those given before
pub record Played (e : WorldEvent) (old new : WorldState) (given now : List Answer) : Type 0 where
  pub names : names_of new ≡ names_of old
  pub cluster : new.cluster ≡ old.cluster
  pub accepted : named_refusal (names_of old) (named old) (named_event e) ≡ None
  pub happens : named new ≡ happens_named (names_of old) (named old) (named_event e)
  pub answers : map answer_of now ≡ map answer_of given ++ named_answers (names_of old) (named old) (named_event e)

-- an event was refused as the protocol refuses it; memory is refused only where the protocol accepts it
abbrev pub RefusedWith : Refusal → WorldEvent → WorldState → Type 0
RefusedWith r e old = named_refusal (names_of old) (named old) (named_event e) ≡ refusal_of r

abbrev pub events_of : List WorldEvent → List NamedEvent
events_of es = map named_event es

-- the world accepts each of these events as it comes
abbrev pub accepts_all : NamedOpening → NamedWorld → List NamedEvent → Bool
accepts_all o w [] = true
accepts_all o w (e ∷ es) = is_none (named_refusal o w e) && accepts_all o (happens_named o w e) es

-- all that is answered on the way, in order
abbrev pub answers_to_all : NamedOpening → NamedWorld → List NamedEvent → List AnyAnswer
answers_to_all o w [] = []
answers_to_all o w (e ∷ es) = named_answers o w e ++ answers_to_all o (happens_named o w e) es

-- these events were accepted and played, with their answers behind those given before
pub record WentThrough (es : List WorldEvent) (old new : WorldState) (given now : List Answer) : Type 0 where
  pub accepted : accepts_all (names_of old) (named old) (events_of es) ≡ true
  pub world : named new ≡ run_named (names_of old) (named old) (events_of es)
  pub answers : map answer_of now ≡ map answer_of given ++ answers_to_all (names_of old) (named old) (events_of es)

-- why a list of events stopped there, where the events before had made this world
abbrev pub IsStop : List WorldEvent → ℕ → NamedOpening → NamedWorld → Option Refusal → Type 0
IsStop es k o w None = k ≡ length es
IsStop es k o w (Some r) = (e : WorldEvent) × (slice_get es k ≡ Some e) × (named_refusal o w (named_event e) ≡ refusal_of r)

-- the first k of these events were accepted and played
pub record IsSoFar (es : List WorldEvent) (old new : WorldState) (k : ℕ) (given : List Answer) : Type 0 where
  pub names : names_of new ≡ names_of old
  pub cluster : new.cluster ≡ old.cluster
  pub accepted : accepts_all (names_of old) (named old) (events_of (take k es)) ≡ true
  pub world : named new ≡ run_named (names_of old) (named old) (events_of (take k es))
  pub answers : map answer_of given ≡ answers_to_all (names_of old) (named old) (events_of (take k es))

-- the first k of these events were accepted and played, with these answers, and then it stopped, which changed nothing
pub record Ran (es : List WorldEvent) (old new : WorldState) (k : ℕ) (given : List Answer) (stop : Option Refusal) : Type 0 where
  pub names : names_of new ≡ names_of old
  pub cluster : new.cluster ≡ old.cluster
  pub within : k ≤ length es
  pub accepted : accepts_all (names_of old) (named old) (events_of (take k es)) ≡ true
  pub world : named new ≡ run_named (names_of old) (named old) (events_of (take k es))
  pub answers : map answer_of given ≡ answers_to_all (names_of old) (named old) (events_of (take k es))
  pub stopped : IsStop es k (names_of old) (run_named (names_of old) (named old) (events_of (take k es))) stop

-- the delivery that `settle` makes next is that of the first link, by names, on which a letter waits for a node at present
abbrev pub WaitsOn : Option (ℕ × ℕ) → WorldState → Type 0
WaitsOn None h = next_named (names_of h) (named h) ≡ None
WaitsOn (Some (x, y)) h = next_named (names_of h) (named h) ≡ Some (Deliver (text_in x) (text_in y))
