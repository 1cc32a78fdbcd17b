-- What is said of worlds of named nodes alone: that each restart is legal, and whose answers there are.
use Rattle.std.specs.Prelude.{ℕ, true, ◌≡◌, None, map, List}
use Rattle.registry_model.specs.Registry.{Registry}
use Rattle.registry_model.specs.History.{registry_of}
use Rattle.protocol_model.specs.World.{in_cluster}
use Rattle.protocol_model.specs.Course.{Played, course}
use Rattle.protocol_model.specs.Answers.{AnswersCalls}
use Rattle.lock_answers.specs.Worlds.{steps_of}
use Rattle.creations.specs.NodeNames.{NamedOpening, opening_of}
use Rattle.creations.specs.NamedWorld.{NamedEvent, Restart, present_node, named_refusal, plain_accepted, after_events}
use Rattle.creations.specs.Restarts.{IsUp}
use Rattle.creations.specs.WorldsOfNames.{of_names}

-- the events of the world that these are, with what each brought; a restart is there as the deliveries of its notices
abbrev pub events_played : NamedOpening → List NamedEvent → List Played
events_played o es = steps_of (of_names o) es

-- A restart is legal by the registry: the node before has left, and each node that runs was told so
pub record IsLegalRestart (r : Registry) (before : ℕ) (Runs : ℕ → Type 0) : Type 0 where
  pub gone : r.left before ≡ true
  pub told : (c : ℕ) → Runs c → r.told c before ≡ true

-- Each restart that is accepted is
abbrev pub RestartsAreLegal : Type 0
RestartsAreLegal = (o : NamedOpening) (es : List NamedEvent) (x : ℕ) →
    named_refusal o (after_events o es) (Restart x) ≡ None →
    IsLegalRestart (registry_of (in_cluster (opening_of o)) (after_events o es).world.history)
    (present_node o (after_events o es) x) (IsUp o (after_events o es))

-- Whatever an accepted event is in the world, each of it is accepted there, in its turn
abbrev pub AcceptedEventsArePlayed : Type 0
AcceptedEventsArePlayed = (o : NamedOpening) (es : List NamedEvent) (e : NamedEvent) →
    (let w = after_events o es in
    map (λ (p : Played). p.event) (course (opening_of o) w.world (plain_accepted o w e)) ≡ plain_accepted o w e)

-- Each answer there is given by the node of its event; a numbered one to a call of that node, and at most once
abbrev pub AnswersStayAtTheirNode : Type 0
AnswersStayAtTheirNode = (o : NamedOpening) (es : List NamedEvent) → AnswersCalls (events_played o es)
