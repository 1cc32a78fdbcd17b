-- What may happen in a world of named nodes, why it is refused, and scripts of it. A name that is called for means its present node.
-- x and y are node names.
use Rattle.std.specs.Prelude.{ℕ, List}
use Rattle.registry_model.specs.Table.{Table}
use Rattle.protocol_model.specs.Event.{Event, Answer, Refusal}

-- A lock call names names as in a world: each means all its nodes, so that the present one is asked (`named_target`).
-- An event at the present node of a name; one at a node, as where a process says of which; the delivery of the oldest letter from name to
-- name; and a name that comes back
pub data NamedEvent : Type 0 where
  At : (name : ℕ) → (event : Event) → NamedEvent
  AtNode : (node : ℕ) → (event : Event) → NamedEvent
  Deliver : (sender : ℕ) → (receiver : ℕ) → NamedEvent
  Restart : (name : ℕ) → NamedEvent

-- the refusals of a world, and those of a restart
pub data NamedRefusal : Type 0 where
  Plain : (refusal : Refusal) → NamedRefusal
  StillRunning : NamedRefusal
  NotToldYet : (node : ℕ) → NamedRefusal
  CreationsSpent : NamedRefusal

-- a line of a script
pub data NamedLine : Type 0 where
  Play : (event : NamedEvent) → NamedLine
  Settle : NamedLine  -- deliveries until all links to present nodes are empty, or a limit of them
  TableAt : (name : ℕ) → NamedLine
  MembersAt : (name : ℕ) → NamedLine

-- a line that is printed
pub data NamedOutput : Type 0 where
  Said : (answer : Answer) → NamedOutput
  Okay : NamedOutput  -- an exit or a leave was accepted
  Started : (node : ℕ) → NamedOutput  -- this node has started
  Error : (refusal : NamedRefusal) → NamedOutput
  Settled : NamedOutput
  SettleLimit : NamedOutput  -- some link isn't empty yet
  TableIs : (table : Table) → NamedOutput
  MembersAre : (members : List ℕ) → NamedOutput  -- rising
