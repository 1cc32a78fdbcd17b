-- What a step of a node comes to, as the protocol has it.
use Rattle.std.specs.Prelude.{ℕ, true, false, ◌≡◌, ◌==◌, Option, Some, None, List, All}
use Rattle.protocol_model.specs.Event.{Event as AnyEvent, Refusal as AnyRefusal, causes, first_cause}
use Rattle.protocol_model.specs.Node.{Op as AnyOp}
use Rattle.protocol_model.specs.Turn.{Turn, begun}
use Rattle.protocol_model.specs.Calling.{event}
use Rattle.protocol_model.specs.Reading.{receive}
use Rattle.term.specs.NodeSets.{set_of, with_older}
use Rattle.transaction.specs.declared.op.Op.{Op}
use Rattle.transaction.specs.Ops.{op_of}
use Rattle.node_events.specs.declared.events.Event.{Event}
use Rattle.node_events.specs.declared.events.Event.TheVariants.{Call, FromPeer, Retry, Exit, Leave}
use Rattle.node_events.specs.declared.events.Call.TheVariants.{Join as JoinBy}
use Rattle.node_events.specs.declared.events.Call.{Call as ClientCall}
use Rattle.node_events.specs.declared.events.Letter.{Letter}
use Rattle.node_events.specs.declared.events.Letter.TheVariants.{JoinAsk, Admit, Welcome, Down}
use Rattle.node_events.specs.declared.events.StepFault.{StepFault}
use Rattle.node_core.specs.CoreState.{CoreState, bound_of}
use Rattle.node_events.specs.Made.{Made, entered}
use Rattle.node_events.specs.declared.events.Reply.{Reply}
use Rattle.node_events.specs.declared.events.Entry.TheVariants.{Name}
use Rattle.transaction.specs.declared.op.NameCall.{NameCall}
use Rattle.node_events.specs.Letters.{letter_of}
use Rattle.node_core.specs.Joining.{IsWelcomeTo}
use Rattle.node_core.specs.Seen.{node_of, turn_of, turn_by}
use Rattle.node_events.specs.Seen.{unnumbered, call_of, fault_of, reply_of}

-- what no step changes, whatever comes of it
pub record Keeps (old new : CoreState) : Type 0 where
  pub name : new.name ≡ old.name
  pub world : new.world ≡ old.world

-- nor does a rule that leaves the queue alone
pub record KeepsQueue (old new : CoreState) : Type 0 where
  pub name : new.name ≡ old.name
  pub world : new.world ≡ old.world
  pub queue : new.registrar.queue ≡ old.registrar.queue

-- nor the lock calls
pub record KeepsCalls (old new : CoreState) : Type 0 where
  pub name : new.name ≡ old.name
  pub world : new.world ≡ old.world
  pub queue : new.registrar.queue ≡ old.registrar.queue
  pub calls : new.calls ≡ old.calls

-- the node is as before, as the protocol sees it
pub record IsAsBefore (old new : CoreState) : Type 0 where
  pub name : new.name ≡ old.name
  pub world : new.world ≡ old.world
  pub node : node_of new ≡ node_of old

-- A rule of a node n, above all nodes of the world, and a, this node. It makes k and u of what was held and made before
pub record Makes (rule : ℕ → ℕ → Turn → Turn) (h : CoreState) (t : Made) (k : CoreState) (u : Made) : Type 0 where
  pub name : k.name ≡ h.name
  pub world : k.world ≡ h.world
  pub turn : turn_of k u ≡ rule (bound_of h.world) h.name (turn_of h t)

-- the same of a rule for the current operation, where there is one
abbrev pub Works : (AnyOp → ℕ → ℕ → Turn → Turn) → CoreState → Made → CoreState → Made → Type 0
Works rule h t k u = (op : Op) → h.registrar.current ≡ Some op → Makes (rule (op_of op)) h t k u

-- a name call of node a enters what is made, with this reply
abbrev pub EntersCall : ℕ → ℕ → NameCall → Reply → Made → Made → Type 0
EntersCall a call c r t u = (s : Reply) × (reply_of s ≡ reply_of r) × (u ≡ entered (Name a call c s) t)

-- another node that has started
abbrev pub IsOther : List ℕ → ℕ → ℕ → Type 0
IsOther world a f = (with_older world f ≡ true) × ((f == a) ≡ false)

-- What node a relies on of a letter that f sends: who asks to join and who is admitted have started, a welcome is one to a, and who
-- has left is another node that has started
abbrev pub IsSaidBy : List ℕ → ℕ → ℕ → Letter → Type 0
IsSaidBy world a f (JoinAsk pairs) = with_older world f ≡ true
IsSaidBy world a f (Admit body) = with_older world body.joiner ≡ true
IsSaidBy world a f (Welcome body) = IsWelcomeTo world a body.value
IsSaidBy world a f Down = IsOther world a f
IsSaidBy world a f _ = Unit {0}

-- what a node relies on of a call: the contact of a join has started
abbrev pub IsAskedWithin : List ℕ → ClientCall → Type 0
IsAskedWithin world (JoinBy m) = with_older world m ≡ true
IsAskedWithin world _ = Unit {0}

-- the rule of an event is carried out
abbrev pub Takes : Event → CoreState → Made → CoreState → Made → Type 0
Takes (Call c) h t k u =
    IsAskedWithin h.world c → Makes (λ n a. event n a (set_of h.world) (AnyEvent.Calling (call_of c))) h t k u
Takes Retry h t k u = Makes (λ n a. event n a (set_of h.world) AnyEvent.Retry) h t k u
Takes (Exit p) h t k u = Makes (λ n a. event n a (set_of h.world) (AnyEvent.Exiting p)) h t k u
Takes Leave h t k u = Makes (λ n a. event n a (set_of h.world) AnyEvent.Leave) h t k u
Takes (FromPeer f l) h t k u =
    IsSaidBy h.world h.name f l → Makes (λ n a. receive n a unnumbered f (letter_of l)) h t k u

-- the turn that the protocol has for an event, where the current join of j has the number `number j`
abbrev pub IsTurn : (ℕ → ℕ) → Event → CoreState → Turn → Type 0
IsTurn number (Call c) h u =
    IsAskedWithin h.world c
    → u ≡ event (bound_of h.world) h.name (set_of h.world) (AnyEvent.Calling (call_of c)) (begun (node_of h))
IsTurn number Retry h u = u ≡ event (bound_of h.world) h.name (set_of h.world) AnyEvent.Retry (begun (node_of h))
IsTurn number (Exit p) h u =
    u ≡ event (bound_of h.world) h.name (set_of h.world) (AnyEvent.Exiting p) (begun (node_of h))
IsTurn number Leave h u = u ≡ event (bound_of h.world) h.name (set_of h.world) AnyEvent.Leave (begun (node_of h))
IsTurn number (FromPeer f l) h u =
    IsSaidBy h.world h.name f l
    → u ≡ receive (bound_of h.world) h.name number f (letter_of l) (begun (node_of h))

-- why an event is refused, if it is; a letter never is
abbrev pub refusal_of : Event → CoreState → Option AnyRefusal
refusal_of (Call c) h = first_cause (causes h.name (node_of h) (AnyEvent.Calling (call_of c)))
refusal_of Retry h = first_cause (causes h.name (node_of h) AnyEvent.Retry)
refusal_of (Exit p) h = first_cause (causes h.name (node_of h) (AnyEvent.Exiting p))
refusal_of Leave h = first_cause (causes h.name (node_of h) AnyEvent.Leave)
refusal_of (FromPeer f l) h = None

-- the refusal that a fault stands for, if there is a fault
abbrev pub cause_of : Option StepFault → Option AnyRefusal
cause_of None = None
cause_of (Some fault) = fault_of fault

-- what node a relies on of an event: of its call, or of its letter, which is from a node that has started
abbrev pub IsHeardWithin : List ℕ → ℕ → Event → Type 0
IsHeardWithin world a (Call c) = IsAskedWithin world c
IsHeardWithin world a (FromPeer f l) = (with_older world f ≡ true) × IsSaidBy world a f l
IsHeardWithin world a _ = Unit {0}

-- each of these letters of node a goes to a node that has started, and to another one where it says that a has left
abbrev pub GoWithin : List ℕ → ℕ → List (ℕ × Letter) → Type 0
GoWithin world a ss = All (λ s. (with_older world s.0 ≡ true) × IsSaidBy world s.0 a s.1) ss

-- An event was accepted, and the protocol's node makes its turn. What it sends goes to nodes that have started alone, where it
-- hears none but those
pub record Steps (e : Event) (old new : CoreState) (made : Made) : Type 0 where
  pub name : new.name ≡ old.name
  pub world : new.world ≡ old.world
  pub accepted : refusal_of e old ≡ None
  pub within : IsHeardWithin old.world old.name e → GoWithin old.world old.name made.letters
  pub turn : (number : ℕ → ℕ) → IsTurn number e old (turn_by number new made)
