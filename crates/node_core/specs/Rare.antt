-- What few steps do, and what a step makes at most.
use Rattle.std.specs.Prelude.{ℕ, Bool, true, false, ◌||◌, ◌+◌, ◌*◌, ◌≤◌, Option, Some, List, length, if◌then◌else◌}
use Rattle.term.specs.declared.limits.TheConstants.{MOST_NODES}
use Rattle.transaction.specs.declared.op.Op.{Op}
use Rattle.transaction.specs.declared.op.Op.TheVariants.{Admission}
use Rattle.transaction.specs.Work.{begins_with_join}
use Rattle.node_events.specs.declared.events.Event.{Event}
use Rattle.node_events.specs.declared.events.Event.TheVariants.{Call, FromPeer}
use Rattle.node_events.specs.declared.events.Call.{Call as ClientCall}
use Rattle.node_events.specs.declared.events.Call.TheVariants.{Spawn, Whereis, RegisteredNames, Notices, SetLock, DelLock, Join as JoinBy}
use Rattle.node_events.specs.declared.events.Letter.{Letter}
use Rattle.node_events.specs.declared.events.Letter.TheVariants.{LockAnswer, GivenBack, Applied, JoinAsk, JoinRefused, Admit, Welcome, Down}
use Rattle.node_events.specs.Made.{Made, HasRoom}
use Rattle.node_core.specs.CoreState.{CoreState}

-- the operation is an admission
abbrev pub is_admission : Option Op → Bool
is_admission (Some (Admission j pairs)) = true
is_admission _ = false

-- the call is a join
abbrev pub is_join_call : ClientCall → Bool
is_join_call (JoinBy m) = true
is_join_call _ = false

-- the letter moves many names, or is a departure that may end a round for an admission, which moves many, too
abbrev pub moves_names : Bool → Letter → Bool
moves_names admitting (Admit body) = true
moves_names admitting (Welcome body) = true
moves_names admitting Down = admitting
moves_names admitting _ = false

-- what the event does may want memory behind a change of the node
abbrev pub is_rare_event : Bool → Event → Bool
is_rare_event admitting (Call c) = is_join_call c
is_rare_event admitting (FromPeer f l) = moves_names admitting l
is_rare_event admitting _ = false

-- the same, or a join is the next that the registrar starts
abbrev pub is_rare : Event → CoreState → Bool
is_rare e h = is_rare_event (is_admission h.registrar.current) e || begins_with_join h.registrar.queue

-- how many operations may be joins that are answered at once, since their contact has left
abbrev pub joins_in : List Op → ℕ
joins_in ops = if begins_with_join ops then length ops else 0

-- how many entries a step makes at most
abbrev pub most_entries : CoreState → ℕ
most_entries h = 4 + joins_in h.registrar.queue

-- how many answers a step gives at most
abbrev pub most_answers : CoreState → ℕ
most_answers h = 4 + joins_in h.registrar.queue + length h.calls.calls

-- a step of the node made no more than that
pub record IsFew (h : CoreState) (m : Made) : Type 0 where
  pub entries : length m.entries ≤ most_entries h
  pub answers : length m.answers ≤ most_answers h

-- u is t with e entries and a answers more at most
pub record Adds (e a : ℕ) (t u : Made) : Type 0 where
  pub entries : length u.entries ≤ length t.entries + e
  pub answers : length u.answers ≤ length t.answers + a

-- there is room for what is made of the letter, but for one that moves many names, and for a letter more
abbrev pub HasRoomToRead : Letter → Made → Type 0
HasRoomToRead (LockAnswer id p granted) m = HasRoom (2 * MOST_NODES + 2) 1 1 m
HasRoomToRead Applied m = HasRoom (MOST_NODES + 1) 1 1 m
HasRoomToRead (GivenBack p) m = HasRoom 1 0 1 m
HasRoomToRead JoinRefused m = HasRoom 1 0 1 m
HasRoomToRead (JoinAsk pairs) m = HasRoom 2 1 0 m
HasRoomToRead _ m = HasRoom 2 0 0 m

-- the same of a call
abbrev pub HasRoomToCall : ClientCall → Made → Type 0
HasRoomToCall Spawn m = HasRoom 1 0 1 m
HasRoomToCall (Whereis x) m = HasRoom 1 1 1 m
HasRoomToCall RegisteredNames m = HasRoom 1 1 1 m
HasRoomToCall (Notices p) m = HasRoom 1 1 1 m
HasRoomToCall (SetLock p id nodes retries) m = HasRoom 2 0 1 m
HasRoomToCall (DelLock p id nodes) m = HasRoom (MOST_NODES + 1) 0 1 m
HasRoomToCall _ m = HasRoom 1 0 0 m
