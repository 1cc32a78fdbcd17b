-- Where a call stands once its round is told of an answer or of a node that went down, its deletion that a node gave the
-- lock up, or once it waits for a retry or uses one.
use Rattle.std.specs.Prelude.{ℕ, Bool, Option, Some, None, List}
use Rattle.registry_model.specs.Process.{without_node}
use Rattle.protocol_model.specs.Round.{Round, answer, down}
use Rattle.protocol_model.specs.Node.{LockPhase, LockCall, put_call}
use Rattle.protocol_model.specs.Client.{in_phase, one_less}
use Rattle.term.specs.NodeSets.{without_node as without_name}
use Rattle.lock_calls.specs.declared.call.CallPhase.{CallPhase}
use Rattle.lock_calls.specs.declared.call.CallPhase.TheVariants.{Deleting}

-- f has answered: a round takes it in
abbrev pub answered : ℕ → Bool → LockPhase → LockPhase
answered f granted (LockPhase.Asking r) = LockPhase.Asking (answer f granted r)
answered f granted phase = phase

-- f has gone down: a round loses it
abbrev pub lost : ℕ → LockPhase → LockPhase
lost f (LockPhase.Asking r) = LockPhase.Asking (down f r)
lost f phase = phase

-- f has given the lock up: a deletion waits for one node less
abbrev pub given_up : ℕ → LockPhase → LockPhase
given_up f (LockPhase.Deleting owing) = LockPhase.Deleting (without_node f owing)
given_up f phase = phase

-- the same of a deletion as it is kept
abbrev pub with_one_less : ℕ → CallPhase → CallPhase
with_one_less f (Deleting owing) = Deleting (without_name owing f)
with_one_less f phase = phase

-- the call, where there is one, becomes what this makes of it
abbrev pub becomes : (LockCall → LockCall) → Option LockCall → List LockCall → List LockCall
becomes change None calls = calls
becomes change (Some c) calls = put_call (change c) calls

-- the call stands as this makes of how it stood
abbrev pub standing : (LockPhase → LockPhase) → LockCall → LockCall
standing next c = in_phase (next c.phase) c

-- the same of the call that there may be
abbrev pub stands_by : (LockPhase → LockPhase) → Option LockCall → List LockCall → List LockCall
stands_by next = becomes (standing next)

-- the call has used one retry, and this round asks
abbrev pub asking_again : Round → LockCall → LockCall
asking_again r c = record c { retries = one_less c.retries; phase = LockPhase.Asking r }

-- the same of the call that there may be
abbrev pub asks_again : Round → Option LockCall → List LockCall → List LockCall
asks_again r = becomes (asking_again r)
