-- The rules of a retry, of a departure and of a call's end, for one process.
use Rattle.std.specs.Prelude.{ℕ, true, Option, Some, None, if◌then◌else◌}
use Rattle.protocol_model.specs.Node.{LockPhase, LockCall}
use Rattle.protocol_model.specs.Turn.{Turn}
use Rattle.protocol_model.specs.Round.{is_empty}
use Rattle.protocol_model.specs.Client.{retry_in, lose_node_in, close_call, end_lock}

-- the call, if there is one, is tried again where it was refused
abbrev pub retry_of : ℕ → ℕ → Option LockCall → Turn → Turn
retry_of n a None u = u
retry_of n a (Some c) u = retry_in n a c.phase c u

-- the call, if there is one, is told that d has gone down
abbrev pub loss_of : ℕ → ℕ → ℕ → Option LockCall → Turn → Turn
loss_of n a d None u = u
loss_of n a d (Some c) u = lose_node_in n a d c.phase c u

-- the round of the call ends, where it is over
abbrev pub end_in : ℕ → ℕ → LockPhase → LockCall → Turn → Turn
end_in n a (LockPhase.Asking r) c u = end_lock n a c r u
end_in n a _ c u = u

-- the same, where the process has a call
abbrev pub end_of : ℕ → ℕ → Option LockCall → Turn → Turn
end_of n a None u = u
end_of n a (Some c) u = end_in n a c.phase c u

-- the call is answered, where it is a deletion that waits for nobody
abbrev pub deleted_in : ℕ → ℕ → LockPhase → LockCall → Turn → Turn
deleted_in n a (LockPhase.Deleting owing) c u = if is_empty n owing then close_call n a c true u else u
deleted_in n a _ c u = u

-- the same, where the process has a call
abbrev pub deleted_of : ℕ → ℕ → Option LockCall → Turn → Turn
deleted_of n a None u = u
deleted_of n a (Some c) u = deleted_in n a c.phase c u
