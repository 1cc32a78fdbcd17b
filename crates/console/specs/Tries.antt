-- How a lock is tried for.
use Rattle.std.specs.Prelude.{ℕ, Bool, true, false, ◌≡◌, ◌+◌, ⊤, Result, Ok, Err}
use Rattle.command_lines.specs.declared.Call.{Call}
use Rattle.command_lines.specs.declared.Call.TheVariants.{SetLock}
use Rattle.command_lines.specs.declared.Reply.{Reply}
use Rattle.command_lines.specs.declared.Reply.TheVariants.{False}
use Rattle.node_seats.specs.declared.Retries.{Retries}
use Rattle.node_seats.specs.declared.Retries.TheVariants.{Times, Endless}
use Rattle.node_seats.specs.declared.StepFault.TheVariants.{Busy}
use Rattle.node_seats.specs.declared.fault.SeatFault.{SeatFault}
use Rattle.node_seats.specs.declared.fault.SeatFault.TheVariants.{Step}

-- the call that tries for a lock: without a retry
abbrev pub try_for : Call → Call
try_for (SetLock p id nodes retries) = SetLock p id nodes (Times 0)
try_for c = c

-- how often a call may be retried
abbrev pub retries_in : Call → Retries
retries_in (SetLock p id nodes retries) = retries
retries_in c = Times 0

-- a try didn't get the lock, but a later one may: another has it, or another call of the process was just being answered
abbrev pub is_for_now : Result Reply SeatFault → Bool
is_for_now (Ok False) = true
is_for_now (Err (Step (Busy p))) = true
is_for_now _ = false

-- these are left where so many retries were made
abbrev pub AreLeft : Retries → ℕ → Retries → Type 0
AreLeft (Times n) made (Times left) = n ≡ left + made
AreLeft Endless made Endless = ⊤
AreLeft _ made _ = ⊥

-- one fewer is left
abbrev pub IsFewer : Retries → Retries → Type 0
IsFewer retries left = AreLeft retries 1 left
