-- Calls that wait for their answers.
use Rattle.std.specs.Prelude.{ℕ, Bool, false, ◌==◌, not, if◌then◌else◌, Option, Some, None, is_none, List, [], ◌∷◌, filter}
use Rattle.registry_model.specs.Process.{Process}
use Rattle.protocol_model.specs.Node.{call_of}
use Rattle.node_log.specs.declared.Call.{Call as ClientCall}
use Rattle.node_log.specs.declared.Call.TheVariants.{Spawn, Whereis, RegisteredNames, Notices, Register, ReRegister, Unregister, SetLock, DelLock, Join}
use Rattle.node_log.specs.declared.LocalEvent.{LocalEvent}
use Rattle.node_log.specs.declared.LocalEvent.TheVariants.{Call, Retry, Exit, Leave}
use Rattle.node_core.specs.CoreState.{CoreState}
use Rattle.node_core.specs.Seen.{node_of}
use Rattle.node_loop.specs.declared.item.Ticket.{Ticket}
use Rattle.node_loop.specs.declared.waiting.Caller.{Caller}
use Rattle.node_loop.specs.declared.waiting.Course.{Course}
use Rattle.node_loop.specs.declared.waiting.Course.TheVariants.{AtOnce, Accepted, Numbered, OfHolder}

-- look-ups and spawns are answered at once, other calls under their numbers
abbrev pub course_of_call : ClientCall → Course
course_of_call Spawn = AtOnce
course_of_call (Whereis x) = AtOnce
course_of_call RegisteredNames = AtOnce
course_of_call (Notices p) = AtOnce
course_of_call (Register pair) = Numbered
course_of_call (ReRegister pair) = Numbered
course_of_call (Unregister x) = Numbered
course_of_call (SetLock p id nodes retries) = OfHolder p
course_of_call (DelLock p id nodes) = OfHolder p
course_of_call (Join m) = Numbered

-- other events have no answer
abbrev pub course_of : LocalEvent → Course
course_of (Call c) = course_of_call c
course_of Retry = Accepted
course_of (Exit p) = Accepted
course_of Leave = AtOnce

-- who waits for the answer under this number
abbrev pub callers_of : Course → ℕ → Option Ticket → List Caller
callers_of course k None = []
callers_of AtOnce k (Some t) = []
callers_of Accepted k (Some t) = []
callers_of Numbered k (Some t) = record { number = k; holder = None; ticket = t } ∷ []
callers_of (OfHolder p) k (Some t) = record { number = k; holder = Some p; ticket = t } ∷ []

-- who waits under a number
abbrev pub ticket_under : ℕ → List Caller → Option Ticket
ticket_under k [] = None
ticket_under k (c ∷ cs) = if c.number == k then Some c.ticket else ticket_under k cs

-- nobody does any more
abbrev pub without : ℕ → List Caller → List Caller
without k = filter (λ c. not (c.number == k))

-- the process has no lock call at the node
abbrev pub has_none : CoreState → Option Process → Bool
has_none h None = false
has_none h (Some p) = is_none (call_of p (node_of h).calls)

-- a lock call that its node has dropped, as its process is dead
abbrev pub is_dropped : CoreState → Caller → Bool
is_dropped h c = has_none h c.holder
