-- The words for which events are refused.
use Rattle.std.specs.Prelude.{ℕ, List, codes, Option, Some, None, option_map}
use Rattle.protocol_model.specs.Event.{Refusal}
use Rattle.protocol_model.specs.NamedEvents.{NamedRefusal, Plain, StillRunning, NotToldYet, CreationsSpent}
use Rattle.node_events.specs.declared.events.StepFault.{StepFault}
use Rattle.node_events.specs.Seen.{fault_of}

-- the word for which the world or a node refuses an event that is no restart
abbrev pub plain_word : Refusal → List ℕ
plain_word Refusal.NoSuchNode = codes "no_such_node"
plain_word Refusal.NodeLeft = codes "node_left"
plain_word Refusal.EmptyLink = codes "empty_link"
plain_word (Refusal.NotLive p) = codes "not_live"
plain_word (Refusal.Busy p) = codes "busy"
plain_word Refusal.Reserved = codes "reserved"
plain_word Refusal.UnknownNode = codes "unknown_node"
plain_word Refusal.AlreadyJoined = codes "already_joined"
plain_word Refusal.NoSuchProcess = codes "no_such_process"
plain_word Refusal.AlreadyExited = codes "already_exited"
plain_word Refusal.SerialsSpent = codes "serials_spent"
plain_word Refusal.NothingToRetry = codes "nothing_to_retry"
plain_word Refusal.HoldsLock = codes "holds_lock"
plain_word Refusal.CallsSpent = codes "calls_spent"

-- the word for which an event is refused; which node wasn't told yet isn't printed
abbrev pub refusal_word : NamedRefusal → List ℕ
refusal_word (Plain r) = plain_word r
refusal_word StillRunning = codes "still_running"
refusal_word (NotToldYet n) = codes "not_told_yet"
refusal_word CreationsSpent = codes "creations_spent"

-- the same, where memory was refused if the protocol refuses nothing
abbrev pub word_for : Option NamedRefusal → List ℕ
word_for (Some r) = refusal_word r
word_for None = codes "memory"

-- the word for which a node refuses an event
abbrev pub step_word : StepFault → List ℕ
step_word f = word_for (option_map Plain (fault_of f))
