-- Who waits at a node, and who is told what.
use Rattle.std.specs.Prelude.{ℕ, ◌≡◌, ◌==◌, not, if◌then◌else◌, Option, Some, None, Ok, Err, List, [], ◌∷◌, ◌++◌, map, filter, flat_map}
use Rattle.registry_model.specs.Process.{Process}
use Rattle.protocol_model.specs.Event.{Answer as AnyAnswer}
use Rattle.node_log.specs.declared.Answer.{Answer}
use Rattle.node_log.specs.declared.StepFault.TheVariants.{NotLive}
use Rattle.node_log.specs.NodeEventsSeen.{answer_of}
use Rattle.node_core.specs.CoreState.{CoreState}
use Rattle.node_loop.specs.declared.item.Ticket.{Ticket}
use Rattle.node_loop.specs.declared.replies.TaskFault.TheVariants.{NodeLeft, Step}
use Rattle.node_loop.specs.declared.waiting.Caller.{Caller}
use Rattle.node_loop.specs.declared.waiting.Course.{Course}
use Rattle.node_loop.specs.declared.waiting.Course.TheVariants.{Accepted}
use Rattle.node_loop.specs.Told.{Told, Answered, Made, Left, tell}
use Rattle.node_loop.specs.Waiting.{callers_of, ticket_under, without, is_dropped}

-- the calls that wait for their answers, the leaves that wait, and the replies, the oldest of each first
pub record Kept : Type 0 where
  pub calls : List Caller
  pub leaves : List (Option Ticket)
  pub replies : List Told

abbrev pub empty_desk : Kept
empty_desk = record { calls = []; leaves = []; replies = [] }

-- these are the first of those
abbrev pub Begins : List Told → List Told → Type 0
Begins some whole = (rest : List Told) × (whole ≡ some ++ rest)

-- whom an answer is for: whose step it is, where it has no number, or else who waits under its number
abbrev pub addressee : Option Ticket → List Caller → AnyAnswer → Option Ticket
addressee own calls a = if a.number == 0 then own else ticket_under a.number calls

-- who is answered, by the step of this stamp, waits no more
abbrev pub answered : ℕ → Option Ticket → AnyAnswer → Kept → Kept
answered stamp own a k = record k {
  calls = without a.number k.calls;
  replies = k.replies ++ tell (addressee own k.calls a) (Ok (Answered stamp a));
}

abbrev pub all_answered : ℕ → Option Ticket → List AnyAnswer → Kept → Kept
all_answered stamp own [] k = k
all_answered stamp own (a ∷ rest) k = all_answered stamp own rest (answered stamp own a k)

-- the owner of a lock call is told that its process is dead
abbrev pub dead_told : Option Process → Ticket → List Told
dead_told None t = []
dead_told (Some p) t = tell (Some t) (Err (Step (NotLive p)))

abbrev pub drop_told : CoreState → Caller → List Told
drop_told h c = if is_dropped h c then dead_told c.holder c.ticket else []

-- lock calls that the node has dropped wait no more
abbrev pub swept : CoreState → Kept → Kept
swept h k = record k {
  calls = filter (λ c. not (is_dropped h c)) k.calls;
  replies = k.replies ++ flat_map (drop_told h) k.calls;
}

-- what has no answer is accepted
abbrev pub acceptance : Course → Option Ticket → List Told
acceptance Accepted own = tell own (Ok Made)
acceptance _ own = []

-- so it is, and a numbered call waits
abbrev pub awaiting : Course → ℕ → Option Ticket → Kept → Kept
awaiting course number own k = record k {
  calls = k.calls ++ callers_of course number own;
  replies = k.replies ++ acceptance course own;
}

-- a step of this stamp was made for this ticket, and its answers are told
abbrev pub settled : ℕ → Course → Option Ticket → CoreState → List Answer → Kept → Kept
settled stamp course own h answers k =
    swept h (all_answered stamp own (map answer_of answers) (awaiting course h.last_call own k))

-- whose leave is the first, if one waits
abbrev pub first_leave : List (Option Ticket) → Option (Option Ticket)
first_leave [] = None
first_leave (t ∷ ts) = Some t

abbrev pub leave_refused : Option Ticket → List Told
leave_refused t = tell t (Err NodeLeft)

abbrev pub call_refused : Caller → List Told
call_refused c = tell (Some c.ticket) (Err NodeLeft)

-- the first leave is accepted, and no other
abbrev pub leaves_told : List (Option Ticket) → List Told
leaves_told [] = []
leaves_told (t ∷ ts) = tell t (Ok Left) ++ flat_map leave_refused ts

-- the node has left: nobody waits any more
abbrev pub left_by : Kept → Kept
left_by k = record {
  calls = [];
  leaves = [];
  replies = k.replies ++ leaves_told k.leaves ++ flat_map call_refused k.calls;
}
