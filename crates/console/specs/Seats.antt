-- A seat that answers what lines ask.
use Rattle.std.specs.Prelude.{Bool, ◌≡◌, ◌⊎◌, ⊤, Option, Some, None, Result, Ok, Err}
use Rattle.command_lines.specs.declared.Reply.{Reply}
use Rattle.command_lines.specs.declared.Reply.TheVariants as reply
use Rattle.node_seats.specs.declared.Transcript.{Transcript}
use Rattle.command_lines.specs.declared.LocalEvent.TheVariants as event
use Rattle.node_seats.specs.declared.Effect.TheVariants.{Made, Left}
use Rattle.node_seats.specs.declared.fault.SeatFault.{SeatFault}
use Rattle.registry_model.specs.Process.{Process}
use Rattle.node_seats.specs.declared.fault.SeatFault.TheVariants.{Step, Memory}
use Rattle.node_seats.specs.declared.StepFault.TheVariants.{NoSuchProcess}
use Rattle.node_seats.specs.Callers.{IsEnd, Learns}
use Rattle.node_seats.specs.Fences.{fence_of}
use Rattle.node_seats.specs.Seats.{Sitting, Answered, Unanswered, Done, LooksUp, owner_reply}
use Rattle.console.specs.declared.orders.Order.{Order}
use Rattle.console.specs.declared.orders.Order.TheVariants.{Call, Whereis, Exit, Leave, Wait}
use Rattle.console.specs.declared.orders.Awaited.{Awaited}
use Rattle.console.specs.declared.describing.DescribeFault.TheVariants.{Seat, TooMany}
use Rattle.console.specs.Describing.{Fact, Said, Says, Stand}
use Rattle.console.specs.Waits.{awaited_name, met_by}

-- so a wait ends: what is answered is what the last look-up found, or why there is none; or nobody waits any more, or no reply comes any more
abbrev pub EndsWait : Awaited → Sitting → Result Reply SeatFault → Sitting → Type 0
EndsWait a s (Ok r) t = (owner : Option Process) × LooksUp (awaited_name a) (Ok owner) s t × (met_by a owner ≡ Some r)
EndsWait a s (Err f) t = LooksUp (awaited_name a) (Err f) s t ⊎ (IsEnd f × (t ≡ s))

-- a look-up didn't find what is waited for
abbrev pub LooksPast : Awaited → Sitting → Sitting → Type 0
LooksPast a s t = (owner : Option Process) × LooksUp (awaited_name a) (Ok owner) s t × (met_by a owner ≡ None)

-- What an order was answered: the seat asked its node for just that, once, was told the answer by the node's loop, and it stands last in the
-- seat's transcript. For a refused one it asked once at most, and the transcript stays. A look-up asks the node for nothing: it is one in a
-- table that the node has shown. Nobody waits at a seat alone
abbrev pub SeatGives : Sitting → Order → Result Reply SeatFault → Sitting → Type 0
SeatGives s (Call c) (Ok r) t = Answered c r s t
SeatGives s (Whereis x) (Ok r) t = (owner : Option Process) × (r ≡ owner_reply owner) × LooksUp x (Ok owner) s t
SeatGives s (Whereis x) (Err f) t = LooksUp x (Err f) s t
SeatGives s (Exit p) (Ok r) t = (r ≡ reply.Ok) × Done (event.Exit p) Made s t
SeatGives s Leave (Ok r) t = (r ≡ reply.Ok) × Done event.Leave Left s t
SeatGives s (Wait a) (Ok r) t = ⊥
SeatGives s (Wait a) (Err f) t = IsEnd f × (t ≡ s)
SeatGives s (Call c) (Err f) t = Unanswered f (event.Call c) s t
SeatGives s (Exit p) (Err f) t = Unanswered f (event.Exit p) s t
SeatGives s Leave (Err f) t = Unanswered f event.Leave s t

-- the same of an order that is linked or isn't: that says how long it is waited for, and no more
abbrev pub SeatAnswers : Sitting → Order → Bool → Result Reply SeatFault → Sitting → Type 0
SeatAnswers s order linked r t = SeatGives s order r t

-- why nothing is said of a process at a seat: it is one of another node, or has a serial that wasn't given; or no reply comes any more, or there
-- is no memory
abbrev pub MayNotSay : SeatFault → Type 0
MayNotSay (Step NoSuchProcess) = ⊤
MayNotSay Memory = ⊤
MayNotSay f = IsEnd f

-- how a seat's node stands is told of that node, with the number of the step that granted the seat a lock last; or no reply comes any more.
-- Something is said only of the processes of that node. What lies under the lock of what was said no clause tells
abbrev pub SeatStands : Sitting → Fact → Type 0
SeatStands s (Stand (Ok status)) = (status.node.node ≡ s.node) × (status.fence ≡ fence_of s.nodes s.node s.granted)
SeatStands s (Stand (Err f)) = IsEnd f
SeatStands s (Said p said) = ⊤
SeatStands s (Says p text (Ok u)) = p.node ≡ s.node
SeatStands s (Says p text (Err TooMany)) = p.node ≡ s.node
SeatStands s (Says p text (Err (Seat f))) = MayNotSay f

-- this is the transcript of the seat
pub record IsTranscript (s : Sitting) (transcript : Transcript) : Type 0 where
  pub seat : transcript.seat ≡ s.seat
  pub node : transcript.node ≡ s.node
  pub entries : transcript.entries.items ≡ s.entries

-- it is a seat of the same node still, which knows of more moments of the same book, or of no more
pub record GoesOn (s t : Sitting) : Type 0 where
  pub node : t.node ≡ s.node
  pub learns : Learns s.seen t.seen
