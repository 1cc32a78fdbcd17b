-- Seats, and what they were answered.
use Rattle.std.specs.Prelude.{ℕ, true, ◌≡◌, ◌==◌, ◌⊎◌, Option, Some, None, Result, Ok, Err, List, [], ◌∷◌, ◌++◌, length}
use Rattle.std.specs.List.{find}
use Rattle.link.specs.Mailboxes.{Room}
use Rattle.shared_table.specs.declared.Answer.{Answer}
use Rattle.shared_table.specs.declared.Call.{Call}
use Rattle.shared_table.specs.declared.Reply.{Reply}
use Rattle.shared_table.specs.declared.Reply.TheVariants.{Pid, Undefined}
use Rattle.shared_table.specs.NodeEventsSeen.{answer_of, reply_of, is_list}
use Rattle.registry_model.specs.Process.{Process, Text}
use Rattle.shared_table.specs.declared.LocalEvent.{LocalEvent}
use Rattle.shared_table.specs.declared.LocalEvent.TheVariants as event
use Rattle.shared_table.specs.declared.WorldEvent.TheVariants.{At}
use Rattle.shared_table.specs.declared.SeatEntry.{SeatEntry}
use Rattle.shared_table.specs.Events.{knows_contact}
use Rattle.shared_table.specs.declared.Item.{Item}
use Rattle.shared_table.specs.declared.Effect.{Effect}
use Rattle.shared_table.specs.declared.Effect.TheVariants.{Answered as IsAnswer}
use Rattle.node_seats.specs.declared.caller.Caller.{Caller}
use Rattle.node_seats.specs.declared.parcel.Parcel.{Parcel}
use Rattle.node_seats.specs.declared.place.Place.{Place}
use Rattle.node_seats.specs.declared.fault.SeatFault.{SeatFault}
use Rattle.node_seats.specs.declared.fault.SeatFault.TheVariants.{NodeLeft, Closed, SeatsSpent, Step, Memory}
use Rattle.shared_table.specs.declared.TaskFault.{TaskFault}
use Rattle.shared_table.specs.declared.TaskFault.TheVariants as task
use Rattle.node_seats.specs.Addresses.{Inbox}
use Rattle.shared_table.specs.declared.reader.Lookup.TheVariants.{Owner, Left as IsLeft}
use Rattle.shared_table.specs.Readers.{Seen, Finds, unseen}
use Rattle.node_seats.specs.Callers.{name_of, place_of, nodes_of, asked_by, seen_of, Learns}
use Rattle.node_seats.specs.Faults.{MayAsk}
use Rattle.node_seats.specs.Fences.{HasLogged, granted_by}
use Rattle.node_seats.specs.Replies.{IsToldTo, HasShown}

-- what comes of a look-up in a node's table
abbrev pub Looked : Result (Option Process) SeatFault → ℕ → Text → Seen → Seen → Type 0
Looked (Ok owner) node x s t = Finds (Owner owner) node x s t
Looked (Err NodeLeft) node x s t = Finds IsLeft node x s t
Looked (Err Closed) node x s t = t ≡ s
Looked (Err fault) node x s t = ⊥

-- a seat: its number, the slot of its replies, its node, the inbox of that, the nodes of its cluster, the events that it has asked its node
-- for, the book of its node with the moments of it that it knows, what it was granted last, and its transcript, the oldest of each first
pub record Sitting : Type 0 where
  pub seat : ℕ
  pub slot : ℕ
  pub node : ℕ
  pub room : Room (Parcel Item)
  pub nodes : List ℕ
  pub asked : List LocalEvent
  pub seen : Seen
  pub granted : Option ℕ  -- the stamp of the step that granted it a lock last
  pub entries : List SeatEntry

-- the seat of a caller, with this transcript, which was granted no lock yet
abbrev pub sitting : Caller → List SeatEntry → Sitting
sitting c es = record {
  seat = (place_of c).seat;
  slot = (place_of c).slot;
  node = name_of c;
  room = c.line.room;
  nodes = nodes_of c;
  asked = asked_by c;
  seen = seen_of c;
  granted = None;
  entries = es;
}

-- the seat of this place at the node of this inbox, in a cluster of these nodes, where nothing was asked yet
abbrev pub new_seat : Place → List ℕ → Inbox → Sitting
new_seat place nodes inbox = record {
  seat = place.seat;
  slot = place.slot;
  node = inbox.node;
  room = inbox.room;
  nodes = nodes;
  asked = [];
  seen = unseen inbox.book;
  granted = None;
  entries = [];
}

-- the first of these seats that is at this node
abbrev pub first_at : ℕ → List Sitting → Option Sitting
first_at name seats = find (λ s. s.node == name) seats

-- the node was asked for this event, once; the transcript ends with it, and with what was answered
abbrev pub with_entry : LocalEvent → Option Answer → Sitting → Sitting
with_entry e answer s = record s {
  asked = s.asked ++ e ∷ [];
  entries = s.entries ++ record { event = At s.node e; answer = answer } ∷ [];
}

-- The loop of the seat's node told the seat so, for what it asked next, under the ticket of that, at one of the moments that the seat t knows: they
-- are of the node's own book, and begin with those that were known before. What the node then showed its readers is behind no more of its log than
-- the seat t was told of, and behind a log of that length it has shown an edition of its table
pub record IsAnswered (s : Sitting) (outcome : Result Effect TaskFault) (t : Sitting) : Type 0 where
  pub told : IsToldTo s.node (record { seat = s.seat; slot = s.slot; number = length s.asked }) outcome t.seen
  pub learns : Learns s.seen t.seen
  pub shown : HasShown s.node t.seen.told

-- a refusal by the node is its loop's
abbrev pub IsToldFault : Sitting → SeatFault → Sitting → Type 0
IsToldFault s (Step fault) t = IsAnswered s (Err (task.Step fault)) t
IsToldFault s _ t = Learns s.seen t.seen

-- an event comes to this fault: the node was asked for it once at most, and the transcript is as it was
pub record IsRefused (fault : SeatFault) (e : LocalEvent) (s t : Sitting) : Type 0 where
  pub asked : MayAsk fault e s.asked t.asked
  pub kept : t ≡ record s { asked = t.asked; seen = t.seen }
  pub told : IsToldFault s fault t

-- nothing was asked, and nothing has changed: there was no memory for it, and its contact, if it has one, is of the cluster
abbrev pub IsUnasked : LocalEvent → Sitting → Sitting → Type 0
IsUnasked e s t = (t ≡ s) × (knows_contact s.nodes e ≡ true)

-- the node was asked for a call, once, and its loop told the seat an answer. That is a list, for whose copy there was no memory, and the
-- transcript is as it was
pub record KeepsNoList (call : Call) (s t : Sitting) : Type 0 where
  pub answer : Answer
  pub stamp : ℕ
  pub list : is_list answer.reply ≡ true
  pub told : IsAnswered s (Ok (IsAnswer stamp answer)) t
  pub kept : t ≡ record s { asked = s.asked ++ event.Call call ∷ []; seen = t.seen }

-- that comes of calls alone
abbrev pub IsUncopied : LocalEvent → Sitting → Sitting → Type 0
IsUncopied (event.Call call) s t = KeepsNoList call s t
IsUncopied _ s t = ⊥

-- Why an event has no answer. Memory was refused before anything was asked, or to the copy of a reply; and a seat that was made isn't
-- refused for want of seats
abbrev pub Unanswered : SeatFault → LocalEvent → Sitting → Sitting → Type 0
Unanswered Memory e s t = IsUnasked e s t ⊎ IsUncopied e s t
Unanswered SeatsSpent e s t = ⊥
Unanswered fault e s t = IsRefused fault e s t

-- an event that has no answer is done: its node's loop told the seat that it came to this, and it stands last in the transcript
pub record Done (e : LocalEvent) (effect : Effect) (s t : Sitting) : Type 0 where
  pub told : IsAnswered s (Ok effect) t
  pub kept : t ≡ record (with_entry e None s) { seen = t.seen }

-- behind an answer to this call, by a step of this stamp: it stands last in the transcript
abbrev pub with_answer : Call → ℕ → Answer → Sitting → Sitting
with_answer call stamp answer s =
    record (with_entry (event.Call call) (Some answer) s) { granted = granted_by call stamp answer s.granted }

-- the call got this reply: its node's loop told the seat an answer that says so, by a step that stands in the node's log, and the call stands
-- last in the transcript with that; nothing else changed
pub record Answered (call : Call) (reply : Reply) (s t : Sitting) : Type 0 where
  pub answer : Answer
  pub stamp : ℕ
  pub told : IsAnswered s (Ok (IsAnswer stamp answer)) t
  pub logged : HasLogged s.node stamp (answer_of answer)
  pub says : reply_of answer.reply ≡ reply_of reply
  pub kept : t ≡ record (with_answer call stamp answer s) { seen = t.seen }

-- what a look-up of one name is answered
abbrev pub owner_reply : Option Process → Reply
owner_reply (Some p) = Pid p
owner_reply None = Undefined

-- What a look-up beside the node comes to: nothing is asked, and the transcript stays. It is the look-up in the table at a moment of the
-- seat's own node, the last that the seat then knows, behind no less of the node's log than the seat was told of or has read; the node has
-- left where it has shown that
pub record LooksUp (name : Text) (result : Result (Option Process) SeatFault) (s t : Sitting) : Type 0 where
  pub kept : t ≡ record s { seen = t.seen }
  pub finds : Looked result s.node name s.seen t.seen
