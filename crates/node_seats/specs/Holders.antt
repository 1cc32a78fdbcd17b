-- The seat of a lock holder, as its transcript has its lock calls.
use Rattle.std.specs.Prelude.{ℕ, Bool, ◌≡◌, Option, Some, None, List, [], ◌∷◌, ◌++◌, Result, Ok, Err, if◌then◌else◌}
use Rattle.registry_model.specs.Process.{Process, is_process}
use Rattle.shared_table.specs.declared.Answer.{Answer}
use Rattle.shared_table.specs.declared.Call.{Call}
use Rattle.shared_table.specs.declared.Call.TheVariants.{SetLock, DelLock}
use Rattle.shared_table.specs.NodeEventsSeen.{reply_of}
use Rattle.shared_table.specs.declared.LocalEvent.TheVariants.{Call as Calls}
use Rattle.shared_table.specs.declared.WorldEvent.{WorldEvent}
use Rattle.shared_table.specs.declared.WorldEvent.TheVariants.{At}
use Rattle.shared_table.specs.declared.SeatEntry.{SeatEntry}
use Rattle.shared_table.specs.declared.Effect.TheVariants.{Answered as IsAnswer}
use Rattle.transaction.specs.declared.reply.LockReply.{LockReply}
use Rattle.transaction.specs.declared.reply.LockReply.TheVariants.{Set, Deleted}
use Rattle.node_seats.specs.declared.holder.HolderSeat.{HolderSeat}
use Rattle.node_seats.specs.declared.fault.SeatFault.{SeatFault}
use Rattle.node_seats.specs.Fences.{grants}
use Rattle.node_seats.specs.Seats.{Sitting, IsAnswered, with_answer, Unanswered}

-- the reply that an answered event is to this holder, if it is a lock call of it
abbrev pub lock_reply : Process → WorldEvent → Answer → List LockReply
lock_reply me (At a (Calls (SetLock holder id nodes retries))) answer =
    if is_process holder me then Set id (grants (reply_of answer.reply)) ∷ [] else []
lock_reply me (At a (Calls (DelLock holder id nodes))) answer = if is_process holder me then Deleted id ∷ [] else []
lock_reply me _ answer = []

abbrev pub lock_reply_in : Process → WorldEvent → Option Answer → List LockReply
lock_reply_in me event None = []
lock_reply_in me event (Some answer) = lock_reply me event answer

-- the replies to the holder's lock calls in a transcript
abbrev pub lock_replies : Process → List SeatEntry → List LockReply
lock_replies me [] = []
lock_replies me (e ∷ es) = lock_reply_in me e.event e.answer ++ lock_replies me es

-- a lock call was answered: its node's loop told the seat so, and it stands last in the transcript
pub record Grants (call : Call) (granted : Bool) (s t : Sitting) : Type 0 where
  pub answer : Answer
  pub stamp : ℕ
  pub told : IsAnswered s (Ok (IsAnswer stamp answer)) t
  pub says : grants (reply_of answer.reply) ≡ granted
  pub kept : t ≡ record (with_answer call stamp answer s) { seen = t.seen }

-- what a `set_lock` comes to
abbrev pub SetsLock : Call → Result Bool SeatFault → Sitting → Sitting → Type 0
SetsLock call (Ok granted) s t = Grants call granted s t
SetsLock call (Err fault) s t = Unanswered fault (Calls call) s t

-- what a `del_lock` comes to
abbrev pub DeletesLock : Call → Result Unit SeatFault → Sitting → Sitting → Type 0
DeletesLock call (Ok _) s t = (granted : Bool) × Grants call granted s t
DeletesLock call (Err fault) s t = Unanswered fault (Calls call) s t

-- whose seat it is
abbrev pub holder_of : {R : Type 0} → HolderSeat R → Process
holder_of s = s.holder

-- the replies to its lock calls so far
abbrev pub replies_of : {R : Type 0} → HolderSeat R → List LockReply
replies_of s = lock_replies s.holder s.seat.now.entries

-- behind a call it is the same holder's over the same seat, with these replies more
pub record Grows {R : Type 0} (s t : HolderSeat R) (more : List LockReply) : Type 0 where
  pub replies : replies_of t ≡ replies_of s ++ more
  pub holder : holder_of t ≡ holder_of s
  pub same_seat : t.seat.ghost_name ≡ s.seat.ghost_name
