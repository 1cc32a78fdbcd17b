-- What was told lasts: it stands in the log that the thread of the node leaves behind.
use Rattle.std.specs.Prelude.{ℕ, true, ◌≡◌, List, Ok}
use mathlib.Core.List.{IsPrefix}
use Rattle.shared_table.specs.declared.Answer.{Answer}
use Rattle.shared_table.specs.declared.Ticket.{Ticket}
use Rattle.shared_table.specs.declared.Effect.TheVariants.{Answered, Left}
use Rattle.shared_table.specs.declared.Moment.{Moment}
use Rattle.shared_table.specs.NodeEventsSeen.{answer_of}
use Rattle.shared_table.specs.Answers.{LogsAnswer}
use Rattle.shared_table.specs.Left.{logs_leave}
use Rattle.shared_table.specs.Held.{Looping}
use Rattle.shared_table.specs.Moments.{ArePast}
use Rattle.shared_table.specs.Readers.{Seen}
use Rattle.node_seats.specs.Replies.{IsToldTo}

-- where an answer was told, and the moments that were known then, or more of them, are past, the loop that ended has it in its log
abbrev pub AnswersLast : Type 0
AnswersLast = (name : ℕ) (ticket : Ticket) (stamp : ℕ) (answer : Answer) (s : Seen) (more : List Moment) (end : Looping)
    → IsToldTo name ticket (Ok (Answered stamp answer)) s → IsPrefix s.known.log more → ArePast more end → LogsAnswer end.log stamp (answer_of answer)

-- so of a leave
abbrev pub LeavesLast : Type 0
LeavesLast = (name : ℕ) (ticket : Ticket) (s : Seen) (more : List Moment) (end : Looping)
    → IsToldTo name ticket (Ok Left) s → IsPrefix s.known.log more → ArePast more end → logs_leave end.log ≡ true
