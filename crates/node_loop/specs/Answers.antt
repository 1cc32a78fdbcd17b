-- Where who asked is told an answer, the node's log has it, in the step whose stamp is told with it.
use Rattle.std.specs.Prelude.{ℕ, ◌≡◌, Contains, map, Ok}
use Rattle.protocol_model.specs.Event.{Answer as AnyAnswer}
use Rattle.node_log.specs.Entries.{SeatedEntry}
use Rattle.node_log.specs.NodeEventsSeen.{answer_of}
use Rattle.node_core.specs.CoreState.{CoreState}
use Rattle.node_loop.specs.declared.item.Ticket.{Ticket}
use Rattle.node_loop.specs.Told.{Told, Answered}
use Rattle.node_loop.specs.Held.{Looping, Written}
use Rattle.node_loop.specs.Coming.{IsLoopOf, IsLoopFrom}

-- some step of the log has this stamp, and gives this answer
pub record LogsAnswer (log : Written) (stamp : ℕ) (answer : AnyAnswer) : Type 0 where
  pub entry : SeatedEntry
  pub logged : Contains log.entries entry
  pub stamped : entry.stamp ≡ stamp
  pub given : Contains (map answer_of entry.answers) answer

-- the owner of a ticket is told this answer, by the step of this stamp
abbrev pub told_answer : Ticket → ℕ → AnyAnswer → Told
told_answer t stamp answer = record { ticket = t; outcome = Ok (Answered stamp answer) }

-- where the loop of a node holds such a reply, its log has that step
abbrev pub AnswersAreLogged : Type 0
AnswersAreLogged = (name : ℕ) (b : Looping) → IsLoopOf name b → (t : Ticket) (stamp : ℕ) (answer : AnyAnswer)
    → Contains b.desk.replies (told_answer t stamp answer) → LogsAnswer b.log stamp answer

-- and where nodes come back, whatever a node began with
abbrev pub AnswersAreLoggedFrom : Type 0
AnswersAreLoggedFrom = (start : ℕ) (core : CoreState) (b : Looping) → IsLoopFrom start core b → (t : Ticket) (stamp : ℕ) (answer : AnyAnswer)
    → Contains b.desk.replies (told_answer t stamp answer) → LogsAnswer b.log stamp answer
