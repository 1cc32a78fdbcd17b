-- What those are told who asked.
use Rattle.std.specs.Prelude.{ℕ, Option, Some, None, Result, Ok, Err, List, [], ◌∷◌}
use Rattle.protocol_model.specs.Event.{Answer as AnyAnswer}
use Rattle.node_log.specs.NodeEventsSeen.{answer_of}
use Rattle.node_loop.specs.declared.item.Ticket.{Ticket}
use Rattle.node_loop.specs.declared.replies.Effect.{Effect}
use Rattle.node_loop.specs.declared.replies.Effect.TheVariants as effect
use Rattle.node_loop.specs.declared.replies.TaskFault.{TaskFault}
use Rattle.node_loop.specs.declared.replies.TaskReply.{TaskReply}

-- what came of a task that was accepted
pub data Came : Type 0 where
  Answered : (stamp : ℕ) (answer : AnyAnswer) → Came  -- by the step of this stamp
  Made : Came  -- an exit or a retry, which has no answer
  Left : Came  -- the node has left

-- the owner of a ticket is told so
pub record Told : Type 0 where
  pub ticket : Ticket
  pub outcome : Result Came TaskFault

-- what came of it, with the answer as the protocol has it
abbrev pub came_of : Effect → Came
came_of (effect.Answered stamp a) = Answered stamp (answer_of a)
came_of effect.Made = Made
came_of effect.Left = Left

-- the same of an outcome
abbrev pub outcome_of : Result Effect TaskFault → Result Came TaskFault
outcome_of (Ok e) = Ok (came_of e)
outcome_of (Err fault) = Err fault

abbrev pub told_by : TaskReply → Told
told_by r = record { ticket = r.ticket; outcome = outcome_of r.outcome }

-- without a ticket nobody is told
abbrev pub tell : Option Ticket → Result Came TaskFault → List Told
tell None outcome = []
tell (Some t) outcome = record { ticket = t; outcome = outcome } ∷ []
