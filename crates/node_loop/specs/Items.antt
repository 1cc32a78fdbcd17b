-- What a node's loop does with an item, or where it finds none.
use Rattle.std.specs.Prelude.{ℕ, Bool, true, false, ◌≡◌, ◌≤◌, ◌-◌, ◌⊎◌, Option, None, Ok, Err, MatchResult, List, [], ◌∷◌, ◌++◌, length, MatchBool}
use Rattle.node_log.specs.declared.StepFault.{StepFault}
use Rattle.node_log.specs.NodeEventsSeen.{fault_of, is_memory}
use Rattle.node_core.specs.Steps.{refusal_of}
use Rattle.node_log.specs.declared.LocalEvent.{LocalEvent}
use Rattle.node_log.specs.declared.LocalEvent.TheVariants.{Retry, Leave}
use Rattle.node_log.specs.Events.{node_event, is_leave, knows_contact}
use Rattle.node_loop.specs.declared.item.Item.{Item}
use Rattle.node_loop.specs.declared.item.Item.TheVariants as item
use Rattle.node_loop.specs.declared.item.Stamped.{Stamped}
use Rattle.node_loop.specs.declared.item.Ticket.{Ticket}
use Rattle.node_loop.specs.declared.replies.TaskFault.{TaskFault}
use Rattle.node_loop.specs.declared.replies.TaskFault.TheVariants.{NoSuchNode, NodeLeft, Step}
use Rattle.node_loop.specs.declared.fault.TurnFault.TheVariants.{Memory}
use Rattle.node_loop.specs.Told.{tell}
use Rattle.node_loop.specs.declared.edit.Edit.TheVariants as edit
use Rattle.node_loop.specs.declared.edit.Note.TheVariants.{One}
use Rattle.node_loop.specs.declared.edit.Owed.{Owed}
use Rattle.node_loop.specs.Owing.{with_note}
use Rattle.node_loop.specs.Desks.{left_by}
use Rattle.node_loop.specs.Held.{Looping, is_due, is_free_to_leave, can_step}
use Rattle.term.specs.declared.limits.TheConstants.{MOST_TURNS}
use Rattle.node_loop.specs.Steps.{Cause, by_event, by_letter, desk_of, Makes, Outcome, Ends, Goes}

-- a letter is read, but by a node that has left
abbrev pub Reads : ℕ → Stamped → Looping → Outcome → Looping → Type 0
Reads from l a r b = MatchBool a.left ((r ≡ Ok tt) × (b ≡ a)) (Goes (by_letter from l a) a r b)

-- the owner of the ticket is told so, if there is memory
abbrev pub Refuses : Option Ticket → TaskFault → Looping → Outcome → Looping → Type 0
Refuses ticket fault a r b =
    MatchResult r
    (λ _. b ≡ record a { desk = record a.desk { replies = a.desk.replies ++ tell ticket (Err fault) } })
    (λ why. (why ≡ Memory) × (b ≡ a))

-- the leave waits behind the others, if there is memory
abbrev pub WaitsToLeave : Option Ticket → Looping → Outcome → Looping → Type 0
WaitsToLeave ticket a r b =
    MatchResult r (λ _. b ≡ record a { desk = record a.desk { leaves = a.desk.leaves ++ ticket ∷ [] } })
    (λ why. (why ≡ Memory) × (b ≡ a))

-- the core takes the step of an event, or it refuses it and the owner of the ticket is told so
abbrev pub Asks : Option Ticket → LocalEvent → Looping → Outcome → Looping → Type 0
Asks ticket e a r b =
    Goes (by_event ticket e a) a r b
    ⊎ ((fault : StepFault) × (is_memory fault ≡ false) × (refusal_of (node_event e) a.core ≡ fault_of fault)
    × Refuses ticket (Step fault) a r b)

-- a task is refused where its contact isn't of the world, and then by a node that has left; a leave waits
abbrev pub Accepts : Option Ticket → LocalEvent → Looping → Outcome → Looping → Type 0
Accepts ticket e a r b =
    MatchBool (knows_contact a.world e)
    (MatchBool a.left (Refuses ticket NodeLeft a r b)
    (MatchBool (is_leave e) (WaitsToLeave ticket a r b) (Asks ticket e a r b)))
    (Refuses ticket NoSuchNode a r b)

abbrev pub Handles : ℕ → Item → Looping → Outcome → Looping → Type 0
Handles from (item.Letter l) a r b = Reads from l a r b
Handles from (item.Task t) a r b = Accepts t.ticket t.event a r b

-- whose leave is tried
abbrev pub leaver : List (Option Ticket) → Option Ticket
leaver [] = None
leaver (t ∷ ts) = t

abbrev pub by_leave : Looping → Cause
by_leave a = by_event (leaver a.desk.leaves) Leave a

-- readers are to be shown that the node has left
abbrev pub with_leave : Looping → Owed
with_leave a = with_note (One edit.Leave) (length a.log.entries) a.owed

-- the step of a leave is made, and the node has left
pub record Departs (a b : Looping) : Type 0 where
  pub stepped : Looping
  pub step : Makes (by_leave a) a stepped
  pub owed : stepped.owed ≡ a.owed
  pub behind : b ≡ record stepped { left = true; desk = left_by stepped.desk; owed = with_leave stepped }

-- a leave that waits is accepted as soon as it can be
abbrev pub Leaves : Looping → Outcome → Looping → Type 0
Leaves a r b =
    MatchBool (is_free_to_leave a)
    (MatchResult r (λ _. Departs a b)
    (λ why. Ends why (by_leave a) (λ core answers. left_by (desk_of (by_leave a) a core answers)) a b))
    ((r ≡ Ok tt) × (b ≡ a))

-- this comes first, and that behind it
pub record Then (first second : Looping → Outcome → Looping → Type 0) (a : Looping) (r : Outcome) (b : Looping) : Type 0 where
  pub between : Looping
  pub went : Outcome
  pub comes : first a went between
  pub behind : MatchResult went (λ _. second between r b) (λ why. (r ≡ Err why) × (b ≡ between))

-- A turn of the wait is over: a refused round is tried again where it was due, and then a leave that waits. Where it wasn't, it is so after as
-- many such turns as it waits
abbrev pub Waits : Looping → Outcome → Looping → Type 0
Waits a r b =
    let now : Looping = record a { wait = a.wait - 1 } in
    MatchBool (is_due a) (Then (Goes (by_event None Retry a)) Leaves now r b) (Leaves now r b)

-- by a letter a refused round may get another time to wait, and by a task it doesn't
abbrev pub Hears : Item → Looping → Looping → Type 0
Hears (item.Letter l) a b = (b ≡ record a { wait = b.wait }) × (b.wait ≤ MOST_TURNS)
Hears (item.Task t) a b = b ≡ a

-- it is a task
abbrev pub is_task : Item → Bool
is_task (item.Letter l) = false
is_task (item.Task t) = true

-- a turn that takes a task counts as one of the wait, so that no number of them holds a refused round up; one that reads a letter doesn't
abbrev pub behind_item : Item → Looping → Outcome → Looping → Type 0
behind_item (item.Letter l) = Leaves
behind_item (item.Task t) = Waits

-- an item was taken
pub record Works (from : ℕ) (i : Item) (a : Looping) (r : Outcome) (b : Looping) : Type 0 where
  pub hearing : Looping
  pub hears : Hears i (record a { worked = true }) hearing
  pub handles : Then (Handles from i) (behind_item i) hearing r b

-- none was found: the turn is one of the wait
abbrev pub Idles : Looping → Outcome → Looping → Type 0
Idles a r b = Waits (record a { worked = can_step a }) r b
