-- Why a seat isn't made, or what it asks isn't done.
use Rattle.std.specs.Prelude.{ℕ, Bool, codes, true, false, ◌≡◌, ◌⊎◌, Option, Some, None, Result, Ok, Err, List, [], ◌∷◌, ◌++◌}
use Rattle.shared_table.specs.declared.LocalEvent.{LocalEvent}
use Rattle.shared_table.specs.declared.TaskFault.{TaskFault}
use Rattle.shared_table.specs.declared.TaskFault.TheVariants as of_task
use Rattle.shared_table.specs.NodeEventsWords.{step_word}
use Rattle.node_seats.specs.declared.fault.SeatFault.{SeatFault}
use Rattle.node_seats.specs.declared.fault.SeatFault.TheVariants.{NoSuchNode, NodeLeft, Closed, SeatsSpent, Step, Memory}

-- the node's refusal, as the seat answers it
abbrev pub fault_by : TaskFault → SeatFault
fault_by of_task.NoSuchNode = NoSuchNode
fault_by of_task.NodeLeft = NodeLeft
fault_by (of_task.Step fault) = Step fault

-- the word for which a seat refuses what it is asked
abbrev pub seat_word : SeatFault → List ℕ
seat_word NoSuchNode = codes "no_such_node"
seat_word NodeLeft = codes "node_left"
seat_word Closed = codes "closed"
seat_word SeatsSpent = codes "seats_spent"
seat_word (Step f) = step_word f
seat_word Memory = codes "memory"

-- what a caller is told: a node has the nodes of its cluster, and calls none of them a stranger
abbrev pub told_as : {A : Type 0} → Result A SeatFault → Result A SeatFault
told_as (Ok a) = Ok a
told_as (Err NoSuchNode) = Err Closed
told_as (Err fault) = Err fault

-- why it isn't done what is asked: a contact is called a stranger only where it isn't known
abbrev pub IsAskRefused : SeatFault → Bool → Type 0
IsAskRefused NoSuchNode known = known ≡ false
IsAskRefused _ known = Unit {0}

-- What the node was asked for where an event comes to this: for it once where the node refused it itself, for nothing where its contact is
-- a stranger, and for it once or for nothing where no reply comes any more. To nothing else it comes where memory was there for it
abbrev pub MayAsk : SeatFault → LocalEvent → List LocalEvent → List LocalEvent → Type 0
MayAsk NoSuchNode e before after = after ≡ before
MayAsk (Step fault) e before after = after ≡ before ++ e ∷ []
MayAsk NodeLeft e before after = (after ≡ before) ⊎ (after ≡ before ++ e ∷ [])
MayAsk Closed e before after = (after ≡ before) ⊎ (after ≡ before ++ e ∷ [])
MayAsk _ e before after = ⊥

-- why nothing is asked for what there was no memory to make, by what the caller has against it, if anything: that comes first
abbrev pub unmade : Option SeatFault → SeatFault
unmade None = Memory
unmade (Some cause) = cause

-- What that is: the contact is a stranger; or it is known, and no reply comes any more, or there was no memory
abbrev pub IsUnmade : SeatFault → Bool → Type 0
IsUnmade NoSuchNode known = known ≡ false
IsUnmade NodeLeft known = known ≡ true
IsUnmade Closed known = known ≡ true
IsUnmade Memory known = known ≡ true
IsUnmade _ known = ⊥

-- why a seat isn't made: whether the cluster has the node, and whether it can make no further seat
abbrev pub IsSeatRefused : SeatFault → Bool → Bool → Type 0
IsSeatRefused NoSuchNode known spent = known ≡ false
IsSeatRefused SeatsSpent known spent = (known ≡ true) × (spent ≡ true)
IsSeatRefused Memory known spent = (known ≡ true) × (spent ≡ false)
IsSeatRefused _ known spent = ⊥
