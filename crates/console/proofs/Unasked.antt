-- What isn't put to a node.
use Rattle.std.proofs.Common.{true, refl}
use Rattle.node_seats.specs.declared.fault.SeatFault.{SeatFault}
use Rattle.node_seats.specs.declared.fault.SeatFault.TheVariants.{NoSuchNode, NodeLeft, Closed, SeatsSpent, Step, Memory}
use Rattle.node_seats.specs.Callers.{IsEnd}
use Rattle.node_seats.specs.Faults.{IsUnmade}

-- where no reply comes any more there is a cause to make nothing
pub ended : (f : SeatFault) → IsEnd f → IsUnmade f true
ended NodeLeft e = refl
ended Closed e = refl
ended NoSuchNode e = absurd e
ended SeatsSpent e = absurd e
ended (Step fault) e = absurd e
ended Memory e = absurd e
