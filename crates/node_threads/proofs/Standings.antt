-- What a cluster is told of how a node stands.
use Rattle.std.proofs.Common.{Bool, true, ◌≡◌, Result, Ok, Err}
use Rattle.std.specs.Prelude.{IfErr}
use Rattle.node_seats.specs.declared.fault.SeatFault.{SeatFault}
use Rattle.node_seats.specs.declared.fault.SeatFault.TheVariants.{NoSuchNode, NodeLeft, Closed, SeatsSpent, Step, Memory}
use Rattle.node_seats.specs.Callers.{IsEnd}
use Rattle.node_threads.specs.Clusters.{IsUntold}

-- a node of the cluster isn't told of only where nobody can tell any more
pub untold : {A : Type 0} (r : Result A SeatFault) (known : Bool) → known ≡ true → IfErr r IsEnd → IfErr r (λ fault. IsUntold fault known)
untold (Ok status) known here end = tt
untold (Err NoSuchNode) known here end = absurd end
untold (Err NodeLeft) known here end = (here, end)
untold (Err Closed) known here end = (here, end)
untold (Err SeatsSpent) known here end = (here, end)
untold (Err (Step fault)) known here end = absurd end
untold (Err Memory) known here end = (here, end)
