use Rattle.std.proofs.Common.{◌≡◌, map, take}
use Rattle.node_seats.specs.Callers.{nodes_at}
use Rattle.node_seats.specs.Seats.{new_seat}
use Rattle.node_threads.specs.Wires.{inboxes}
use Rattle.node_threads.proofs.crew.free_seat_of.Given as goal

abbrev pub invariant-loop-one : goal.invariant-loop-one
invariant-loop-one g l = record {
  same : l.running ≡ l.fn.running;
  seats : l.free ≡ map (new_seat l.place (nodes_at l.shared.hub.value)) (inboxes (take l.one-index l.fn.running));
}
