use Rattle.std.proofs.Common.{◌≤◌}
use Rattle.server.specs.Staying.{AreSeatsOf, GivesOut}
use Rattle.server.proofs.staying.seats.seats_of.Given as goal

abbrev pub invariant-loop : goal.invariant-loop
invariant-loop l = record {
  given : GivesOut l.fn.cluster l.cluster;
  seats : AreSeatsOf l.node l.counter l.seats.items;
  within : l.counter ≤ l.many;
}
