use Rattle.std.proofs.Common.{◌≡◌}
use Rattle.node_seats.proofs.host.Host.stay.Given as goal

abbrev pub invariant-loop : goal.invariant-loop
invariant-loop g l =
    (goal.iterator-loop g).can_next l.iterator' × (goal.iterator-loop g).is_finite l.iterator'
    × (l.self-inside.rest.yields ≡ l.fn.self.yields) × (l.self-inside.slots ≡ l.fn.self.book)
