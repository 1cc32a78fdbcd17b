use Rattle.std.proofs.Common.{◌≡◌}
use Rattle.node_seats.specs.Callers.{nodes_of, seen_of}
use Rattle.node_seats.proofs.caller.Caller.outcome.Given as goal

abbrev pub invariant-loop : goal.invariant-loop
invariant-loop g l =
    (goal.iterator-loop g).can_next l.iterator' × (goal.iterator-loop g).is_finite l.iterator'
    × (l.self.place ≡ l.fn.self.place) × (l.self.node ≡ l.fn.self.node)
    × (nodes_of l.self ≡ nodes_of l.fn.self)
    × (l.self.next ≡ l.fn.self.next)
    × (seen_of l.self ≡ seen_of l.fn.self)
    × (l.self.line ≡ l.fn.self.line)
