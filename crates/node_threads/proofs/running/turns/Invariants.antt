use Rattle.std.proofs.Common.{ℕ, ◌≡◌}
use Rattle.protocol_model.specs.World.{Opening}
use Rattle.node_loop.specs.Coming.{IsLoopOf}
use Rattle.node_threads.specs.Ends.{fixed}
use Rattle.node_seats.specs.Publishing.{Publishes}
use Rattle.node_threads.specs.Soundness.{IsSoundAt}
use Rattle.node_threads.specs.Stops.{GoesOn}
use Rattle.node_threads.proofs.running.turns.Given as goal

abbrev pub invariant-loop : goal.invariant-loop
invariant-loop g l =
    (goal.iterator-loop g).can_next l.iterator' × (goal.iterator-loop g).is_finite l.iterator'
    × (l.node.log.node ≡ l.fn.node.log.node) × IsLoopOf l.fn.node.log.node l.node
    × ((o : Opening) → IsSoundAt o l.fn.node l.fn.end → IsSoundAt o l.node l.end)
    × (fixed l.end ≡ fixed l.fn.end) × Publishes l.node l.publisher.publisher
    × ((n : ℕ) × GoesOn n l.fn.node l.node)
    × (l.publisher.publisher.known.book ≡ l.fn.publisher.publisher.known.book)
    × (l.host ≡ l.fn.host)
