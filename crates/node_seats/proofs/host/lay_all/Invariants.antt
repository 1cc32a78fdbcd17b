use Rattle.std.proofs.Common.{◌≡◌}
use Rattle.shared_table.specs.Coming.{IsLoopOf}
use Rattle.shared_table.specs.Onward.{ComesFrom}
use Rattle.node_seats.specs.Replies.{AreHeld}
use Rattle.node_seats.proofs.host.lay_all.Given as goal

abbrev pub invariant-loop : goal.invariant-loop
invariant-loop g l =
    (goal.iterator-loop g).can_next l.iterator' × (goal.iterator-loop g).is_finite l.iterator'
    × IsLoopOf l.fn.node.log.node l.node
    × (l.node ≡ record l.fn.node { desk = record l.fn.node.desk { replies = l.node.desk.replies } })
    × ComesFrom l.fn.node l.node
    × AreHeld l.fn.publisher.known.log l.node.desk.replies
    × (l.slots ≡ l.fn.slots)
