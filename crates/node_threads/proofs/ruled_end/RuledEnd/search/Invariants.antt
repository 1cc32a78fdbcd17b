use Rattle.std.proofs.Common.{◌≡◌, ◌-◌, List}
use Rattle.term.specs.declared.limits.TheConstants.{INBOX_ROOM}
use Rattle.node_loop.specs.declared.item.Task.{Task}
use Rattle.node_threads.specs.Traffics.{with_tasks, lasting}
use Rattle.node_threads.proofs.ruled_end.RuledEnd.search.Given as goal

abbrev pub invariant-loop-self : goal.invariant-loop-self
invariant-loop-self g l = record { came : (more : List Task) × (lasting l.self ≡ with_tasks more (lasting l.fn.self)) }

abbrev pub decreases-loop-self : goal.decreases-loop-self
decreases-loop-self g l = INBOX_ROOM - l.self.looks
