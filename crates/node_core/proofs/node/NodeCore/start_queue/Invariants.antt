use Rattle.std.proofs.Common.{◌≡◌, ◌+◌, ◌≤◌, false, length}
use Rattle.transaction.specs.Work.{begins_with_join}
use Rattle.node_events.specs.Made.{HasRoom}
use Rattle.node_core.proofs.Queues.{IsAtQueue}
use Rattle.node_core.proofs.node.NodeCore.start_queue.Given as goal

abbrev pub invariant-loop-self : goal.invariant-loop-self
invariant-loop-self g l = record {
  at : IsAtQueue l.fn.self l.fn.turn l.self l.turn;
  room : HasRoom 1 0 0 l.turn;
  entries : length l.turn.entries + length l.self.registrar.queue
      ≤ length l.fn.turn.entries + length l.fn.self.registrar.queue;
  answers : length l.turn.answers + length l.self.registrar.queue
      ≤ length l.fn.turn.answers + length l.fn.self.registrar.queue;
  first : begins_with_join l.fn.self.registrar.queue ≡ false
      → (l.self.registrar.queue ≡ l.fn.self.registrar.queue) × (l.turn ≡ l.fn.turn);
}

abbrev pub decreases-loop-self : goal.decreases-loop-self
decreases-loop-self g l = length l.self.registrar.queue
