use Rattle.std.proofs.Common.{◌≡◌, ◌≤◌, ◌+◌, length, take}
use Rattle.node_events.specs.Made.{SendsAll}
use Rattle.node_events.proofs.turn.Turn.send_all.Given as goal

abbrev pub invariant-loop-node : goal.invariant-loop-node
invariant-loop-node l = record {
  sends : SendsAll (take l.node-index l.node-items) l.letter l.fn.self l.self;
  count : length l.self.letters ≤ length l.fn.self.letters + l.node-index;
  room : l.self.room ≡ l.fn.self.room;
}
