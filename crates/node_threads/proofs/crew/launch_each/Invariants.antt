use Rattle.std.proofs.Common.{◌≡◌, ◌+◌, ◌≤◌, ◌++◌, length, vec_len}
use Rattle.std.specs.Vec.{vec_capacity}
use Rattle.node_threads.specs.Berths.{wired_of}
use Rattle.node_threads.proofs.crew.launch_each.Given as goal

abbrev pub invariant-loop-berth : goal.invariant-loop-berth
invariant-loop-berth g l = record {
  started : l.running.items ++ wired_of l.berth-iterator.rest.items ≡ l.fn.running.items ++ wired_of l.fn.berths.items;
  room : vec_len l.running + length l.berth-iterator.rest.items ≤ vec_capacity l.running;
}
