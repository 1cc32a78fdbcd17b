use Rattle.std.proofs.Common.{◌≡◌, ◌+◌, ◌++◌, map, take, vec_len}
use Rattle.std.specs.Prelude.{All}
use Rattle.node_threads.specs.Wires.{name_of}
use Rattle.node_threads.specs.Berths.{wired_of, IsOpened}
use Rattle.node_threads.proofs.berths.open_all.Given as goal

abbrev pub invariant-loop-node : goal.invariant-loop-node
invariant-loop-node g l = record {
  names : map name_of (wired_of l.berths.items) ≡ map name_of (wired_of l.fn.berths.items) ++ take l.node-index l.nodes;
  opened : All (IsOpened l.opening) l.berths.items;
  long : vec_len l.berths ≡ vec_len l.fn.berths + l.node-index;
}
