use Rattle.std.proofs.Common.{◌≡◌, ◌++◌, map, take, drop}
use Rattle.node_threads.specs.Berths.{next_line, one_more}
use Rattle.node_threads.proofs.berths.lines_to.Given as goal

abbrev pub invariant-loop-berth : goal.invariant-loop-berth
invariant-loop-berth g l = record {
  more : l.berths ≡ map one_more (take l.berth-index l.fn.berths) ++ drop l.berth-index l.fn.berths;
  lines : l.lines.items ≡ map next_line (take l.berth-index l.fn.berths);
}
