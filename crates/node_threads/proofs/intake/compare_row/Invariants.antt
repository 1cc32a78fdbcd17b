use Rattle.std.proofs.Common.{◌≡◌, ◌++◌, length}
use Rattle.node_threads.specs.Drawing.{CompareAll}
use Rattle.node_threads.proofs.intake.compare_row.Given as goal

abbrev pub invariant-loop-line : goal.invariant-loop-line
invariant-loop-line l = record {
  same : l.intakes ≡ l.fn.intakes;
  parts : l.yielded ++ l.line-iterator.rest.items ≡ l.fn.row.items;
  at : l.place ≡ length l.yielded;
  compared : CompareAll l.yielded l.fn.intakes;
}
