use Rattle.std.proofs.Common.{◌≡◌, ◌++◌, map}
use Rattle.node_threads.specs.Drawing.{AllCompared}
use Rattle.node_threads.proofs.intake.compare_all.Given as goal

abbrev pub invariant-loop-row : goal.invariant-loop-row
invariant-loop-row l = record {
  same : l.intakes ≡ l.fn.intakes;
  parts : l.yielded ++ l.row-iterator.rest.items ≡ l.fn.rows.items;
  compared : AllCompared (map (λ row. row.items) l.yielded) l.fn.intakes;
}
