use Rattle.std.proofs.Common.{◌≡◌, ◌≤◌, None}
use Rattle.std.specs.Prelude.{replicate}
use Rattle.server.proofs.staying.hall.no_handles.Given as goal

abbrev pub invariant-loop : goal.invariant-loop
invariant-loop l = record {
  filled : l.handles.items ≡ replicate l.counter None;
  within : l.counter ≤ l.workers;
}
