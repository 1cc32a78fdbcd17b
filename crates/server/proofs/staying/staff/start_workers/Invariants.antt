use Rattle.std.proofs.Common.{◌≤◌}
use Rattle.server.specs.Staying.{Starts}
use Rattle.server.proofs.staying.staff.start_workers.Given as goal

abbrev pub invariant-loop-place : goal.invariant-loop-place
invariant-loop-place g l = record {
  started : Starts l.office.nodes l.place l.fn.threads.items l.threads.items;
  within : l.place ≤ l.workers;
}
