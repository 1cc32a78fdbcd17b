use Rattle.std.proofs.Common.{◌≡◌}
use Rattle.node_core.specs.Steps.{IsAsBefore}
use Rattle.node_loop.specs.Held.{written}
use Rattle.node_loop.proofs.stepping.step.Given as goal

abbrev pub invariant-loop : goal.invariant-loop
invariant-loop g l = record {
  core : IsAsBefore l.fn.core l.core;
  log : written (g.L.Record.logged l.log) ≡ written (g.L.Record.logged l.fn.log);
}
