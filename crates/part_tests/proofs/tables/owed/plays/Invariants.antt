use Rattle.exit_watch.specs.WatchState.{AreSuspected}
use Rattle.part_tests.proofs.tables.owed.plays.Given as goal

abbrev pub invariant-loop-row : goal.invariant-loop-row
invariant-loop-row l = AreSuspected l.watch l.table
