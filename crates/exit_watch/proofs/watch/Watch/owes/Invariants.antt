use Rattle.std.proofs.Common.{◌≡◌, length}
use Rattle.exit_watch.specs.WatchState.{AreSuspected}
use Rattle.exit_watch.proofs.watch.Watch.owes.Given as goal

abbrev pub invariant-loop-serial : goal.invariant-loop-serial
invariant-loop-serial g l = record {
  node : l.self.node ≡ l.initial.self.node;
  watch : l.self.watch ≡ l.initial.self.watch;
  suspected : AreSuspected l.self (g.N.Names.contents l.names);
}

abbrev pub decreases-loop-serial : goal.decreases-loop-serial
decreases-loop-serial g l = length l.self.suspects
