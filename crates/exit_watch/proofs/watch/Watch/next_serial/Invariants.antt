use Rattle.std.proofs.Common.{◌+◌}
use Rattle.protocol_model.proofs.Serials.{AreDeadTo}
use Rattle.exit_watch.proofs.watch.Watch.next_serial.Given as goal

abbrev pub invariant-loop-serial : goal.invariant-loop-serial
invariant-loop-serial l = AreDeadTo l.self.watch (l.self.watch.last_serial + 1) l.serial
