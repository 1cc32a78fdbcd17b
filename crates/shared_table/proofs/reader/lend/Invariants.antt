use Rattle.std.proofs.Common.{◌≡◌}
use Rattle.shared_table.proofs.reader.lend.Given as goal

abbrev pub invariant-loop : goal.invariant-loop
invariant-loop l = l.home ≡ l.fn.home
