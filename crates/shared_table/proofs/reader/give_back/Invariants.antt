use Rattle.std.proofs.Common.{◌≡◌}
use Rattle.shared_table.proofs.reader.give_back.Given as goal

abbrev pub invariant-loop : goal.invariant-loop
invariant-loop l = l.home.book ≡ l.waiting.book
