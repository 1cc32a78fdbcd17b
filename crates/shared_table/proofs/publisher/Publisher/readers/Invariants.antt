use Rattle.std.proofs.Common.{◌≡◌}
use Rattle.shared_table.proofs.publisher.Publisher.readers.Given as goal

abbrev pub invariant-loop : goal.invariant-loop
invariant-loop l = (l.self ≡ l.fn.self) × (l.readers ≡ l.fn.self.known)
