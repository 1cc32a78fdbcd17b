use Rattle.shared_table.proofs.Lying.{forks}
use Rattle.shared_table.proofs.chute.Chute.another.Goals as goal

pub another-pass-requires-clause-rule : goal.another-pass-requires-clause-rule
another-pass-requires-clause-rule g c = let of = c.self.invariant.1 in forks g.T.Booked.token _ _ of.0 of.1
