use Rattle.shared_table.proofs.Lying.{takes}
use Rattle.shared_table.proofs.chute.Chute.take.Goals as goal

pub try_pop_as-requires-clause-rule : goal.try_pop_as-requires-clause-rule
try_pop_as-requires-clause-rule g c = let of = c.self.invariant.1 in takes g.T.Booked.token _ _ of.0 of.1
