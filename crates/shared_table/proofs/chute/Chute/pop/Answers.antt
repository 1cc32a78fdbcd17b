use Rattle.shared_table.proofs.Lying.{takes}
use Rattle.shared_table.proofs.chute.Chute.pop.Goals as goal

pub pop_as-requires-clause-rule : goal.pop_as-requires-clause-rule
pop_as-requires-clause-rule g c = let of = c.self.invariant.1 in (takes g.T.Booked.token _ _ of.0 of.1, λ items views held at. tt)
