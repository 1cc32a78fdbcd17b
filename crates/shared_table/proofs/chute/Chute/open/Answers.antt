use Rattle.shared_table.proofs.Lying.{puts}
use Rattle.shared_table.proofs.chute.Chute.open.Goals as goal

pub try_push_as-requires-clause-rule : goal.try_push_as-requires-clause-rule
try_push_as-requires-clause-rule g c = puts g.T.Booked.token _ _ _ c.args.item (λ s e. absurd (cc (e, c.in_ok-queue.ensures.3)))
