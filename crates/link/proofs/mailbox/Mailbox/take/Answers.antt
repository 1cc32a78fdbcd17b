use Rattle.link.proofs.Inboxes.{gets}
use Rattle.link.proofs.mailbox.Mailbox.take.Goals as goal

pub try_recv_as-requires-clause-rule : goal.try_recv_as-requires-clause-rule
try_recv_as-requires-clause-rule g c = (gets g.T.Sourced.source _ _ c.args.self.now.role, λ _ _ _ _. tt)
