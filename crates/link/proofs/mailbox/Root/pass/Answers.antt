use Rattle.link.proofs.Inboxes.{makes}
use Rattle.link.proofs.mailbox.Root.pass.Goals as goal

pub another-new-requires-clause-rule : goal.another-new-requires-clause-rule
another-new-requires-clause-rule g c = makes g.T.Sourced.source _ _ c.args.self.now.role
