use Rattle.std.proofs.Common.{◌∙◌, sym}
use Rattle.link.proofs.Inboxes.{puts}
use Rattle.link.proofs.mailbox.Port.send.Goals as goal

pub try_send_as-requires-clause-rule : goal.try_send_as-requires-clause-rule
try_send_as-requires-clause-rule g c = (puts g.T.Sourced.source _ _ _ _ c.args.self.now.role (c.requires ∙ sym c.args.self.now.own), λ _ _ _ _. tt)
