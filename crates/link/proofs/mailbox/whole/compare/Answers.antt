use Rattle.std.proofs.Common.{rules}
use Rattle.link.proofs.Inboxes.{beside, compares}
use Rattle.link.proofs.mailbox.whole.compare.Goals as goal

pub absorb-requires-clause-rule : goal.absorb-requires-clause-rule
absorb-requires-clause-rule g c = beside g.T.Sourced.source _ _ _ _ c.args.port.role

pub learn_as-requires-clause-rule : goal.learn_as-requires-clause-rule
learn_as-requires-clause-rule g c = compares g.T.Sourced.source _ _ (search rules) (search rules)
