use Rattle.std.proofs.Common.{rules}
use Rattle.link.proofs.Inboxes.{opens, parts}
use Rattle.link.proofs.mailbox.whole.open.Goals as goal

pub bounded_with-requires-clause-rule : goal.bounded_with-requires-clause-rule
bounded_with-requires-clause-rule g c = opens g.T.Sourced.source

pub another-takes-requires-clause-rule : goal.another-takes-requires-clause-rule
another-takes-requires-clause-rule g c = parts g.T.Sourced.source _ _ (search rules)
