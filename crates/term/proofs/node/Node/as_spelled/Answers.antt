use Rattle.term.proofs.OneNode.{node_bytes-spell}
use Rattle.term.proofs.node.Node.as_spelled.Goals as goal

pub returns-clause-spelled : goal.returns-clause-spelled
returns-clause-spelled c =
    rw (← c.self.view_is)
    (node_bytes-spell _ c.self.inside.name c.self.inside.creation c.as_str-text.ensures.spelled c.self.invariant.1
    c.self.invariant.2)
