use Rattle.locker.proofs.Marks.{rest-seen}
use Rattle.locker.proofs.round.Round.rest.Goals as goal

pub returns-clause-protocol : goal.returns-clause-protocol
returns-clause-protocol c = rw (c.rest.ensures.value, ← c.self.view_is)
    (rest-seen (record { nodes = c.self.inside.nodes; marks = c.self.inside.marks }) c.self.invariant)
