use Rattle.locker.proofs.Marks.{asked-seen}
use Rattle.locker.proofs.round.Round.asked.Goals as goal

pub returns-clause-protocol : goal.returns-clause-protocol
returns-clause-protocol c =
    rw (c.copy.ensures, ← c.self.view_is)
    (asked-seen (record { nodes = c.self.inside.nodes; marks = c.self.inside.marks }))
