use Rattle.locker.proofs.Rounds.{seen-begin}
use Rattle.locker.proofs.round.Round.begin.Goals as goal

pub returns-clause-protocol : goal.returns-clause-protocol
returns-clause-protocol c =
    λ n below. rw (c.copy.ensures, c.len.ensures.value)
    (seen-begin c.args.nodes.now c.len.ensures.set c.requires n below)
