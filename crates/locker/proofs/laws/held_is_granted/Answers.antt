use Rattle.locker.proofs.HeldRounds.{held_is_granted}
use Rattle.locker.proofs.laws.held_is_granted.Goals as goal

pub returns : goal.returns
returns c = held_is_granted
