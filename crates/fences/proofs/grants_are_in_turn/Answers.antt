use Rattle.fences.proofs.Turns.{grants_are_in_turn as law}
use Rattle.fences.proofs.grants_are_in_turn.Goals as goal

pub returns : goal.returns
returns c = law
