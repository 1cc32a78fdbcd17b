use Rattle.std.proofs.Common.{◌≡◌}
use Rattle.protocol_model.specs.Round.{granted}
use Rattle.locker.specs.RoundState.{seen}
use Rattle.locker.proofs.Lists.{passing_or_from}
use Rattle.locker.proofs.round.Round.granted.Given as goal

abbrev pub invariant-loop-node : goal.invariant-loop-node
invariant-loop-node l = l.granted ≡ passing_or_from (granted (seen l.self)) l.node-index l.node-items
