use Rattle.std.proofs.lemmas.Result.{on_ok_weaker}
use Rattle.node_events.specs.Seen.{unnumbered}
use Rattle.node_core.proofs.Reading.{reads, said_down}
use Rattle.node_core.proofs.node.NodeCore.read.Goals as goal

pub returns-in-SetLock-clause-turn : goal.returns-in-SetLock-clause-turn
returns-in-SetLock-clause-turn g c = λ said. on_ok_weaker c.judge.result
    (reads _ _ _ _ _ _ _ c.in-SetLock.is unnumbered) c.judge.ensures.turn

pub returns-in-LockAnswer-clause-turn : goal.returns-in-LockAnswer-clause-turn
returns-in-LockAnswer-clause-turn g c = λ said. on_ok_weaker c.hear.result
    (reads _ _ _ _ _ _ _ c.in-LockAnswer.is unnumbered) c.hear.ensures.turn

pub returns-in-GiveBack-clause-turn : goal.returns-in-GiveBack-clause-turn
returns-in-GiveBack-clause-turn g c = λ said. reads _ _ _ _ _ _ _ c.in-GiveBack.is unnumbered
    c.take_back.ensures.turn

pub returns-in-Down-clause-turn : goal.returns-in-Down-clause-turn
returns-in-Down-clause-turn g c = λ said. on_ok_weaker c.hear_of_departure.result
    (reads _ _ _ _ _ _ _ c.in-Down.is unnumbered)
    (c.hear_of_departure.ensures.turn (said_down c.args.self.now.world c.args.self.now.name c.args.from.now
    c.args.letter.now c.in-Down.is said))
