use Rattle.std.proofs.Common.{ap}
use Rattle.node_events.specs.Causes.{event_by}
use Rattle.node_core.proofs.Reading.{takes_letter, unchanged_by_letter}
use Rattle.node_core.proofs.node.NodeCore.take.Goals as goal

pub returns-in-FromPeer-clause-turn : goal.returns-in-FromPeer-clause-turn
returns-in-FromPeer-clause-turn g c =
    takes_letter c.receive.result (event_by c.args.cause) c.in-FromPeer.from.now c.in-FromPeer.letter.now
    c.args.self.now c.receive.new.self c.args.turn.now c.receive.new.turn (ap event_by c.in-FromPeer.is)
    c.receive.ensures.turn

pub returns-in-FromPeer-clause-unchanged : goal.returns-in-FromPeer-clause-unchanged
returns-in-FromPeer-clause-unchanged g c =
    unchanged_by_letter c.receive.result (event_by c.args.cause) c.in-FromPeer.from.now c.in-FromPeer.letter.now
    c.args.self.now c.receive.new.self (ap event_by c.in-FromPeer.is) c.receive.ensures.unchanged
