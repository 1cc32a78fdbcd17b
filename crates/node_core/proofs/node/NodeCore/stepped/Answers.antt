use Rattle.node_events.specs.Causes.{event_by}
use Rattle.node_core.proofs.Stepping.{steps_by_copy}
use Rattle.node_core.proofs.node.NodeCore.stepped.Goals as goal

pub returns-clause-ok : goal.returns-clause-ok
returns-clause-ok g c =
    steps_by_copy (event_by c.args.cause) c.args.self.now c.in_ok-copy.copy c.accept_in_place.new.self
    c.in_ok-turn.turn c.in_ok-copy.ensures.copy c.in_ok-turn.ensures.ok
