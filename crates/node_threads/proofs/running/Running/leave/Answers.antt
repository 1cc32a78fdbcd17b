use Rattle.std.proofs.Common.{ap, ◌∙◌}
use Rattle.node_threads.specs.Wires.{Wired}
use Rattle.node_threads.proofs.Departing.{left_as_asked}
use Rattle.node_threads.proofs.running.Running.leave.Goals as goal

pub returns-clause-left : goal.returns-clause-left
returns-clause-left g c = left_as_asked c.args.self.now.inbox c.self.inside.caller c.leave.new.self c.leave.result
    (c.self.invariant.1 ∙ ap (λ (w : Wired). w.inbox) c.self.view_is) c.leave.ensures.inbox c.leave.ensures.put c.leave.ensures.told c.leave.ensures.left
