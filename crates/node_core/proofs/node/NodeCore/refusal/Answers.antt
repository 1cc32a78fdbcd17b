use Rattle.std.proofs.Common.{ap, ◌∙◌}
use Rattle.protocol_model.specs.Event.{Exiting}
use Rattle.node_events.specs.Causes.{event_by}
use Rattle.node_core.specs.Steps.{refusal_of}
use Rattle.node_core.proofs.Refusals.{refuses, same_cause, never_memory}
use Rattle.node_core.proofs.node.NodeCore.refusal.Goals as goal

pub returns-in-Exit-clause-cause : goal.returns-in-Exit-clause-cause
returns-in-Exit-clause-cause g c =
    ap (λ x. refusal_of (event_by x) c.args.self.now) c.in-Exit.is
    ∙ refuses c.args.self.now _ (Exiting c.in-Exit.process.now) _ c.self.invariant c.self.view_is
    c.exit_refusal.ensures.cause
    ∙ same_cause c.exit_refusal.result c.map.result c.map.ensures.cases

pub returns-in-Exit-clause-never_memory : goal.returns-in-Exit-clause-never_memory
returns-in-Exit-clause-never_memory g c =
    never_memory c.exit_refusal.result c.map.result c.map.ensures.cases c.exit_refusal.ensures.never_memory
