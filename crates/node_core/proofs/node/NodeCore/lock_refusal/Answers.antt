use Rattle.std.proofs.Common.{Bool, sym, ap, ◌∙◌}
use Rattle.std.specs.Option.{is_some}
use Rattle.std.specs.Bool.{then_some}
use Rattle.lock_calls.specs.Calls.{as_call}
use Rattle.node_events.specs.declared.events.StepFault.TheVariants.{Reserved}
use Rattle.node_core.specs.Steps.{cause_of}
use Rattle.node_core.proofs.LockRefusals.{reserves, is_found}
use Rattle.node_core.proofs.node.NodeCore.lock_refusal.Goals as goal

pub returns-clause-cause : goal.returns-clause-cause
returns-clause-cause g c =
    ap cause_of (c.then_some.ensures ∙ ap (λ (b : Bool). then_some b Reserved) c.eq.ensures)
    ∙ reserves c.args.self.now _ c.args.holder.now c.args.id.now.resource c.global.result c.self.invariant
    c.self.view_is (sym c.is_live.ensures ∙ c.if-not-is_live.false)
    (ap is_some (sym c.get.ensures.call) ∙ is_found as_call c.get.result ∙ sym c.is_some.ensures ∙ c.if-is_some.false)
    c.global.ensures
