use Rattle.std.proofs.Common.{◌≡◌, sym, ap, ◌∙◌}
use Rattle.protocol_model.specs.Event.{Calling, Spawn}
use Rattle.exit_watch.specs.declared.faults.WatchFault.{WatchFault}
use Rattle.exit_watch.specs.declared.faults.WatchFault.TheVariants.{SerialsSpent}
use Rattle.node_events.specs.declared.events.StepFault.TheVariants.{Memory}
use Rattle.node_events.specs.Seen.{step_fault_of}
use Rattle.node_core.proofs.Refusals.{wants_memory}
use Rattle.node_core.proofs.node.NodeCore.spawn.Goals as goal

never : (f : WatchFault) → f ≡ SerialsSpent → step_fault_of f ≡ Memory → ⊥
never f spent wants = let e = sym (ap step_fault_of spent) ∙ wants in cc

pub returns-in-Err-clause-turn : goal.returns-in-Err-clause-turn
returns-in-Err-clause-turn g c =
    absurd (never c.in-Err.field-0 c.in-Err.ensures.err (wants_memory c.args.self.now _ (Calling Spawn) c.in-Err.field-0
    c.self.invariant c.self.view_is c.in-Err.ensures.refusal c.requires.accepted))
