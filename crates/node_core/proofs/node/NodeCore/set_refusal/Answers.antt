use Rattle.std.proofs.Common.{sym, ap, ◌∙◌, ◌∷◌, []}
use Rattle.std.specs.Prelude.{not}
use Rattle.protocol_model.specs.Event.{UnknownNode, cause, lock_causes, names_members, calls_spent}
use Rattle.transaction.specs.Calls.{target_of}
use Rattle.node_core.specs.Seen.{node_of}
use Rattle.node_core.specs.Steps.{cause_of}
use Rattle.node_core.proofs.LockRefusals.{faults_first}
use Rattle.node_core.proofs.node.NodeCore.set_refusal.Goals as goal

pub returns-in-Some-clause-cause : goal.returns-in-Some-clause-cause
returns-in-Some-clause-cause g c = λ requester retries.
    faults_first
    (lock_causes c.args.self.now.name (node_of c.args.self.now) c.args.holder.now c.args.id.now.resource)
    (cause (not (names_members (node_of c.args.self.now) (target_of c.args.nodes.now))) UnknownNode
    ∷ calls_spent (node_of c.args.self.now) ∷ []) c.in-Some.fault
    (λ is. c.lock_refusal.ensures.never_memory (c.in-Some.is ∙ is))
    (ap cause_of (sym c.in-Some.is) ∙ c.lock_refusal.ensures.cause)
