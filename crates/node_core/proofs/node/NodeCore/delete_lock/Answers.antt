use Rattle.std.proofs.Common.{sym, subst}
use Rattle.std.proofs.lemmas.Result.{on_ok_weaker}
use Rattle.lock_calls.specs.declared.call.CallPhase.TheVariants.{Deleting}
use Rattle.node_core.specs.CoreState.{CoreState, IsWithin}
use Rattle.node_core.proofs.Locking.{whole_put, deletes_none, deletes_some}
use Rattle.node_core.proofs.node.NodeCore.delete_lock.Goals as goal

pub returns-then-is_empty-clause-turn : goal.returns-then-is_empty-clause-turn
returns-then-is_empty-clause-turn g c =
    deletes_none c.args.self.now c.args.turn.now c.args.call c.targets-nodes.result c.is_empty.result
    c.targets-nodes.ensures.within c.targets-nodes.ensures.asked c.is_empty.ensures c.close_call.new.self
    c.close_call.new.turn c.if-is_empty.true c.close_call.ensures.turn

pub invariant_of-self : goal.invariant_of-self
invariant_of-self g c =
    whole_put _ c.put.new.self (record c.args.call { phase = Deleting c.targets-nodes.result }) c.put.result
    c.self.invariant
    (subst (λ (h : CoreState). IsWithin h.world c.targets-nodes.result) (sym c.self.view_is) c.targets-nodes.ensures.within)
    c.put.ensures.node c.put.ensures.ok c.put.ensures.unchanged

pub returns-clause-turn : goal.returns-clause-turn
returns-clause-turn g c =
    let id = c.copy.ensures in let holder = c.copy-2.ensures in
    on_ok_weaker c.put.result
    (deletes_some c.args.self.now c.args.turn.now c.args.call c.targets-nodes.result c.is_empty.result
    c.targets-nodes.ensures.within c.targets-nodes.ensures.asked c.is_empty.ensures _ c.send_all.new.self
    c.put.new.self _ c.self.view_is c.if-is_empty.false c.send_all.ensures.set (cc (id, holder))
    c.send_all.ensures.letters)
    c.put.ensures.ok
