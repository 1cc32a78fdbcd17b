use Rattle.std.proofs.Common.{sym, subst}
use Rattle.std.proofs.lemmas.Result.{on_ok_weaker}
use Rattle.lock_calls.specs.declared.call.CallPhase.TheVariants.{Asking}
use Rattle.node_core.specs.CoreState.{CoreState, IsWithin}
use Rattle.node_core.proofs.Locking.{whole_put, begun_within, asks_lock}
use Rattle.node_core.proofs.node.NodeCore.ask_lock.Goals as goal

pub invariant_of-self : goal.invariant_of-self
invariant_of-self g c =
    whole_put _ c.put.new.self (record c.args.call { phase = Asking c.begin.result }) c.put.result c.self.invariant
    (begun_within c.self.inside.world c.args.nodes.now c.begin.result c.begin.ensures.nodes
    (subst (λ (h : CoreState). IsWithin h.world c.args.nodes.now) (sym c.self.view_is) c.requires.within))
    c.put.ensures.node c.put.ensures.ok c.put.ensures.unchanged

pub returns-clause-turn : goal.returns-clause-turn
returns-clause-turn g c =
    on_ok_weaker c.put.result
    (asks_lock _ c.args.self.now c.args.turn.now c.send.new.self c.args.call c.put.new.self c.boss.result
    c.lock_letter.result c.begin.result c.args.nodes.now c.self.view_is c.requires.within c.boss.ensures.protocol
    c.lock_letter.ensures.says c.begin.ensures.protocol c.send.ensures.made)
    c.put.ensures.ok
