use Rattle.std.proofs.Common.{sym, subst}
use Rattle.node_core.specs.CoreState.{CoreState, IsWithin}
use Rattle.node_core.proofs.Rules.{writes}
use Rattle.node_core.proofs.Bounds.{of_world}
use Rattle.node_core.proofs.Whole.{whole_writing}
use Rattle.node_core.proofs.node.NodeCore.write.Goals as goal

pub invariant_of-self : goal.invariant_of-self
invariant_of-self g c =
    whole_writing _ c.await_from.new.self c.self.inside.members c.args.asked c.args.reply c.self.invariant
    c.await_from.ensures (of_world c.self.inside.world c.self.inside.members c.self.invariant.members)
    (subst (λ (h : CoreState). IsWithin h.world c.args.asked) (sym c.self.view_is) c.requires.within)

pub returns-clause-turn : goal.returns-clause-turn
returns-clause-turn g c =
    writes _ _ _ _ c.await_from.new.self c.args.asked c.args.reply c.args.change c.self.view_is
    c.send_all.ensures.set c.self.invariant.members
    c.await_from.ensures c.send_all.ensures.letters
