use Rattle.std.proofs.Common.{true, ◌≡◌, sym, subst}
use Rattle.term.specs.NodeSets.{set_of, with_older}
use Rattle.node_core.specs.CoreState.{CoreState}
use Rattle.node_core.proofs.Replacing.{not_yet, whole_replaced}
use Rattle.node_core.proofs.node.NodeCore.replace.Goals as goal

pub with_next-self-inside-requires-clause-new : goal.with_next-self-inside-requires-clause-new
with_next-self-inside-requires-clause-new g c =
    not_yet c.self.inside.world c.self.inside.told c.args.older.now c.args.next.now c.self.invariant.told c.requires.next
    (subst (λ (h : CoreState). set_of h.world c.args.older.now ≡ true) (sym c.self.view_is) c.requires.known)

pub invariant_of-self : goal.invariant_of-self
invariant_of-self g c =
    whole_replaced _ c.with_next-self-inside.result c.args.older.now c.args.next.now c.self.invariant c.requires.next
    (subst (λ (h : CoreState). set_of h.world c.args.older.now ≡ true) (sym c.self.view_is) c.requires.known)
    (subst (λ (h : CoreState). with_older h.told c.args.older.now ≡ true) (sym c.self.view_is) c.requires.told)
    c.with_next-self-inside.ensures
