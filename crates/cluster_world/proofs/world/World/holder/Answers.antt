use Rattle.std.proofs.Common.{ℕ, List, ◌≡◌, ◌∙◌, Some, None, ap, sym, subst}
use Rattle.protocol_model.specs.World.{holder}
use Rattle.cluster_world.specs.WorldState.{WorldState}
use Rattle.cluster_world.specs.Seen.{opening_of, seen, is_holding}
use Rattle.cluster_world.proofs.Holding.{NobodyBefore, this_core, nobody_more, no_core_holds}
use Rattle.cluster_world.proofs.world.World.holder.Goals as goal

pub returns-then-is_holder : goal.returns-then-is_holder
returns-then-is_holder g c =
    subst (λ (k : WorldState). Some c.copy.result ≡ holder (opening_of k) (seen k)) c.self.view_is
    (this_core _ c.deref-core-items.result.now c.loop-core.core-index c.core-item.result c.copy.result c.self.invariant
    c.departed-departed.ensures.left c.deref-core-items.ensures.value
    c.loop-core-test.true c.core-item.is
    (subst (λ (ds : List ℕ). NobodyBefore ds c.loop-core.core-index c.deref-core-items.result.now) c.departed-departed.ensures.departed
    c.loop-core.invariant)
    (ap (λ (ds : List ℕ). is_holding ds c.core-item.result) (sym c.departed-departed.ensures.departed)
    ∙ sym c.is_holder.ensures ∙ c.if-is_holder.true)
    (c.copy.ensures ∙ c.node.ensures.name))

pub loop-core-preserved : goal.loop-core-preserved
loop-core-preserved g c =
    nobody_more c.departed-departed.result.now c.deref-core-items.result.now c.loop-core.core-index c.core-item.result
    c.loop-core-test.true c.core-item.is c.loop-core.invariant
    (sym c.is_holder.ensures ∙ c.if-is_holder.false)

pub returns : goal.returns
returns g c =
    subst (λ (k : WorldState). None ≡ holder (opening_of k) (seen k)) c.self.view_is
    (no_core_holds _ c.deref-core-items.result.now c.loop-core.core-index c.self.invariant
    c.departed-departed.ensures.left c.deref-core-items.ensures.value c.loop-core-test.false
    (subst (λ (ds : List ℕ). NobodyBefore ds c.loop-core.core-index c.deref-core-items.result.now) c.departed-departed.ensures.departed
    c.loop-core.invariant))
