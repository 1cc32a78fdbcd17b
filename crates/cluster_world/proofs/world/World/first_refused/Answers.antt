use Rattle.std.proofs.Common.{ℕ, List, ◌≡◌, ◌∙◌, Some, None, ap, sym, subst}
use Rattle.getting_through.specs.NamedFinishing.{first_refused}
use Rattle.cluster_world.specs.WorldState.{WorldState}
use Rattle.cluster_world.specs.Finishing.{seems_refused}
use Rattle.cluster_world.specs.Playing.{WaitsOn}
use Rattle.cluster_world.specs.Seen.{names_of, named}
use Rattle.cluster_world.proofs.Holding.{NonePasses, none_more}
use Rattle.cluster_world.proofs.Refused.{this_refused, none_refused}
use Rattle.cluster_world.proofs.world.World.first_refused.Goals as goal

pub returns-then-is_refused-clause-first : goal.returns-then-is_refused-clause-first
returns-then-is_refused-clause-first g c =
    subst (λ (k : WorldState). Some c.copy.result ≡ first_refused (names_of k) (named k)) c.self.view_is
    (this_refused _ c.self.invariant c.departed-departed.ensures.left
    (subst (λ (k : WorldState). WaitsOn None k) (sym c.self.view_is) c.requires)
    c.deref-core-items.result.now c.loop-core.core-index c.core-item.result c.copy.result c.deref-core-items.ensures.value
    c.loop-core-test.true c.core-item.is
    (subst (λ (ds : List ℕ). NonePasses (seems_refused ds) c.loop-core.core-index c.deref-core-items.result.now)
    c.departed-departed.ensures.departed c.loop-core.invariant)
    (ap (λ (ds : List ℕ). seems_refused ds c.core-item.result) (sym c.departed-departed.ensures.departed)
    ∙ sym c.is_refused.ensures ∙ c.if-is_refused.true)
    (c.copy.ensures ∙ c.node.ensures.name))

pub loop-core-preserved : goal.loop-core-preserved
loop-core-preserved g c =
    none_more (seems_refused c.departed-departed.result.now) c.deref-core-items.result.now c.loop-core.core-index c.core-item.result
    c.loop-core-test.true c.core-item.is c.loop-core.invariant
    (sym c.is_refused.ensures ∙ c.if-is_refused.false)

pub returns-clause-first : goal.returns-clause-first
returns-clause-first g c =
    subst (λ (k : WorldState). None ≡ first_refused (names_of k) (named k)) c.self.view_is
    (none_refused _ c.self.invariant c.departed-departed.ensures.left
    (subst (λ (k : WorldState). WaitsOn None k) (sym c.self.view_is) c.requires)
    c.deref-core-items.result.now c.loop-core.core-index c.deref-core-items.ensures.value c.loop-core-test.false
    (subst (λ (ds : List ℕ). NonePasses (seems_refused ds) c.loop-core.core-index c.deref-core-items.result.now)
    c.departed-departed.ensures.departed c.loop-core.invariant))
