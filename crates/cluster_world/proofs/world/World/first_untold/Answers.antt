use Rattle.std.proofs.Common.{ℕ, Bool, true, false, List, length, get_or, ◌≡◌, ◌<◌, ◌∙◌, Some, ap, sym, subst}
use Rattle.node_core.specs.CoreState.{CoreState}
use Rattle.term.specs.NodeSets.{with_older}
use Rattle.cluster_world.specs.WorldState.{WorldState}
use Rattle.cluster_world.specs.Restarting.{IsFirstUntold}
use Rattle.cluster_world.proofs.Posting.{closed_is}
use Rattle.cluster_world.proofs.Untold.{AllToldBefore, told_more, first_is}
use Rattle.cluster_world.proofs.world.World.first_untold.Goals.{else-not-has_left-via-then-not-has_left+else-not-reaches, else-not-has_left-via-else-not-has_left}
use Rattle.cluster_world.proofs.world.World.first_untold.Goals as goal

-- nothing is both
clash : (b : Bool) → b ≡ true → b ≡ false → ⊥
clash b e f = cc (e, f)

pub returns-then-not-reaches : goal.returns-then-not-reaches
returns-then-not-reaches g c =
    subst (λ (h : WorldState). IsFirstUntold c.args.gone.now h (Some c.node-then-not-reaches.result.now)) c.self.view_is
    (first_is _ c.self.invariant c.args.gone.now c.loop-core.core-index c.core-item.result c.node-then-not-reaches.result.now
    (subst (λ (cs : List CoreState). c.loop-core.core-index < length cs) c.deref-core-items.ensures.value c.loop-core-test.true)
    (subst (λ (cs : List CoreState). c.core-item.result ≡ get_or cs c.loop-core.core-index c.core-item.result)
    c.deref-core-items.ensures.value c.core-item.is)
    c.node-then-not-reaches.ensures.name
    (sym (c.has_left.ensures ∙ ap (λ (s : ℕ → Bool). s c.node.result.now) (closed_is c.self.inside.links)
    ∙ ap (with_older c.self.inside.links.departed) c.node.ensures.name) ∙ c.if-not-has_left.true)
    (sym (c.reaches.ensures ∙ ap (λ (ts : List ℕ). with_older ts c.args.gone.now) c.told.ensures.told) ∙ c.if-not-reaches.true)
    (subst (λ (cs : List CoreState). AllToldBefore c.args.gone.now c.self.inside.links.departed c.loop-core.core-index cs)
    c.deref-core-items.ensures.value
    (subst (λ (k : WorldState). AllToldBefore c.args.gone.now k.links.departed c.loop-core.core-index c.deref-core-items.result.now)
    (sym c.self.view_is) c.loop-core.invariant)))

pub loop-core-preserved : goal.loop-core-preserved
loop-core-preserved g c =
    told_more c.args.gone.now c.args.self.now.links.departed c.loop-core.core-index c.deref-core-items.result.now c.core-item.result
    c.loop-core-test.true c.core-item.is c.loop-core.invariant
    (elim c.else-not-has_left.branch [
      | else-not-has_left-via-then-not-has_left+else-not-reaches w ↦ λ up untold.
          clash (with_older c.core-item.result.told c.args.gone.now)
          (sym (w.reaches.ensures ∙ ap (λ (ts : List ℕ). with_older ts c.args.gone.now) w.told.ensures.told) ∙ w.if-not-reaches.false)
          untold
      | else-not-has_left-via-else-not-has_left w ↦ λ up untold.
          clash (with_older c.args.self.now.links.departed c.core-item.result.name)
          (ap (λ (k : WorldState). with_older k.links.departed c.core-item.result.name) (sym c.self.view_is)
          ∙ sym (c.has_left.ensures ∙ ap (λ (s : ℕ → Bool). s c.node.result.now) (closed_is c.self.inside.links)
          ∙ ap (with_older c.self.inside.links.departed) c.node.ensures.name) ∙ w.if-not-has_left.false)
          up
    ])
