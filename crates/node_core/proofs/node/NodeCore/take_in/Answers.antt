use Rattle.std.proofs.Common.{ℕ, List, [], ◌∷◌, refl, sym, ap, subst, ◌∙◌}
use Rattle.std.specs.Prelude.{◌&&◌, ◌||◌}
use Rattle.term.specs.NodeSets.{with_older}
use Rattle.node_core.specs.CoreState.{CoreState}
use Rattle.node_core.specs.Steps.{IsOther}
use Rattle.node_events.specs.Seen.{unnumbered}
use Rattle.node_core.proofs.Leaving.{whole_told, takes_in}
use Rattle.node_core.proofs.node.NodeCore.take_in.Goals as goal

pub invariant_of-self : goal.invariant_of-self
invariant_of-self g c =
    whole_told _ c.args.gone.now c.remove.new.self c.last_within-self-inside.result _ _ c.self.invariant
    c.remove.ensures.others c.drop_node.ensures
    (λ d. c.last_within-self-inside.ensures d
    ∙ ap (λ (xs : List ℕ). with_older c.self.inside.world d && (with_older c.self.inside.told d || with_older xs d))
    (c.one-gone_alone.ensures ∙ ap (λ (m : ℕ). m ∷ []) c.copy.ensures))
    (subst (λ (h : CoreState). IsOther h.world h.name c.args.gone.now) (sym c.self.view_is) c.requires.other)

pub returns-clause-turn : goal.returns-clause-turn
returns-clause-turn g c =
    takes_in _ c.args.gone.now c.remove.new.self c.last_within-self-inside.result _ _ c.self.invariant
    c.remove.ensures.others c.drop_node.ensures
    (λ d. c.last_within-self-inside.ensures d
    ∙ ap (λ (xs : List ℕ). with_older c.self.inside.world d && (with_older c.self.inside.told d || with_older xs d))
    (c.one-gone_alone.ensures ∙ ap (λ (m : ℕ). m ∷ []) c.copy.ensures))
    c.args.self.now c.args.turn.now _
    c.args.self.now.name c.args.gone.now unnumbered c.self.view_is (ap (λ (h : CoreState). h.name) (sym c.self.view_is)) refl
    c.drop_node-2.ensures
    (subst (λ (h : CoreState). IsOther h.world h.name c.args.gone.now) (sym c.self.view_is) c.requires.other)
    c.enter_told.ensures.entered
