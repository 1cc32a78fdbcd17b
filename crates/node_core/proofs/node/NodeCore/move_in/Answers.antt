use Rattle.std.proofs.Common.{true, ◌≡◌, sym, subst, ◌∙◌}
use Rattle.registry_model.specs.Table.{Table, is_rising, without}
use Rattle.term.specs.NodeSets.{with_older}
use Rattle.node_core.specs.CoreState.{CoreState}
use Rattle.node_core.specs.Joining.{IsWelcomeTo}
use Rattle.node_core.proofs.Joining.{IsTold, told_either, told_before, whole_moved, moves_in}
use Rattle.node_core.proofs.node.NodeCore.move_in.Goals.{then-reaches, else-reaches}
use Rattle.node_core.proofs.node.NodeCore.move_in.Goals as goal

pub invariant_of-self-2 : goal.invariant_of-self-2
invariant_of-self-2 g c =
    whole_moved _ c.args.welcome.now c.if-reaches.told c.beyond.result c.with_within-self-inside.result
    _ c.table_of.new.watch c.self.invariant
    (elim c.if-reaches.branch [
      | then-reaches w ↦
          told_before _ c.args.welcome.now c.last_within-told.result c.self.invariant c.last_within-told.ensures
          c.if-reaches.told (w.told-is ∙ w.copy-told.ensures) (sym c.reaches.ensures ∙ w.if-reaches.true)
      | else-reaches w ↦ subst (IsTold _ c.args.welcome.now) (sym w.told-is)
          (told_either _ c.args.welcome.now c.last_within-told.result c.self.invariant c.last_within-told.ensures
          (sym c.reaches.ensures ∙ w.if-reaches.false))
    ])
    c.beyond.ensures
    c.with_within-self-inside.ensures c.table_of.ensures.node c.in_ok-self-inside.ensures.ok

pub returns-clause-turn : goal.returns-clause-turn
returns-clause-turn g c = λ made to.
    moves_in _ c.args.welcome.now c.if-reaches.told c.beyond.result c.with_within-self-inside.result
    _ c.table_of.new.watch c.self.invariant
    (elim c.if-reaches.branch [
      | then-reaches w ↦
          told_before _ c.args.welcome.now c.last_within-told.result c.self.invariant c.last_within-told.ensures
          c.if-reaches.told (w.told-is ∙ w.copy-told.ensures) (sym c.reaches.ensures ∙ w.if-reaches.true)
      | else-reaches w ↦ subst (IsTold _ c.args.welcome.now) (sym w.told-is)
          (told_either _ c.args.welcome.now c.last_within-told.result c.self.invariant c.last_within-told.ensures
          (sym c.reaches.ensures ∙ w.if-reaches.false))
    ])
    c.beyond.ensures
    c.with_within-self-inside.ensures
    (subst (λ (h : CoreState). IsWelcomeTo h.world h.name c.args.welcome.now) (sym c.self.view_is) to)
    c.args.self.now made c.self.view_is c.table_of.ensures.watch
    (subst (λ (ps : Table). is_rising ps ≡ true → g.N.Names.contents c.in_ok-self-inside.field-0
    ≡ without (with_older c.if-reaches.told) ps) c.as_slice.ensures.value c.in_ok-self-inside.ensures.table)
