use Rattle.std.proofs.Common.{ap, sym, ◌∙◌}
use Rattle.term.specs.NodeSets.{with_older}
use Rattle.node_core.proofs.Tables.{takes_pair, passes_over}
use Rattle.node_core.proofs.node.joining.table_of.Goals.{then-not-reaches+in_ok-note_owner+in_ok-write, else-not-reaches}
use Rattle.node_core.proofs.node.joining.table_of.Goals as goal

pub loop-pair-preserved : goal.loop-pair-preserved
loop-pair-preserved g c =
    elim c.if-not-reaches.branch [
      | then-not-reaches+in_ok-note_owner+in_ok-write w ↦
          takes_pair _ _ w.note_owner.new.self _ _ _ _ _ (g.N.Names.contents w.write.new.self) _ c.pair-item.result _
          w.copy.result c.loop-pair.invariant c.loop-pair-test.true c.pair-item.is
          c.pair.view_is w.watch-is (ap g.N.Names.contents w.table-is)
          (ap (λ e. with_older c.args.gone.now e.owner.node) (sym c.pair-inside.view_is)
          ∙ sym c.reaches.ensures ∙ w.if-not-reaches.true) w.note_owner.ensures.node w.note_owner.ensures.watch
          w.in_ok-note_owner.ensures.ok w.note_owner.ensures.suspected
          (w.copy.ensures ∙ sym c.pair.view_is) w.in_ok-write.ensures.ok
      | else-not-reaches w ↦
          passes_over _ _ _ _ _ _ _ _ c.pair-item.result _ c.loop-pair.invariant c.loop-pair-test.true c.pair-item.is
          c.pair.view_is w.watch-is (ap g.N.Names.contents w.table-is)
          (ap (λ e. with_older c.args.gone.now e.owner.node) (sym c.pair-inside.view_is)
          ∙ sym c.reaches.ensures ∙ w.if-not-reaches.false)
    ]
