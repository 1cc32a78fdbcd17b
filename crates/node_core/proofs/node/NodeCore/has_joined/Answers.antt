use Rattle.std.proofs.Common.{ap, sym, ◌∙◌}
use Rattle.std.specs.Prelude.{is_some}
use Rattle.node_core.specs.CoreState.{CoreState}
use Rattle.node_core.proofs.Refusals.{no_join_stands, none_is_current, joins_where_waiting}
use Rattle.node_core.proofs.node.NodeCore.has_joined.Goals.{then-self, else-self+then-is_at_work+in-Joining, else-self+then-is_at_work+in_default, else-self+else-is_at_work}
use Rattle.node_core.proofs.node.NodeCore.has_joined.Goals as goal

pub returns-else-matches : goal.returns-else-matches
returns-else-matches g c =
    let off = c.if-matches.false in
    elim c.if-self.branch [
      | then-self w ↦ let on = w.value-is in let is = w.if-self.true in cc
      | else-self+then-is_at_work+in-Joining w ↦ let on = w.value-is in cc
      | else-self+then-is_at_work+in_default w ↦
          joins_where_waiting _ c.args.self.now c.has_join.result c.self.view_is w.if-self.false
          (no_join_stands c.self.inside.registrar.current c.self.inside.registrar.awaited c.self.inside.phase
          w.in_default.not-Joining) c.has_join.ensures
      | else-self+else-is_at_work w ↦
          joins_where_waiting _ c.args.self.now c.has_join.result c.self.view_is w.if-self.false
          (none_is_current c.self.inside.registrar.current c.self.inside.registrar.awaited c.self.inside.phase
          (ap (λ (h : CoreState). is_some h.registrar.current) c.self.view_is ∙ sym w.is_at_work.ensures
          ∙ w.if-is_at_work.false)) c.has_join.ensures
    ]
