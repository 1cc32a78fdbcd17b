use Rattle.std.proofs.Common.{ap, sym, refl, ◌∙◌}
use Rattle.std.proofs.lemmas.Result.{on_ok_weaker}
use Rattle.node_core.specs.declared.node.Phase.TheVariants.{Asking}
use Rattle.node_core.specs.CoreState.{CoreState}
use Rattle.node_events.specs.Seen.{unnumbered}
use Rattle.node_core.proofs.Rounds.{loses}
use Rattle.node_core.proofs.node.NodeCore.lose_current.Goals as goal

pub returns-clause-turn : goal.returns-clause-turn
returns-clause-turn g c =
    on_ok_weaker c.end_round.result
    (loses c.args.self.now _ c.end_round.new.self c.args.turn.now c.end_round.new.turn c.in-Asking.round
    c.down.new.self c.args.gone.now unnumbered (ap (λ (h : CoreState). h.phase) (sym c.self.view_is) ∙ c.in-Asking.is)
    (sym c.is_at_work.ensures ∙ c.if-not-is_at_work.false) c.down.ensures.protocol
    (ap (λ (h : CoreState). record h { phase = Asking c.down.new.self }) c.self.view_is))
    (c.end_round.ensures.turn c.down.new.self refl)
