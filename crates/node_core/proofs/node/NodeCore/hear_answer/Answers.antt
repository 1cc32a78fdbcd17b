use Rattle.std.proofs.Common.{ap, sym, refl, ◌∙◌}
use Rattle.protocol_model.specs.Letter.{Letter as AnyLetter}
use Rattle.protocol_model.specs.Round.{answer}
use Rattle.protocol_model.specs.Registrar.{ask_rest}
use Rattle.locker.specs.RoundState.{RoundState, seen}
use Rattle.node_core.specs.declared.node.Phase.TheVariants.{Asking}
use Rattle.node_core.specs.CoreState.{CoreState, bound_of}
use Rattle.node_core.specs.Seen.{turn_of}
use Rattle.node_events.specs.Seen.{unnumbered}
use Rattle.node_core.proofs.Locking.{made_as}
use Rattle.node_core.proofs.Rounds.{hears, one_round}
use Rattle.node_core.proofs.node.NodeCore.hear_answer.Goals as goal

pub returns-in-Ok-clause-turn : goal.returns-in-Ok-clause-turn
returns-in-Ok-clause-turn g c =
    hears c.args.self.now _ c.end_round.new.self c.args.turn.now c.ask_rest.new.turn c.end_round.new.turn
    c.in-Asking.round c.answer.new.self c.args.from.now
    c.args.granted unnumbered (ap (λ (h : CoreState). h.phase) (sym c.self.view_is) ∙ c.in-Asking.is)
    (sym c.owes.ensures ∙ c.if-not-owes.false)
    (sym c.is_at_work.ensures ∙ c.if-not-is_at_work.false) (made_as c.ask_rest.ensures.turn
    (ap (λ (l : AnyLetter). ask_rest (bound_of c.args.self.now.world) c.args.self.now.name c.args.from.now
    c.args.granted l (seen c.in-Asking.round) (turn_of c.args.self.now c.args.turn.now)) c.set_lock.ensures.says))
    (c.answer.ensures.protocol ∙ ap (λ (r : RoundState). answer c.args.from.now c.args.granted (seen r))
    (one_round c.self.inside.phase c.in-Asking-phase.round c.in-Asking.round c.in-Asking-phase.is c.in-Asking.is))
    (ap (λ (h : CoreState). record h { phase = Asking c.answer.new.self }) c.self.view_is)
    (c.in-Ok.ensures.turn c.answer.new.self refl)
