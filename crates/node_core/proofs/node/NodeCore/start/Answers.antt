use Rattle.std.proofs.Common.{ap, sym, ◌∙◌}
use Rattle.std.specs.Prelude.{not, is_some}
use Rattle.std.proofs.lemmas.Result.{on_ok_weaker}
use Rattle.node_core.specs.CoreState.{CoreState}
use Rattle.node_core.proofs.Rounds.{starts_strike, starts_waiting}
use Rattle.node_core.proofs.node.NodeCore.start.Goals as goal

pub returns-then-is_none-clause-turn : goal.returns-then-is_none-clause-turn
returns-then-is_none-clause-turn g c =
    on_ok_weaker c.start_queue.result
    (λ M. starts_waiting _ c.args.self.now c.start_queue.new.self c.args.turn.now c.start_queue.new.turn c.owes-owed.new.self
    c.owes-owed.result c.self.view_is c.owes-owed.ensures.watch c.owes-owed.ensures.owed c.self.invariant.watch
    (c.is_none.ensures ∙ ap not c.if-is_none.true)
    (ap (λ (h : CoreState). is_some h.registrar.current) c.self.view_is ∙ sym c.is_at_work.ensures
    ∙ c.if-is_at_work.false) M)
    c.start_queue.ensures.turn

pub returns-clause-turn : goal.returns-clause-turn
returns-clause-turn g c =
    starts_strike _ c.args.self.now c.args.turn.now c.start.new.self c.owes-owed.new.self c.owes-owed.result
    c.self.view_is c.owes-owed.ensures.watch c.owes-owed.ensures.owed c.self.invariant.watch c.start.ensures.state
    c.ask_global.new.self c.ask_global.new.turn (c.is_none.ensures ∙ ap not c.if-is_none.false)
    (ap (λ (h : CoreState). is_some h.registrar.current) c.self.view_is ∙ sym c.is_at_work.ensures
    ∙ c.if-is_at_work.false)
    c.ask_global.ensures.turn
