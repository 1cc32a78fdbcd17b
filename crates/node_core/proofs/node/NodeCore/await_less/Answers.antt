use Rattle.std.proofs.Common.{ap, sym, ◌∙◌}
use Rattle.std.specs.Prelude.{is_some}
use Rattle.node_core.specs.CoreState.{CoreState}
use Rattle.node_core.proofs.Rules.{whole_less, last_awaited, more_awaited}
use Rattle.node_core.proofs.node.NodeCore.await_less.Goals.{in-Writing, in_default}
use Rattle.node_core.proofs.node.NodeCore.await_less.Goals as goal

pub invariant_of-self-then-not-is_done : goal.invariant_of-self-then-not-is_done
invariant_of-self-then-not-is_done g c = whole_less _ c.applied.new.self c.args.from.now c.self.invariant
    c.applied.ensures.state

pub returns-then-not-is_done-clause-turn : goal.returns-then-not-is_done-clause-turn
returns-then-not-is_done-clause-turn g c =
    let was = c.applied.ensures.was in let yes_ = c.if-not-applied.false in let left = c.is_done.ensures in let some_ =
    c.if-not-is_done.true in
    elim c.match-matches.branch [
      | in-Writing w ↦ more_awaited _ c.args.self.now c.args.turn.now c.applied.new.self c.args.from.now
          w.in-Writing.field-0 w.in-Writing.field-1 c.self.view_is
          c.self.invariant (cc w.in-Writing.is) (cc was) c.applied.ensures.state
          (ap (λ (h : CoreState). is_some h.registrar.current) c.self.view_is ∙ sym c.is_at_work.ensures
          ∙ c.if-not-is_at_work.false) (cc left)
      | in_default w ↦ let matches = c.if-not-matches.false in let none = w.matches-is in cc
    ]

pub returns-in-Writing-replace-clause-turn : goal.returns-in-Writing-replace-clause-turn
returns-in-Writing-replace-clause-turn g c =
    let was = c.applied.ensures.was in let yes_ = c.if-not-applied.false in let left = c.is_done.ensures in let none =
    c.if-not-is_done.false in
    last_awaited _ c.args.self.now c.args.turn.now c.applied.new.self c.args.from.now
    c.in-Writing-replace.asked c.in-Writing-replace.reply c.self.view_is
    c.self.invariant (sym c.replace.ensures.value ∙ c.in-Writing-replace.is) (cc was) c.applied.ensures.state
    c.done.new.self c.done.new.turn c.replace.new.dest
    (ap (λ (h : CoreState). is_some h.registrar.current) c.self.view_is ∙ sym c.is_at_work.ensures
    ∙ c.if-not-is_at_work.false) (cc left) c.done.ensures.turn
