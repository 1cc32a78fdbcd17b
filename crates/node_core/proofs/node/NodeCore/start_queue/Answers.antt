use Rattle.std.proofs.Common.{arith, ℕ, Bool, true, false, ◌≡◌, Some, List, length, ap, sym, subst, ◌∙◌}
use Rattle.std.proofs.lemmas.Result.{on_ok_weaker}
use Rattle.transaction.specs.declared.op.Op.{Op}
use Rattle.transaction.specs.declared.op.Op.TheVariants.{Join}
use Rattle.transaction.specs.Work.{Work, begins_with_join}
use Rattle.node_events.specs.declared.events.Entry.{Entry}
use Rattle.node_events.specs.declared.events.Answer.{Answer}
use Rattle.node_core.specs.CoreState.{CoreState}
use Rattle.node_core.proofs.Rooms.{reserved}
use Rattle.node_core.proofs.Queues.{one_less, join_first, IsAtQueue, whole_started, whole_freed, contact_within, goes_on_at, asks_at}
use Rattle.node_core.proofs.node.NodeCore.start_queue.Goals as goal

never : (b : Bool) → b ≡ true → b ≡ false → ⊥
never b yes_ not_ = cc

pub invariant_of-self-in_default : goal.invariant_of-self-in_default
invariant_of-self-in_default g c = whole_started _ c.start.new.self c.self.invariant c.start.ensures.state

pub invariant_of-self-then-not-reaches : goal.invariant_of-self-then-not-reaches
invariant_of-self-then-not-reaches g c = whole_started _ c.start.new.self c.self.invariant c.start.ensures.state

pub ask_join-requires-clause-within : goal.ask_join-requires-clause-within
ask_join-requires-clause-within g c =
    contact_within _ c.start.new.self c.in-Some-Join.number c.copy-contact.result c.self.invariant
    c.start.ensures.state
    (sym c.in-Some-Join.ensures ∙ ap (λ (op : Op). Some op) (c.in-Some-Join.field-0-is
    ∙ ap (λ (m : ℕ). Join c.in-Some-Join.number m) (sym c.copy-contact.ensures)))

pub invariant_of-self-in_err-reserve : goal.invariant_of-self-in_err-reserve
invariant_of-self-in_err-reserve g c =
    whole_freed _ c.start.new.self c.finish.new.self c.self.invariant c.start.ensures.state c.finish.ensures

pub invariant_of-self-in-loop-self : goal.invariant_of-self-in-loop-self
invariant_of-self-in-loop-self g c =
    whole_freed _ c.start.new.self c.finish.new.self c.self.invariant c.start.ensures.state c.finish.ensures

pub loop-self-preserved : goal.loop-self-preserved
loop-self-preserved g c = record {
  room = grind arith;
  entries =
      let less = one_less c.self.inside.registrar c.start.new.self
      (ap (λ (h : CoreState). h.registrar.current) c.self.view_is ∙ c.loop-self.invariant.at.free) c.start.ensures.state
      (sym c.start.ensures.began ∙ c.loop-self-test.true) in
      let left = ap (λ (w : Work). length w.queue) c.finish.ensures in
      let waits = ap (λ (h : CoreState). length h.registrar.queue) c.self.view_is in
      let made = ap (λ (es : List Entry). length es) c.reserve.ensures.made.entries in
      omega (arith, c.loop-self.invariant.entries, c.contact_left.ensures.spends.entries);
  answers =
      let less = one_less c.self.inside.registrar c.start.new.self
      (ap (λ (h : CoreState). h.registrar.current) c.self.view_is ∙ c.loop-self.invariant.at.free) c.start.ensures.state
      (sym c.start.ensures.began ∙ c.loop-self-test.true) in
      let left = ap (λ (w : Work). length w.queue) c.finish.ensures in
      let waits = ap (λ (h : CoreState). length h.registrar.queue) c.self.view_is in
      let made = ap (λ (ss : List Answer). length ss) c.reserve.ensures.made.answers in
      omega (arith, c.loop-self.invariant.answers, c.contact_left.ensures.spends.answers);
  first = λ e. absurd (never _
      (ap begins_with_join (sym (ap (λ (h : CoreState). h.registrar.queue) c.self.view_is
      ∙ (c.loop-self.invariant.first e).0)) ∙ join_first c.self.inside.registrar c.start.new.self
      c.in-Some-Join.number c.copy-contact.result
      (ap (λ (h : CoreState). h.registrar.current) c.self.view_is ∙ c.loop-self.invariant.at.free) c.start.ensures.state
      (sym c.in-Some-Join.ensures ∙ ap (λ (op : Op). Some op) (c.in-Some-Join.field-0-is
      ∙ ap (λ (m : ℕ). Join c.in-Some-Join.number m) (sym c.copy-contact.ensures)))) e);
  at = goes_on_at c.args.self.now _ c.args.turn.now c.loop-self.turn c.start.new.self
      (subst (λ (h : CoreState). IsAtQueue c.args.self.now c.args.turn.now h c.loop-self.turn) (sym c.self.view_is)
      c.loop-self.invariant.at)
      c.start.ensures.state c.finish.new.self c.contact_left.new.turn c.in-Some-Join.number c.copy-contact.result
      (sym c.start.ensures.began ∙ c.loop-self-test.true)
      (sym c.in-Some-Join.ensures ∙ ap (λ (op : Op). Some op) (c.in-Some-Join.field-0-is
      ∙ ap (λ (m : ℕ). Join c.in-Some-Join.number m) (sym c.copy-contact.ensures)))
      (sym c.reaches.ensures ∙ c.if-not-reaches.false) c.finish.ensures (reserved c.reserve.ensures.made
      c.contact_left.ensures.turn);
}

pub returns-then-not-reaches-clause-turn : goal.returns-then-not-reaches-clause-turn
returns-then-not-reaches-clause-turn g c =
    on_ok_weaker c.ask_join.result
    (λ M. asks_at c.args.self.now _ c.args.turn.now c.loop-self.turn c.start.new.self
    (subst (λ (h : CoreState). IsAtQueue c.args.self.now c.args.turn.now h c.loop-self.turn) (sym c.self.view_is)
    c.loop-self.invariant.at)
    c.start.ensures.state c.ask_join.new.self c.ask_join.new.turn c.in-Some-Join.number c.copy-contact.result
    (sym c.start.ensures.began ∙ c.loop-self-test.true)
    (sym c.in-Some-Join.ensures ∙ ap (λ (op : Op). Some op) (c.in-Some-Join.field-0-is
    ∙ ap (λ (m : ℕ). Join c.in-Some-Join.number m) (sym c.copy-contact.ensures)))
    (sym c.reaches.ensures ∙ c.if-not-reaches.true) M)
    c.ask_join.ensures.turn
