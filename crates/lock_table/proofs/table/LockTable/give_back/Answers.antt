use Rattle.std.proofs.Common.{◌∙◌, ◌-◌, sym, ap, arith}
use Rattle.std.specs.Option.{option_copied}
use Rattle.lock_table.proofs.Facts.{alike, unlike}
use Rattle.lock_table.proofs.Steps.{count_range, filed-written, give_back-less, give_back-none, give_back-stranger, give_back-under}
use Rattle.lock_table.proofs.table.LockTable.give_back.Goals as goal

pub returns-then-ne : goal.returns-then-ne
returns-then-ne c =
    rw (← c.self.view_is)
    (give_back-stranger c.self.inside.next c.self.inside.grants c.self.invariant c.args.id.now c.args.holder.now
    c.of-key.result c.of-key.ensures c.in-Some.held.now c.in-Some.ensures.value (unlike _ _ _ c.ne.ensures c.if-ne.true))

pub invariant_of-self : goal.invariant_of-self
invariant_of-self c =
    let v = c.in-Some.held.now in
    let own = alike _ _ _ c.ne.ensures c.if-ne.false in
    let range = count_range c.self.inside.next c.self.inside.grants c.self.invariant c.args.id.now c.args.holder.now
    c.of-key.result c.of-key.ensures v c.in-Some.ensures.value own in
    filed-written c.self.inside.next c.self.inside.grants c.self.invariant c.args.id.now c.args.holder.now
    c.of-key.result c.of-key.ensures v c.in-Some.ensures.value own (v.count - 1) c.set_count.new.self
    (omega (arith, c.if-count-gt1.true)) (omega (arith, range.1)) c.set_count.ensures

pub returns-then-count-gt1 : goal.returns-then-count-gt1
returns-then-count-gt1 c =
    rw (← c.self.view_is)
    (give_back-less c.self.inside.next c.self.inside.grants c.self.invariant c.args.id.now c.args.holder.now
    c.of-key.result c.of-key.ensures c.in-Some.held.now c.in-Some.ensures.value (alike _ _ _ c.ne.ensures c.if-ne.false)
    c.set_count.new.self c.if-count-gt1.true c.set_count.ensures)

pub returns-else-count-gt1 : goal.returns-else-count-gt1
returns-else-count-gt1 c =
    c.remove.ensures
    ∙ rw (← c.self.view_is)
    (give_back-under c.self.inside.next c.self.inside.grants c.self.invariant c.args.id.now c.args.holder.now
    c.of-key.result c.of-key.ensures c.in-Some.held.now c.in-Some.ensures.value (alike _ _ _ c.ne.ensures c.if-ne.false)
    c.if-count-gt1.false)

pub returns-in_default : goal.returns-in_default
returns-in_default c =
    rw (← c.self.view_is)
    (sym (give_back-none c.self.inside.next c.self.inside.grants c.self.invariant c.args.id.now c.args.holder.now
    c.of-key.result c.of-key.ensures (sym (ap option_copied c.in_default.is) ∙ c.get.ensures.value)))
