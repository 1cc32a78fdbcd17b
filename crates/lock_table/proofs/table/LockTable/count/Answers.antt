use Rattle.std.proofs.Common.{◌∙◌, sym, ap}
use Rattle.std.specs.Option.{option_copied}
use Rattle.std.proofs.lemmas.Bool.{eqb-true}
use Rattle.lock_table.proofs.Filing.{counted-held, found_under, never-absent, never-other}
use Rattle.lock_table.proofs.Places.{count-absent}
use Rattle.lock_table.proofs.table.LockTable.count.Goals as goal

pub returns-in-Some-clause-count : goal.returns-in-Some-clause-count
returns-in-Some-clause-count c =
    let m = c.self.inside.grants in
    let found = found_under m c.args.id.now c.args.holder.now c.of.result _ c.of.ensures c.in-Some.ensures.value in
    rw (← c.self.view_is)
    (sym (counted-held c.self.inside.next m c.self.invariant c.args.id.now c.args.holder.now
    c.in-Some.held.now found (eqb-true _ _ (sym c.eq.ensures ∙ c.if-eq.true))))

pub returns-in_default-clause-count : goal.returns-in_default-clause-count
returns-in_default-clause-count c =
    let m = c.self.inside.grants in
    let found = found_under m c.args.id.now c.args.holder.now c.of.result _ c.of.ensures c.in-Some.ensures.value in
    rw (← c.self.view_is)
    (sym (count-absent _ _ _ (never-other c.self.inside.next m c.self.invariant c.args.id.now
    c.args.holder.now c.in-Some.held.now found (sym c.eq.ensures ∙ c.if-eq.false))))

pub returns-in_default-2-clause-count : goal.returns-in_default-2-clause-count
returns-in_default-2-clause-count c =
    let m = c.self.inside.grants in
    let found = found_under m c.args.id.now c.args.holder.now c.of.result _ c.of.ensures
    (sym (ap option_copied c.in_default.is) ∙ c.get.ensures.value) in
    rw (← c.self.view_is)
    (sym (count-absent _ _ _ (never-absent c.self.inside.next m c.self.invariant c.args.id.now c.args.holder.now
    found)))
