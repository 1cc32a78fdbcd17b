use Rattle.std.proofs.Common.{ap, subst}
use Rattle.registry_model.specs.Process.{Process}
use Rattle.lock_table.specs.declared.grant.Key.{Key}
use Rattle.lock_table.specs.Index.{IsFirstFrom, IsNoneFrom, slot_at}
use Rattle.lock_table.proofs.Facts.{on_none_given}
use Rattle.lock_table.proofs.Finding.{held_of-first, none_of, none_of-first}
use Rattle.lock_table.proofs.others.OtherGrants.first_of.Goals as goal

pub returns-in_err-key-clause-none : goal.returns-in_err-key-clause-none
returns-in_err-key-clause-none c =
    on_none_given c.from_residual.result
    (rw (← c.self.view_is)
    (none_of c.self.inside.grants.entries c.self.inside.by_holder.entries c.self.invariant.once c.self.invariant.placed
    c.args.holder.now
    (subst (λ (p : Process). IsNoneFrom c.self.inside.by_holder.entries p.node (slot_at p.serial 0)) c.holder.view_is
    c.in_err-key.ensures.none)))

pub returns-then-key-holder-clause-some : goal.returns-then-key-holder-clause-some
returns-then-key-holder-clause-some c =
    rw (← c.self.view_is)
    (held_of-first c.self.inside.grants.entries c.self.inside.by_holder.entries c.self.invariant.once
    c.self.invariant.placed c.args.holder.now c.in_ok-key.key
    (subst (λ (p : Process). IsFirstFrom c.self.inside.by_holder.entries p.node (slot_at p.serial 0) c.in_ok-key.key)
    c.holder.view_is c.in_ok-key.ensures.some)
    _ _ (ap (λ (k : Key). k.holder.serial) c.key.view_is) (ap (λ (p : Process). p.serial) c.holder.view_is)
    c.if-key-holder.true)

pub returns-else-key-holder-clause-none : goal.returns-else-key-holder-clause-none
returns-else-key-holder-clause-none c =
    rw (← c.self.view_is)
    (none_of-first c.self.inside.grants.entries c.self.inside.by_holder.entries c.self.invariant.once
    c.self.invariant.placed c.args.holder.now c.in_ok-key.key
    (subst (λ (p : Process). IsFirstFrom c.self.inside.by_holder.entries p.node (slot_at p.serial 0) c.in_ok-key.key)
    c.holder.view_is c.in_ok-key.ensures.some)
    _ _ (ap (λ (k : Key). k.holder.serial) c.key.view_is) (ap (λ (p : Process). p.serial) c.holder.view_is)
    c.if-key-holder.false)
