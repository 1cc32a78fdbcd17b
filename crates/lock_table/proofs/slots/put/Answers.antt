use Rattle.std.proofs.Common.{None, Option, Some, ap, refl, subst, sym, ◌∙◌}
use Rattle.std.specs.Prelude.{IsSome}
use Rattle.std.specs.Option.{option_copied_mut}
use Rattle.registry_model.specs.Process.{Process, Text}
use Rattle.lock_table.specs.Index.{SetsAt, Slots, place_at, slot_at}
use Rattle.lock_table.proofs.Facts.{where_refused}
use Rattle.lock_table.proofs.Standing.{SetsSlot, sets_at, slot_first, slots_first, stands_as}
use Rattle.lock_table.proofs.slots.put.Goals as goal

pub returns-in_err-insert-clause-err : goal.returns-in_err-insert-clause-err
returns-in_err-insert-clause-err c =
    let u = c.insert.new.self in
    let holds = c.get_mut.follows.holds u in
    where_refused c.from_residual.result
    (stands_as c.args.places.now.entries (c.get_mut.follows.lender u).entries c.holder.inside.node c.in-Some.slots.now u
    (sym c.in-Some.ensures.value) c.in_err-insert.ensures.err
    (holds.3 (subst (λ (o : Option Slots). IsSome o) c.in-Some.ensures.value refl)).0)

pub returns-in-Some-clause-ok : goal.returns-in-Some-clause-ok
returns-in-Some-clause-ok c =
    let h : Process = record { node = c.holder.inside.node; serial = c.holder.inside.serial } in
    let r = c.args.resource.now in
    let x = c.args.places.now.entries in
    let y = (c.get_mut.follows.lender c.insert.new.self).entries in
    let t = c.in-Some.slots.now in
    let u = c.insert.new.self in
    let holds = c.get_mut.follows.holds u in
    subst (λ (p : Process). SetsAt (place_at p c.args.number) (Some r) x y) c.holder.view_is
    (sets_at x y h c.args.number (Some r) (Some t) (Some u) (sym c.in-Some.ensures.value)
    (subst (λ (s : Text). SetsSlot (slot_at h.serial c.args.number) (Some s) (Some t) (Some u)) c.copy.ensures
    c.in_ok-insert.ensures.updates.0)
    (holds.3 (subst (λ (o : Option Slots). IsSome o) c.in-Some.ensures.value refl)).0)

pub returns-clause-ok : goal.returns-clause-ok
returns-clause-ok c =
    let h : Process = record { node = c.holder.inside.node; serial = c.holder.inside.serial } in
    let r = c.args.resource.now in
    let x = c.args.places.now.entries in
    let y = c.insert-3.new.self.entries in
    let t = c.new-slots.result in
    let u = c.insert-2.new.self in
    subst (λ (p : Process). SetsAt (place_at p c.args.number) (Some r) x y) c.holder.view_is
    (sets_at x y h c.args.number (Some r) None (Some u)
    (sym (sym (ap option_copied_mut c.in_default.is) ∙ c.get_mut.ensures.value))
    (slot_first (slot_at h.serial c.args.number) (Some r) t u c.new-slots.ensures.empty
    (subst (λ (s : Text). SetsSlot (slot_at h.serial c.args.number) (Some s) (Some t) (Some u)) c.copy-2.ensures
    c.in_ok-insert-2.ensures.updates.0))
    (slots_first h.node _ u x _ y c.copy-3.ensures
    (c.reserve.ensures.entries ∙ ap (λ m. m.entries) c.get_mut.follows.holds-at-none)
    (rw c.unwrap-none.ensures at c.insert-3.ensures.updates).0))
