use Rattle.std.proofs.Common.{None, Option, Some, refl, subst, sym}
use Rattle.std.specs.Prelude.{IsSome}
use Rattle.std.proofs.lemmas.List.{nil_from_length}
use Rattle.registry_model.specs.Process.{Process}
use Rattle.lock_table.specs.Index.{SetsAt, Slots, place_at, slot_at}
use Rattle.lock_table.proofs.Standing.{sets_at, slot_last, slots_last}
use Rattle.lock_table.proofs.slots.take.Goals as goal

pub returns-then-is_empty : goal.returns-then-is_empty
returns-then-is_empty c =
    let h : Process = record { node = c.holder.inside.node; serial = c.holder.inside.serial } in
    let x = c.args.places.now.entries in
    let b = (c.get_mut.follows.lender c.remove.new.self).entries in
    let y = c.swap_remove.new.self.entries in
    let t = c.in-Some.slots.now in
    let u = c.remove.new.self in
    let holds = c.get_mut.follows.holds u in
    let empty = nil_from_length u.entries (c.is_empty.ensures.0 c.if-is_empty.true) in
    subst (λ (p : Process). SetsAt (place_at p c.args.number) None x y) c.holder.view_is
    (sets_at x y h c.args.number None (Some t) None (sym c.in-Some.ensures.value)
    (slot_last (slot_at h.serial c.args.number) None (Some t) u empty c.remove.ensures.updates.0)
    (slots_last h.node u x b y (holds.3 (subst (λ (o : Option Slots). IsSome o) c.in-Some.ensures.value refl)).0
    c.swap_remove.ensures.updates.0))

pub returns-else-is_empty : goal.returns-else-is_empty
returns-else-is_empty c =
    let h : Process = record { node = c.holder.inside.node; serial = c.holder.inside.serial } in
    let x = c.args.places.now.entries in
    let y = (c.get_mut.follows.lender c.remove.new.self).entries in
    let t = c.in-Some.slots.now in
    let u = c.remove.new.self in
    let holds = c.get_mut.follows.holds u in
    subst (λ (p : Process). SetsAt (place_at p c.args.number) None x y) c.holder.view_is
    (sets_at x y h c.args.number None (Some t) (Some u) (sym c.in-Some.ensures.value) c.remove.ensures.updates.0
    (holds.3 (subst (λ (o : Option Slots). IsSome o) c.in-Some.ensures.value refl)).0)
