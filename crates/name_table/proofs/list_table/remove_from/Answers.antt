use Rattle.std.proofs.Common.{ℕ, ap, sym, ◌∙◌}
use Rattle.std.specs.List.{remove as remove_at}
use Rattle.registry_model.specs.Table.{Table}
use Rattle.name_table.specs.Places.{place, stands}
use Rattle.name_table.proofs.Places.{remove_stands, remove_absent}
use Rattle.name_table.proofs.list_table.remove_from.Goals as goal

pub returns-then-stands_at : goal.returns-then-stands_at
returns-then-stands_at g c =
    let at = c.place_of-at.ensures ∙ ap (place c.args.name.now) c.as_slice.ensures.value in
    let there = ap (stands c.args.name.now c.args.pairs.now.items) (sym at)
    ∙ ap (λ (t : Table). stands c.args.name.now t c.place_of-at.result) (sym c.as_slice-2.ensures.value)
    ∙ sym c.stands_at.ensures ∙ c.if-stands_at.true in
    c.remove.ensures.items ∙ ap (λ (i : ℕ). remove_at c.args.pairs.now.items i) at
    ∙ remove_stands c.args.name.now c.args.pairs.now.items c.requires there

pub returns-else-stands_at : goal.returns-else-stands_at
returns-else-stands_at g c =
    let at = c.place_of-at.ensures ∙ ap (place c.args.name.now) c.as_slice.ensures.value in
    let absent = ap (stands c.args.name.now c.args.pairs.now.items) (sym at)
    ∙ ap (λ (t : Table). stands c.args.name.now t c.place_of-at.result) (sym c.as_slice-2.ensures.value)
    ∙ sym c.stands_at.ensures ∙ c.if-stands_at.false in
    sym (remove_absent c.args.name.now c.args.pairs.now.items c.requires absent)
