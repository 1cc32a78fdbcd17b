use Rattle.std.proofs.Common.{ℕ, Some, ap, sym, ◌∙◌, get_or}
use Rattle.registry_model.specs.Process.{Process}
use Rattle.registry_model.specs.Table.{Pair}
use Rattle.term.specs.Rules.{rule_of}
use Rattle.name_table.specs.Places.{stands}
use Rattle.name_table.proofs.Places.{entry-told, entry-absent}
use Rattle.name_table.proofs.list_table.entry_in.Goals as goal

pub returns-then-stands_at : goal.returns-then-stands_at
returns-then-stands_at c =
    let there = ap (stands c.args.name.now c.args.pairs.now) (sym c.place_of-at.ensures) ∙ sym c.stands_at.ensures
    ∙ c.if-stands_at.true in
    ap (λ (p : Process).
    let e : Pair = record { name = c.args.name.now; owner = p; rule = rule_of c.pair.inside.rule } in Some e)
    c.copy.ensures
    ∙ entry-told c.args.name.now c.args.pairs.now c.index-pairs-at.result _ c.requires there
    (c.pair.view_is ∙ c.index-pairs-at.is
    ∙ ap (λ (i : ℕ). get_or c.args.pairs.now i c.index-pairs-at.result) c.place_of-at.ensures)

pub returns-else-stands_at : goal.returns-else-stands_at
returns-else-stands_at c =
    sym (entry-absent c.args.name.now c.args.pairs.now c.requires
    (ap (stands c.args.name.now c.args.pairs.now) (sym c.place_of-at.ensures) ∙ sym c.stands_at.ensures
    ∙ c.if-stands_at.false))
