-- What is taken off to be shown.
use Rattle.std.proofs.Common.{◌≡◌, ◌<◌, true, Vec, Global, Option, Some, None, [], refl, sym, ap, subst, ◌∙◌}
use Rattle.registry_model.specs.Table.{Pair as Owned, Table, is_rising, entry, put_all}
use Rattle.registry_model.proofs.Tables.{or_else, same_table, entry-put_all, is_rising-put_all}
use Rattle.name_table.specs.declared.change.Pair.{Pair}
use Rattle.node_loop.specs.declared.edit.Edit.{Edit}
use Rattle.node_loop.specs.declared.edit.Edit.TheVariants as edit
use Rattle.node_loop.specs.declared.edit.Edition.{Edition}
use Rattle.node_loop.specs.declared.edit.Note.{Note}
use Rattle.node_loop.specs.declared.edit.Note.TheVariants.{Nothing, One, Whole}
use Rattle.node_loop.specs.Editions.{updated}
use Rattle.node_loop.specs.Owing.{shown_by, LeadsTo, TakesUpdate}
use Rattle.node_loop.specs.Held.{Looping}

-- a table is that of its pairs, put one behind the other
rebuilt : (t : Table) → is_rising t ≡ true → put_all t [] ≡ t
rebuilt t r = same_table (put_all t []) t (is_rising-put_all t [] refl) r (λ y. entry-put_all t [] r y ∙ alone (entry y t))
  where
    alone : (o : Option Owned) → or_else o None ≡ o
    alone None = refl
    alone (Some e) = refl

module _ (a b : Looping) (taken : b ≡ record a { owed = record a.owed { note = Nothing } }) where
  same_shown : shown_by a ≡ shown_by b
  same_shown = ap shown_by (sym taken)

  -- the one edit that was owed
  pub takes_one : (edit : Edit) → a.owed.note ≡ One edit → TakesUpdate (Some (record { length = a.owed.length; edit = edit })) a b
  takes_one edit one = (taken, refl, λ e O. at e (subst (λ (n : Note). LeadsTo n e (shown_by a)) one O.leads))
    where
      at : (e : Edition) → LeadsTo (One edit) e (shown_by a)
          → (updated e (record { length = a.owed.length; edit = edit }) ≡ shown_by b) × (e.length < a.owed.length)
      at e h = (h.0 ∙ same_shown, h.1)

  -- the whole table
  pub takes_whole : (pairs : Vec Pair Global) → a.owed.note ≡ Whole → is_rising a.core.table ≡ true → pairs.items ≡ a.core.table
      → TakesUpdate (Some (record { length = a.owed.length; edit = edit.Whole pairs a.left })) a b
  takes_whole pairs whole rises all = (taken, refl, λ e O. at e (subst (λ (n : Note). LeadsTo n e (shown_by a)) whole O.leads))
    where
      table : put_all pairs.items [] ≡ a.core.table
      table = ap (λ (t : Table). put_all t []) all ∙ rebuilt a.core.table rises

      at : (e : Edition) → LeadsTo Whole e (shown_by a)
          → (updated e (record { length = a.owed.length; edit = edit.Whole pairs a.left }) ≡ shown_by b) × (e.length < a.owed.length)
      at e h = ((λ j. record { node = h.0 j; table = table j; length = a.owed.length; left = a.left }) ∙ same_shown, h.1)
