-- As many names stand in a table as its map has entries.
use Rattle.std.proofs.Common.{suc, Bool, true, false, ◌==◌, ◌≡◌, Some, None, [], ◌∷◌, length, refl, sym, ap, ◌∙◌}
use Rattle.std.specs.Prelude.{if◌then◌else◌, nat_lt}
use Rattle.std.specs.List.{IsDistinct}
use Rattle.std.specs.Map.{keys_of}
use Rattle.registry_model.specs.Table.{Pair, Table, get, put}
use Rattle.name_table.specs.Index.{Owners, owner_under, pair_of, table_of}
use Rattle.name_table.proofs.Index.{get-table_of, standing-absent}

-- a name that nobody had is one more
length-put : (new : Pair) (t : Table) → get new.name t ≡ None → length (put new t) ≡ suc (length t)
length-put new [] h = refl
length-put new (e ∷ t) h = go (λ k. length-put new t k) (e.name == new.name) h
  where
    behind : (b : Bool) → length (put new t) ≡ suc (length t) →
        length (if b then new ∷ e ∷ t else e ∷ put new t) ≡ suc (suc (length t))
    behind true more = refl
    behind false more = ap suc more

    go : (get new.name t ≡ None → length (put new t) ≡ suc (length t)) → (b : Bool) →
        (if b then Some e.owner else get new.name t) ≡ None →
        length (if b then new ∷ t else (if nat_lt new.name e.name then new ∷ e ∷ t else e ∷ put new t))
        ≡ suc (suc (length t))
    go more true h = absurd (cc h)
    go more false h = behind (nat_lt new.name e.name) (more h)

pub counted : (es : Owners) → IsDistinct (λ x y. x == y) (keys_of es) → length es ≡ length (table_of es)
unfolding IsDistinct
counted [] d = refl
counted (e ∷ es) d =
    ap suc (counted es d.1)
    ∙ sym (length-put (pair_of e) (table_of es) (get-table_of es e.0 ∙ ap owner_under (standing-absent e.0 es d.0)))
