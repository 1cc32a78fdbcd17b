-- The least name that the index lists under a process.
use Rattle.std.proofs.Common.{true, ◌≡◌, Some, None, sym, ap, ◌∙◌, nat_cmp, BTreeSet}
use Rattle.std.specs.BTreeSet.{contains, IsLowerBound}
use Rattle.std.proofs.lemmas.Map.Keys.{le_from_not_gt}
use Rattle.registry_model.specs.Process.{Text, Process}
use Rattle.registry_model.specs.Table.{get}
use Rattle.name_table.specs.Owners.{name_of}
use Rattle.name_table.specs.Index.{Owners, Owned, names_of, table_of, is_owner, is_among, is_listed, Agrees}
use Rattle.name_table.proofs.Index.{get-table_of, is_rising-table_of, name_of-none, name_of-least}

-- what is listed under a process is what it owns in the table
owned_as_listed : (owners : Owners) (owned : Owned) (p : Process) (y : Text) → Agrees owners owned →
    is_owner p (get y (table_of owners)) ≡ is_listed y p owned
owned_as_listed owners owned p y a = ap (is_owner p) (get-table_of owners y) ∙ sym (a.same y p)

-- who isn't listed owns no name
pub name_of-unlisted : (owners : Owners) (owned : Owned) (p : Process) → Agrees owners owned →
    names_of p owned ≡ None → name_of p (table_of owners) ≡ None
name_of-unlisted owners owned p a k =
    name_of-none p (table_of owners) (is_rising-table_of owners)
    (λ y. owned_as_listed owners owned p y a ∙ ap (is_among y) k)

-- the least of the names that are listed under a process is the least that it owns
pub name_of-listed : (owners : Owners) (owned : Owned) (p : Process) (names : BTreeSet Text) (x : Text) →
    Agrees owners owned → names_of p owned ≡ Some names → contains nat_cmp names x ≡ true →
    IsLowerBound nat_cmp names x → name_of p (table_of owners) ≡ Some x
name_of-listed owners owned p names x a k there low =
    name_of-least p (table_of owners) x (is_rising-table_of owners)
    (owned_as_listed owners owned p x a ∙ ap (is_among x) k ∙ there)
    (λ y o. le_from_not_gt x y (low y (sym (ap (is_among y) k) ∙ sym (owned_as_listed owners owned p y a) ∙ o)))
