-- Entries that are sorted by name are the table.
use Rattle.std.proofs.Common.{true, false, ◌==◌, ◌≡◌, ◌≤◌, ◌<◌, suc, Option, Some, None, List, [], ◌∷◌, map, refl, sym, subst, ap, ◌∙◌, inl, inr, arith}
use Rattle.std.specs.Cmp.{nat_eq_equiv}
use Rattle.std.specs.List.{IsDistinct}
use Rattle.std.specs.List.Sorted.{IsPermutation, IsNonDecreasingBy}
use Rattle.std.specs.Map.{keys_of}
use Rattle.std.proofs.lemmas.Bool.{cases_eq, eq-eqb, ne_eqb, eqb-true, lt-ltb}
use Rattle.std.proofs.lemmas.List.Sorted.{IsPermutation-map, IsPermutation-sym, Contains-permutation}
use Rattle.std.proofs.lemmas.Map.Keys.{IsDistinct-IsPermutation}
use Rattle.std.proofs.lemmas.Map.Views.{Contains-from_lookup, lookup-from_Contains}
use Rattle.registry_model.specs.Process.{Text}
use Rattle.registry_model.specs.Table.{Pair, Table, entry, is_rising, names}
use Rattle.name_table.specs.declared.change.Registration.{Registration}
use Rattle.name_table.specs.Changes.{pair_under}
use Rattle.name_table.specs.Index.{Owners, standing, pair_of, table_of, pairs_of}
use Rattle.name_table.proofs.Index.{table_told}
use Rattle.name_table.proofs.NameSets.{flip}

-- what stands under a name among pairs
entry-pairs_of : (es : Owners) (y : Text) → entry y (pairs_of es) ≡ pair_under y (standing y es)
entry-pairs_of [] y = refl
entry-pairs_of (e ∷ es) y = elim (cases_eq e.0 y) [
  | inl i ↦ rw (eq-eqb e.0 y i, eq-eqb y e.0 (sym i)) (ap (λ (x : Text). Some (pair_of (x, e.1))) i)
  | inr ne ↦ rw (ne_eqb e.0 y ne, ne_eqb y e.0 (λ i. ne (sym i))) (entry-pairs_of es y)
]

-- names that don't fall, of which no two are the same, rise
is_rising-pairs_of : {X : Type 0} (as_entry : X → Text × Registration) (xs : List X) →
    IsNonDecreasingBy (λ x. (as_entry x).0) xs → IsDistinct (λ x y. x == y) (keys_of (map as_entry xs)) →
    is_rising (pairs_of (map as_entry xs)) ≡ true
unfolding IsDistinct
is_rising-pairs_of as_entry [] h d = refl
is_rising-pairs_of as_entry (x ∷ []) h d = refl
is_rising-pairs_of as_entry (x ∷ y ∷ xs) h d =
    rw (lt-ltb (as_entry x).0 (as_entry y).0 (below (h 0 1 x (omega arith) (omega arith)) (λ i. apart i d.0.0)))
    (is_rising-pairs_of as_entry (y ∷ xs) (λ i j k l m. h (suc i) (suc j) k (omega (arith, l)) (omega (arith, m))) d.1)
  where
    apart : (as_entry x).0 ≡ (as_entry y).0 → ((as_entry x).0 == (as_entry y).0) ≡ false → ⊥
    apart i k = let t = eq-eqb (as_entry x).0 (as_entry y).0 i in cc

    below : (as_entry x).0 ≤ (as_entry y).0 → ((as_entry x).0 ≡ (as_entry y).0 → ⊥) → (as_entry x).0 < (as_entry y).0
    below l ne = omega (arith, l, ne)

-- what stands under a name is the same in another order
standing-permutation : (es fs : Owners) → IsPermutation es fs → IsDistinct (λ x y. x == y) (keys_of es) →
    IsDistinct (λ x y. x == y) (keys_of fs) → (y : Text) → standing y es ≡ standing y fs
standing-permutation es fs p d e y = go (standing y es) refl
  where
    there : (a b : Owners) → IsPermutation a b → IsDistinct (λ x z. x == z) (keys_of b) → (f : Registration) →
        standing y a ≡ Some f → standing y b ≡ Some f
    there a b m n f k = lookup-from_Contains nat_eq_equiv y f b n
        (Contains-permutation a b (y, f) m (Contains-from_lookup {eq = λ x z. x == z} (λ x z. eqb-true x z) y f a k))

    none : (o : Option Registration) → standing y fs ≡ o → standing y es ≡ None → o ≡ None
    none None i k = refl
    none (Some f) i k = absurd (let m = there fs es (IsPermutation-sym es fs p) d f i in cc)

    go : (o : Option Registration) → standing y es ≡ o → o ≡ standing y fs
    go None k = sym (none (standing y fs) refl k)
    go (Some f) k = sym (there es fs p e f k)

-- the entries of a table in another order, in which names don't fall, make its pairs
pub sorted-table_of : {X : Type 0} (as_entry : X → Text × Registration) (es : Owners) (xs ys : List X) →
    IsDistinct (λ x y. x == y) (keys_of es) → map as_entry xs ≡ es → IsPermutation xs ys →
    IsNonDecreasingBy (λ x. (as_entry x).0) ys → pairs_of (map as_entry ys) ≡ table_of es
sorted-table_of as_entry es xs ys d s p h =
    let fs = map as_entry ys in
    let q : IsPermutation es fs = subst (λ (l : Owners). IsPermutation l fs) s (IsPermutation-map as_entry xs ys p) in
    let e : IsDistinct (λ x y. x == y) (keys_of fs) =
    IsDistinct-IsPermutation (λ x y. x == y) flip (keys_of es) (keys_of fs) (IsPermutation-map (λ f. f.0) es fs q) d in
    sym (table_told es (pairs_of fs) (is_rising-pairs_of as_entry ys h e)
    (λ y. ap (pair_under y) (standing-permutation es fs q d e y) ∙ sym (entry-pairs_of fs y)))

-- the pairs of entries, and their names
pub pairs_of-map : {X : Type 0} (as_entry : X → Text × Registration) (xs : List X) →
    pairs_of (map as_entry xs) ≡ map (λ x. pair_of (as_entry x)) xs
pairs_of-map as_entry [] = refl
pairs_of-map as_entry (x ∷ xs) =
    ap (λ (t : Table). pair_of (as_entry x) ∷ t) (pairs_of-map as_entry xs)

pub names-map : {X : Type 0} (pair : X → Pair) (xs : List X) → map (λ x. (pair x).name) xs ≡ names (map pair xs)
names-map pair [] = refl
names-map pair (x ∷ xs) = ap (λ (ys : List Text). (pair x).name ∷ ys) (names-map pair xs)
