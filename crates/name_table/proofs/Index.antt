-- The table of an index: what stands under a name in it, what a change of it is, and the least name of a process.
use Rattle.std.proofs.Common.{ℕ, Bool, true, false, ◌==◌, ◌≡◌, ◌≤◌, Option, Some, None, [], ◌∷◌, filter, refl, sym, subst, ap, ◌∙◌, inl, inr, arith}
use Rattle.std.specs.Prelude.{if◌then◌else◌, not}
use Rattle.std.specs.List.{IsDistinct, AllByRecursion}
use Rattle.std.specs.Map.{keys_of}
use Rattle.std.proofs.lemmas.Bool.{cases_eq, cases_order, eq-eqb, ne_eqb, lt-ltb}
use Rattle.registry_model.specs.Process.{Text, Process, is_process}
use Rattle.registry_model.specs.Table.{Pair, Table, is_below, is_rising, get, entry, put, remove, strike, without}
use Rattle.registry_model.proofs.Tables.{is_rising-parts, is_rising-put, is_rising-remove, is_rising-strike, is_rising-without, get-below, get-entry, owner_in, entry-put, entry-remove, entry-strike, entry-without, get-front, get-behind, if_kept, if_passes, same_table}
use Rattle.name_table.specs.declared.change.Registration.{Registration}
use Rattle.name_table.specs.Changes.{pair_under}
use Rattle.name_table.specs.Owners.{name_of}
use Rattle.name_table.specs.Index.{Owners, standing, owner_under, owner_of, pair_of, table_of, is_owner}

-- what stands under a name
pub entry-table_of : (es : Owners) (y : Text) → entry y (table_of es) ≡ pair_under y (standing y es)
entry-table_of [] y = refl
entry-table_of (e ∷ es) y = entry-put (pair_of e) (table_of es) y ∙ (elim (cases_eq e.0 y) [
  | inl i ↦ rw (eq-eqb e.0 y i, eq-eqb y e.0 (sym i)) (ap (λ (x : Text). Some (pair_of (x, e.1))) i)
  | inr ne ↦ rw (ne_eqb e.0 y ne, ne_eqb y e.0 (λ i. ne (sym i))) (entry-table_of es y)
])

-- who has a name
pub get-table_of : (es : Owners) (y : Text) → get y (table_of es) ≡ owner_of y es
get-table_of es y = get-entry y (table_of es) ∙ ap owner_in (entry-table_of es y) ∙ go (standing y es)
  where
    go : (o : Option Registration) → owner_in (pair_under y o) ≡ owner_under o
    go None = refl
    go (Some e) = refl

-- its names rise
pub is_rising-table_of : (es : Owners) → is_rising (table_of es) ≡ true
is_rising-table_of [] = refl
is_rising-table_of (e ∷ es) = is_rising-put (pair_of e) (table_of es) (is_rising-table_of es)

-- a table is told by what stands under each name
pub table_told : (es : Owners) (t : Table) → is_rising t ≡ true →
    ((y : Text) → pair_under y (standing y es) ≡ entry y t) → table_of es ≡ t
table_told es t r h = same_table (table_of es) t (is_rising-table_of es) r (λ y. entry-table_of es y ∙ h y)

-- one more name, or something else under one
pub table-put : (old new : Owners) (x : Text) (e : Registration) →
    ((y : Text) → standing y new ≡ (if x == y then Some e else standing y old)) →
    table_of new ≡ put (pair_of (x, e)) (table_of old)
table-put old new x e h =
    table_told new (put (pair_of (x, e)) (table_of old)) (is_rising-put (pair_of (x, e)) (table_of old) (is_rising-table_of old))
    (λ y. ap (pair_under y) (h y) ∙ under y ∙ sym (entry-put (pair_of (x, e)) (table_of old) y
    ∙ ap (λ (o : Option Pair). if x == y then Some (pair_of (x, e)) else o) (entry-table_of old y)))
  where
    under : (y : Text) → pair_under y (if x == y then Some e else standing y old)
        ≡ (if x == y then Some (pair_of (x, e)) else pair_under y (standing y old))
    under y = elim (cases_eq x y) [
      | inl i ↦ rw (eq-eqb x y i) (ap (λ (z : Text). Some (pair_of (z, e))) (sym i))
      | inr ne ↦ rw (ne_eqb x y ne) refl
    ]

-- a name taken out
pub table-remove : (old new : Owners) (x : Text) →
    ((y : Text) → standing y new ≡ (if x == y then None else standing y old)) →
    table_of new ≡ remove x (table_of old)
table-remove old new x h =
    table_told new (remove x (table_of old)) (is_rising-remove x (table_of old) (is_rising-table_of old))
    (λ y. ap (pair_under y) (h y) ∙ under y (x == y) ∙ sym (entry-remove x (table_of old) y
    ∙ ap (λ (o : Option Pair). if x == y then None else o) (entry-table_of old y)))
  where
    under : (y : Text) (b : Bool) →
        pair_under y (if b then None else standing y old) ≡ (if b then None else pair_under y (standing y old))
    under y true = refl
    under y false = refl

-- all names of a process taken out
pub table-strike : (old new : Owners) (p : Process) →
    ((y : Text) → standing y new ≡ (if is_owner p (owner_of y old) then None else standing y old)) →
    table_of new ≡ strike p (table_of old)
table-strike old new p h =
    table_told new (strike p (table_of old)) (is_rising-strike p (table_of old) (is_rising-table_of old))
    (λ y. ap (pair_under y) (h y) ∙ kept y (standing y old) ∙ sym (entry-strike p (table_of old) (is_rising-table_of old) y
    ∙ ap (if_passes (λ e. not (is_process e.owner p))) (entry-table_of old y)))
  where
    by : (y : Text) (e : Registration) (b : Bool) →
        pair_under y (if b then None else Some e) ≡ (if not b then Some (pair_of (y, e)) else None)
    by y e true = refl
    by y e false = refl

    kept : (y : Text) (o : Option Registration) → pair_under y (if is_owner p (owner_under o) then None else o)
        ≡ if_passes (λ e. not (is_process e.owner p)) (pair_under y o)
    kept y None = refl
    kept y (Some e) = by y e (is_process e.owner p)

-- nothing stands under a name that isn't among the keys
pub standing-absent : (x : Text) (es : Owners) → AllByRecursion (λ y. (x == y) ≡ false) (keys_of es) →
    standing x es ≡ None
standing-absent x [] h = refl
standing-absent x (e ∷ es) h = rw h.0 (standing-absent x es h.1)

-- also where some are left out
standing-absent_filter : (ok : Process → Bool) (x : Text) (es : Owners) →
    AllByRecursion (λ y. (x == y) ≡ false) (keys_of es) → standing x (filter (λ e. ok e.1.owner) es) ≡ None
standing-absent_filter ok x [] h = refl
standing-absent_filter ok x (e ∷ es) h = go (ok e.1.owner) (standing-absent_filter ok x es h.1)
  where
    go : (b : Bool) → standing x (filter (λ f. ok f.1.owner) es) ≡ None →
        standing x (if b then e ∷ filter (λ f. ok f.1.owner) es else filter (λ f. ok f.1.owner) es) ≡ None
    go true k = rw h.0 k
    go false k = k

-- what stands under a name, where its owner passes
abbrev pub if_left : (Process → Bool) → Option Registration → Option Registration
if_left ok None = None
if_left ok (Some e) = if ok e.owner then Some e else None

-- what stands there of those whose owners pass
pub standing-filter : (ok : Process → Bool) (es : Owners) → IsDistinct (λ x y. x == y) (keys_of es) → (y : Text) →
    standing y (filter (λ e. ok e.1.owner) es) ≡ if_left ok (standing y es)
unfolding IsDistinct
standing-filter ok [] d y = refl
standing-filter ok (e ∷ es) d y = go (ok e.1.owner) refl (standing-filter ok es d.1 y)
  where
    left : Owners
    left = filter (λ f. ok f.1.owner) es

    none : e.0 ≡ y → standing y left ≡ None
    none i = subst (λ (z : Text). standing z left ≡ None) i (standing-absent_filter ok e.0 es d.0)

    go : (b : Bool) → ok e.1.owner ≡ b → standing y left ≡ if_left ok (standing y es) →
        standing y (if b then e ∷ left else left) ≡ if_left ok (if y == e.0 then Some e.1 else standing y es)
    go true k h = elim (cases_eq e.0 y) [
      | inl i ↦ rw (eq-eqb y e.0 (sym i)) (ap (λ (b : Bool). if b then Some e.1 else None) (sym k))
      | inr ne ↦ rw (ne_eqb y e.0 (λ i. ne (sym i))) h
    ]
    go false k h = elim (cases_eq e.0 y) [
      | inl i ↦ rw (eq-eqb y e.0 (sym i)) (none i ∙ ap (λ (b : Bool). if b then Some e.1 else None) (sym k))
      | inr ne ↦ rw (ne_eqb y e.0 (λ i. ne (sym i))) h
    ]

-- and who has it
pub owner_of-filter : (ok : Process → Bool) (es : Owners) → IsDistinct (λ x y. x == y) (keys_of es) → (y : Text) →
    owner_of y (filter (λ e. ok e.1.owner) es) ≡ if_kept ok (owner_of y es)
owner_of-filter ok es d y = ap owner_under (standing-filter ok es d y) ∙ go (standing y es)
  where
    by : (e : Registration) (b : Bool) → owner_under (if b then Some e else None) ≡ (if b then Some e.owner else None)
    by e true = refl
    by e false = refl

    go : (o : Option Registration) → owner_under (if_left ok o) ≡ if_kept ok (owner_under o)
    go None = refl
    go (Some e) = by e (ok e.owner)

-- the names of a node's processes taken out
pub table-without : (es : Owners) (d : ℕ) → IsDistinct (λ x y. x == y) (keys_of es) →
    table_of (filter (λ e. not (e.1.owner.node == d)) es) ≡ without (λ n. n == d) (table_of es)
table-without es d u =
    table_told (filter (λ e. not (e.1.owner.node == d)) es) (without (λ n. n == d) (table_of es))
    (is_rising-without (λ n. n == d) (table_of es) (is_rising-table_of es))
    (λ y. ap (pair_under y) (standing-filter (λ q. not (q.node == d)) es u y) ∙ kept y (standing y es)
    ∙ sym (entry-without (λ n. n == d) (table_of es) (is_rising-table_of es) y
    ∙ ap (if_passes (λ e. not (e.owner.node == d))) (entry-table_of es y)))
  where
    by : (y : Text) (e : Registration) (b : Bool) →
        pair_under y (if b then Some e else None) ≡ (if b then Some (pair_of (y, e)) else None)
    by y e true = refl
    by y e false = refl

    kept : (y : Text) (o : Option Registration) →
        pair_under y (if_left (λ q. not (q.node == d)) o) ≡ if_passes (λ e. not (e.owner.node == d)) (pair_under y o)
    kept y None = refl
    kept y (Some e) = by y e (not (e.owner.node == d))

-- who owns no name has no least one
pub name_of-none : (p : Process) (t : Table) → is_rising t ≡ true → ((y : Text) → is_owner p (get y t) ≡ false) →
    name_of p t ≡ None
name_of-none p [] r h = refl
name_of-none p (e ∷ t) r h =
    rw (ap (is_owner p) (sym (get-front e t)) ∙ h e.name) (name_of-none p t (is_rising-parts e t r).1 rest)
  where
    rest : (y : Text) → is_owner p (get y t) ≡ false
    rest y = elim (cases_eq e.name y) [
      | inl i ↦ ap (is_owner p) (get-below y t (is_rising-parts e t r).1
          (subst (λ (z : Text). is_below z t ≡ true) i (is_rising-parts e t r).0))
      | inr ne ↦ ap (is_owner p) (sym (get-behind e t y ne)) ∙ h y
    ]

-- the least name of a process, where it is one that it owns and no greater than any other
pub name_of-least : (p : Process) (t : Table) (x : Text) → is_rising t ≡ true → is_owner p (get x t) ≡ true →
    ((y : Text) → is_owner p (get y t) ≡ true → x ≤ y) → name_of p t ≡ Some x
name_of-least p [] x r o l = cc
name_of-least p (e ∷ t) x r o l = elim (cases_order x e.name) [
  | inl i ↦ rw (sym (ap (is_owner p) (ap (λ (z : Text). get z (e ∷ t)) i ∙ get-front e t)) ∙ o) (ap Some (sym i))
  | inr (inl k) ↦
      let n = ap (is_owner p) (get-below x (e ∷ t) r (lt-ltb x e.name k)) in
      cc
  | inr (inr g) ↦ go (is_process e.owner p) refl (λ i. absurd (omega (arith, g, i))) (λ m k. name_of-least p t x
      (is_rising-parts e t r).1 m k)
]
  where
    behind : (y : Text) → is_owner p (get y t) ≡ true → e.name ≡ y → ⊥
    behind y k i =
        let n = ap (is_owner p) (get-below y t (is_rising-parts e t r).1
        (subst (λ (z : Text). is_below z t ≡ true) i (is_rising-parts e t r).0)) in
        cc

    go : (b : Bool) → is_process e.owner p ≡ b → (x ≤ e.name → ⊥) →
        (is_owner p (get x t) ≡ true → ((y : Text) → is_owner p (get y t) ≡ true → x ≤ y) → name_of p t ≡ Some x) →
        (if b then Some e.name else name_of p t) ≡ Some x
    go true k g h = absurd (g (l e.name (ap (is_owner p) (get-front e t) ∙ k)))
    go false k g h = h (ap (is_owner p) (sym (get-behind e t x (λ i. g (omega (arith, i))))) ∙ o)
        (λ y m. l y (ap (is_owner p) (get-behind e t y (behind y m)) ∙ m))
