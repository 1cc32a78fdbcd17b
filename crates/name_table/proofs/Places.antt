-- The place of a name in a rising table: what the search finds, and what is read and written there.
use Rattle.std.proofs.Common.{ℕ, zero, suc, Bool, true, false, ◌==◌, ◌≡◌, ◌<◌, ◌≤◌, Option, Some, None, [], ◌∷◌, length, get_or, set, refl, sym, ap, ◌∙◌, subst, inl, inr, arith}
use Rattle.std.specs.Prelude.{if◌then◌else◌, nat_lt, insert}
use Rattle.std.specs.List.{slice_get, remove as remove_at}
use Rattle.std.proofs.lemmas.Option.{slice_get-get_or, slice_get_within, get_or_from_slice_get}
use Rattle.std.proofs.lemmas.Bool.{cases_order, eqb-true, eq-eqb, ne_eqb, lt-ltb, le-ltb, ltb-true}
use Rattle.registry_model.specs.Process.{Text}
use Rattle.registry_model.specs.Table.{Pair, Table, Exit, get, entry, put, remove, is_below, is_rising}
use Rattle.registry_model.proofs.Tables.{is_rising-parts, entry-below, is_below-less, name-entry, get_from_none}
use Rattle.name_table.specs.Places.{place, is_name_of, stands}

-- before its place all names are less
pub less_before : (x : Text) (t : Table) (i : ℕ) (d : Pair) → i < place x t → nat_lt (get_or t i d).name x ≡ true
less_before x [] i d l = absurd (omega arith)
less_before x (e ∷ t) i d l = go (nat_lt e.name x) refl i l (λ j. less_before x t j d)
  where
    go : (b : Bool) → nat_lt e.name x ≡ b → (i : ℕ) → i < (if b then suc (place x t) else 0)
        → ((j : ℕ) → j < place x t → nat_lt (get_or t j d).name x ≡ true)
        → nat_lt (get_or (e ∷ t) i d).name x ≡ true
    go true q zero l h = q
    go true q (suc i) l h = h i (omega arith)
    go false q i l h = absurd (omega arith)

-- at its place the name isn't less
pub not_less_at : (x : Text) (t : Table) (d : Pair) → place x t < length t → nat_lt (get_or t (place x t) d).name x
    ≡ false
not_less_at x [] d l = absurd (omega arith)
not_less_at x (e ∷ t) d l = go (nat_lt e.name x) refl l (not_less_at x t d)
  where
    go : (b : Bool) → nat_lt e.name x ≡ b → (if b then suc (place x t) else 0) < suc (length t)
        → (place x t < length t → nat_lt (get_or t (place x t) d).name x ≡ false)
        → nat_lt (get_or (e ∷ t) (if b then suc (place x t) else 0) d).name x ≡ false
    go true q l h = h (omega arith)
    go false q l h = q

pub place_within : (x : Text) (t : Table) → place x t ≤ length t
place_within x [] = omega arith
place_within x (e ∷ t) = go (nat_lt e.name x) (place_within x t)
  where
    go : (b : Bool) → place x t ≤ length t → (if b then suc (place x t) else 0) ≤ suc (length t)
    go true l = omega arith
    go false l = omega arith

-- what stands under a name is to be seen at its place
entry-place : (x : Text) (t : Table) → is_rising t ≡ true
    → entry x t ≡ elim (slice_get t (place x t)) [ None ↦ None | Some e ↦ if e.name == x then Some e else None ]
entry-place x [] r = refl
entry-place x (e ∷ t) r = go (nat_lt e.name x) refl (entry-place x t (is_rising-parts e t r).1)
  where
    found : Option Pair → Option Pair
    found o = elim o [ None ↦ None | Some d ↦ if d.name == x then Some d else None ]

    go : (b : Bool) → nat_lt e.name x ≡ b → entry x t ≡ found (slice_get t (place x t))
        → (if e.name == x then Some e else entry x t) ≡ found (slice_get (e ∷ t) (if b then suc (place x t) else 0))
    go true q h = rw (ne_eqb e.name x (λ i. absurd (omega (arith, ltb-true e.name x q)))) h
    go false q h = same (e.name == x) refl
      where
        same : (b : Bool) → (e.name == x) ≡ b → (if b then Some e else entry x t) ≡ (if b then Some e else None)
        same true i = refl
        same false i = entry-below x t (is_rising-parts e t r).1 (below i)
          where
            below : (e.name == x) ≡ false → is_below x t ≡ true
            below i = elim (cases_order x e.name) [
              | inl j ↦ absurd (cc (eq-eqb e.name x (sym j), i))
              | inr (inl l) ↦ is_below-less e.name x t l (is_rising-parts e t r).0
              | inr (inr g) ↦ absurd (cc (lt-ltb e.name x g, q))
            ]

-- where the name stands the new pair takes its place
pub put-here : (new : Pair) (t : Table) (d : Pair) → place new.name t < length t
    → (get_or t (place new.name t) d).name ≡ new.name → put new t ≡ set t (place new.name t) new
put-here new [] d l e = absurd (omega arith)
put-here new (f ∷ t) d l e = elim (cases_order new.name f.name) [
  | inl j ↦ rw (eq-eqb f.name new.name (sym j), le-ltb f.name new.name (omega arith)) refl
  | inr (inl k) ↦ absurd (less (le-ltb f.name new.name (omega arith)) l e (omega arith))
  | inr (inr g) ↦ later (lt-ltb f.name new.name g) l e (ne_eqb f.name new.name (λ i. absurd (omega arith)))
      (le-ltb new.name f.name (omega arith)) (put-here new t d)
]
  where
    less : nat_lt f.name new.name ≡ false → place new.name (f ∷ t) < suc (length t)
        → (get_or (f ∷ t) (place new.name (f ∷ t)) d).name ≡ new.name
        → new.name < f.name → ⊥
    less q l e k = omega (
      arith,
      sym (ap (λ (b : Bool). (get_or (f ∷ t) (if b then suc (place new.name t) else 0) d).name) q)
          ∙ e,
    )

    later : nat_lt f.name new.name ≡ true → place new.name (f ∷ t) < suc (length t)
        → (get_or (f ∷ t) (place new.name (f ∷ t)) d).name ≡ new.name
        → (f.name == new.name) ≡ false → nat_lt new.name f.name ≡ false
        → (place new.name t < length t → (get_or t (place new.name t) d).name ≡ new.name → put new t
        ≡ set t (place new.name t) new)
        → put new (f ∷ t) ≡ set (f ∷ t) (place new.name (f ∷ t)) new
    later q l e n m h =
        let within : place new.name t < length t = omega (
          arith,
          subst
              (λ (b : Bool). (if b then suc (place new.name t) else 0) < suc (length t)) q l,
        ) in
        rw (n, m, q) (ap (λ (u : Table). f ∷ u) (h within (subst
        (λ (b : Bool). (get_or (f ∷ t) (if b then suc (place new.name t) else 0) d).name ≡ new.name) q e)))

-- and else it is inserted there
pub put-there : (new : Pair) (t : Table) (d : Pair)
    → (place new.name t < length t → (get_or t (place new.name t) d).name ≡ new.name → ⊥)
    → put new t ≡ insert t (place new.name t) new
put-there new [] d ne = refl
put-there new (f ∷ t) d ne = elim (cases_order new.name f.name) [
  | inl j ↦ absurd (here (le-ltb f.name new.name (omega arith)) j)
  | inr (inl k) ↦ rw (ne_eqb f.name new.name (λ i. absurd (omega arith)), lt-ltb new.name f.name k, le-ltb f.name new.name (omega arith))
      refl
  | inr (inr g) ↦ later (lt-ltb f.name new.name g) (ne_eqb f.name new.name (λ i. absurd (omega arith)))
      (le-ltb new.name f.name (omega arith)) (put-there new t d)
]
  where
    here : nat_lt f.name new.name ≡ false → new.name ≡ f.name → ⊥
    here q j = ne (subst (λ (b : Bool). (if b then suc (place new.name t) else 0) < suc (length t)) (sym q) (omega arith))
        (subst (λ (b : Bool). (get_or (f ∷ t) (if b then suc (place new.name t) else 0) d).name ≡ new.name) (sym q) (sym j))

    later : nat_lt f.name new.name ≡ true → (f.name == new.name) ≡ false → nat_lt new.name f.name ≡ false
        → ((place new.name t < length t → (get_or t (place new.name t) d).name ≡ new.name → ⊥) → put new t
        ≡ insert t (place new.name t) new)
        → put new (f ∷ t) ≡ insert (f ∷ t) (place new.name (f ∷ t)) new
    later q n m h = rw (n, m, q) (ap (λ (u : Table). f ∷ u) (h (λ l e. ne
        (subst (λ (b : Bool). (if b then suc (place new.name t) else 0) < suc (length t)) (sym q) (omega arith))
        (subst (λ (b : Bool). (get_or (f ∷ t) (if b then suc (place new.name t) else 0) d).name ≡ new.name) (sym q) e))))

-- where a name stands there is a pair of this name
pub stands_within : (x : Text) (t : Table) (i : ℕ) (d : Pair) → stands x t i ≡ true → (i < length t)
    × ((get_or t i d).name ≡ x)
stands_within x t i d h = go (slice_get t i) refl h
  where
    go : (o : Option Pair) → slice_get t i ≡ o → is_name_of x o ≡ true → (i < length t) × ((get_or t i d).name ≡ x)
    go None q h = cc
    go (Some e) q h = (
      slice_get_within t i e q,
      ap (λ (f : Pair). f.name) (get_or_from_slice_get t i e d q)
          ∙ eqb-true e.name x h,
    )

-- and where it doesn't, there is none
pub stands_not : (x : Text) (t : Table) (i : ℕ) (d : Pair) → stands x t i ≡ false → i < length t → (get_or t i d).name
    ≡ x → ⊥
stands_not x t i d h l e =
    cc (sym (ap (is_name_of x) (slice_get-get_or t i d l)) ∙ h, eq-eqb (get_or t i d).name x e)

-- what stands at its place stands under it
pub entry-stands : (x : Text) (t : Table) (d : Pair) → is_rising t ≡ true → stands x t (place x t) ≡ true
    → entry x t ≡ Some (get_or t (place x t) d)
entry-stands x t d r h = entry-place x t r ∙ go (slice_get t (place x t)) refl h
  where
    go : (o : Option Pair) → slice_get t (place x t) ≡ o → is_name_of x o ≡ true
        → (elim o [ None ↦ None | Some e ↦ if e.name == x then Some e else None ]) ≡ Some (get_or t (place x t) d)
    go None q h = cc
    go (Some e) q h = rw h (ap (λ (f : Pair). Some f) (sym (get_or_from_slice_get t (place x t) e d q)))

pub entry-absent : (x : Text) (t : Table) → is_rising t ≡ true → stands x t (place x t) ≡ false → entry x t ≡ None
entry-absent x t r h = entry-place x t r ∙ go (slice_get t (place x t)) h
  where
    found : Option Pair → Option Pair
    found o = elim o [ None ↦ None | Some e ↦ if e.name == x then Some e else None ]

    go : (o : Option Pair) → is_name_of x o ≡ false → found o ≡ None
    go None h = refl
    go (Some e) h = rw h refl

pub get-absent : (x : Text) (t : Table) → is_rising t ≡ true → stands x t (place x t) ≡ false → get x t ≡ None
get-absent x t r h = get_from_none x t (entry-absent x t r h)

-- the pair at its place, told by the name and by what the pair has else
pub entry-told : (x : Text) (t : Table) (d e : Pair) → is_rising t ≡ true → stands x t (place x t) ≡ true
    → e ≡ get_or t (place x t) d → Some (record { name = x; owner = e.owner; rule = e.rule }) ≡ entry x t
entry-told x t d e r h i =
    let there : entry x t ≡ Some e = entry-stands x t d r h ∙ ap (λ (f : Pair). Some f) (sym i) in
    ap (λ (y : Text). let f : Pair = record { name = y; owner = e.owner; rule = e.rule } in Some f) (sym (name-entry x t e there))
    ∙ sym there

-- a search that divides the names at i has found the place
pub place_at : (x : Text) (t : Table) (i : ℕ) → i ≤ length t
    → ((k : ℕ) (d : Pair) → k < i → nat_lt (get_or t k d).name x ≡ true)
    → ((k : ℕ) (d : Pair) → i ≤ k → k < length t → nat_lt (get_or t k d).name x ≡ false) → i ≡ place x t
place_at x t i l before behind = elim (cases_order i (place x t)) [
  | inl e ↦ e
  | inr (inl less) ↦
      absurd (cc (
        less_before x t i nothing less,
        behind i nothing (omega arith)
            (omega (arith, place_within x t, less)),
      ))
  | inr (inr more) ↦
      absurd (cc (before (place x t) nothing more, not_less_at x t nothing (omega (arith, more, l))))
]
  where
    nothing : Pair
    nothing = record { name = 0; owner = record { node = 0; serial = 0 }; rule = Exit }

-- who stands below all names of a rising table is less than each
all_above : (y : Text) (t : Table) → is_rising t ≡ true → is_below y t ≡ true → (j : ℕ) (d : Pair) → j < length t
    → y < (get_or t j d).name
all_above y [] r b j d l = absurd (omega arith)
all_above y (e ∷ t) r b zero d l = ltb-true y e.name b
all_above y (e ∷ t) r b (suc j) d l =
    let parts : (is_below e.name t ≡ true) × (is_rising t ≡ true) = is_rising-parts e t r in
    all_above y t parts.1 (is_below-less e.name y t (ltb-true y e.name b) parts.0) j d (omega arith)

-- the names before and behind a place of a rising table: who isn't less stays so behind
pub rising_parted : (x : Text) (t : Table) → is_rising t ≡ true → (i j : ℕ) (d : Pair) → i ≤ j → j < length t
    → nat_lt (get_or t j d).name x ≡ true → nat_lt (get_or t i d).name x ≡ true
rising_parted x [] r i j d le l h = absurd (omega arith)
rising_parted x (e ∷ t) r zero zero d le l h = h
rising_parted x (e ∷ t) r zero (suc j) d le l h =
    lt-ltb e.name x (omega (
      arith,
      ltb-true (get_or t j d).name x h,
      all_above e.name t (is_rising-parts e t r).1
          (is_rising-parts e t r).0 j d (omega arith),
    ))
rising_parted x (e ∷ t) r (suc i) zero d le l h = absurd (omega arith)
rising_parted x (e ∷ t) r (suc i) (suc j) d le l h = rising_parted x t (is_rising-parts e t r).1 i j d (omega arith)
    (omega arith) h

-- a put as the code makes it: over what stands at its place, or as a new pair there
pub put_stands : (new : Pair) (t : Table) (i : ℕ) → i ≡ place new.name t → stands new.name t i ≡ true
    → set t i new ≡ put new t
put_stands new t i e h =
    let there : (place new.name t < length t) × ((get_or t (place new.name t) new).name ≡ new.name) =
    stands_within new.name t (place new.name t) new (ap (stands new.name t) (sym e) ∙ h) in
    ap (λ (j : ℕ). set t j new) e ∙ sym (put-here new t new there.0 there.1)

pub put_absent : (new : Pair) (t : Table) (i : ℕ) → i ≡ place new.name t → stands new.name t i ≡ false
    → insert t i new ≡ put new t
put_absent new t i e h =
    ap (λ (j : ℕ). insert t j new) e ∙ sym (put-there new t new
    (stands_not new.name t (place new.name t) new (ap (stands new.name t) (sym e) ∙ h)))

-- a name that stands below all names is in no pair
pub remove-below : (x : Text) (t : Table) → is_rising t ≡ true → is_below x t ≡ true → remove x t ≡ t
remove-below x [] r b = refl
remove-below x (e ∷ t) r b =
    let parts : (is_below e.name t ≡ true) × (is_rising t ≡ true) = is_rising-parts e t r in
    let l : x < e.name = ltb-true x e.name b in
    rw (ne_eqb e.name x (λ i. absurd (omega arith)))
    (ap (λ (u : Table). e ∷ u) (remove-below x t parts.1 (is_below-less e.name x t l parts.0)))

-- a removal as the code makes it: what stands at its place goes, or nothing does
pub remove_stands : (x : Text) (t : Table) → is_rising t ≡ true → stands x t (place x t) ≡ true
    → remove_at t (place x t) ≡ remove x t
remove_stands x [] r h = cc
remove_stands x (e ∷ t) r h = elim (cases_order x e.name) [
  | inl i ↦ rw (eq-eqb e.name x (sym i), le-ltb e.name x (omega arith))
      (sym (remove-below x t parts.1 (subst (λ (y : Text). is_below y t ≡ true) (sym i) parts.0)))
  | inr (inl k) ↦ absurd (cc (
    ne_eqb e.name x (λ i. absurd (omega arith)),
    subst (λ (b : Bool). stands x (e ∷ t) (if b then suc (place x t) else 0) ≡ true) (le-ltb e.name x (omega arith)) h,
  ))
  | inr (inr g) ↦ rw (lt-ltb e.name x g, ne_eqb e.name x (λ i. absurd (omega arith)))
      (ap (λ (u : Table). e ∷ u) (remove_stands x t parts.1
      (subst (λ (b : Bool). stands x (e ∷ t) (if b then suc (place x t) else 0) ≡ true) (lt-ltb e.name x g) h)))
]
  where
    parts : (is_below e.name t ≡ true) × (is_rising t ≡ true)
    parts = is_rising-parts e t r

pub remove_absent : (x : Text) (t : Table) → is_rising t ≡ true → stands x t (place x t) ≡ false → remove x t ≡ t
remove_absent x [] r h = refl
remove_absent x (e ∷ t) r h = elim (cases_order x e.name) [
  | inl i ↦ absurd (cc (
    eq-eqb e.name x (sym i),
    subst (λ (b : Bool). stands x (e ∷ t) (if b then suc (place x t) else 0) ≡ false) (le-ltb e.name x (omega arith)) h,
  ))
  | inr (inl k) ↦ remove-below x (e ∷ t) r (lt-ltb x e.name k)
  | inr (inr g) ↦ rw (ne_eqb e.name x (λ i. absurd (omega arith)))
      (ap (λ (u : Table). e ∷ u) (remove_absent x t parts.1
      (subst (λ (b : Bool). stands x (e ∷ t) (if b then suc (place x t) else 0) ≡ false) (lt-ltb e.name x g) h)))
]
  where
    parts : (is_below e.name t ≡ true) × (is_rising t ≡ true)
    parts = is_rising-parts e t r
