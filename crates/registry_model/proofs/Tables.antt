-- Tables: what stands under a name after a change, and who has it, that names still rise, and that a table is told by what stands
-- under each name.
use Rattle.std.proofs.Common.{ℕ, Bool, true, false, ◌==◌, ◌≡◌, ◌<◌, Option, Some, None, List, [], ◌∷◌, filter, refl, sym, subst, ap, ◌∙◌, inl, inr, arith}
use Rattle.std.specs.Prelude.{if◌then◌else◌, not, ◌&&◌, ◌||◌, ◌⊎◌}
use Rattle.std.specs.List.{list_any}
use Rattle.std.proofs.Math.Path.{ap₂}
use Rattle.std.proofs.lemmas.List.Elements.{filter_agree}
use Rattle.std.proofs.lemmas.Bool.{cases_eq, cases_order, eq-eqb, ne_eqb, lt-ltb, le-ltb, ltb-true, and_parts, and_from}
use Rattle.std.proofs.lemmas.Bool.Decides.{nat_tests}
use Rattle.registry_model.specs.Process.{Text, Process, is_process, Nodes, nobody, at}
use Rattle.registry_model.specs.Table.{Pair, Table, is_below, is_rising, get, entry, put, put_all, remove, remove_all, strike, without, Change, Put, Remove, StrikeOwner, changed}
use Rattle.registry_model.specs.Settlement.{Settled, with_settled}

-- a name below one that stands below all names of a table
pub is_below-less : (x y : Text) (t : Table) → y < x → is_below x t ≡ true → is_below y t ≡ true
is_below-less x y [] l b = refl
is_below-less x y (e ∷ t) l b = grind (arith, nat_tests)

-- the head of a rising table stands below its tail, which rises
pub is_rising-parts : (e : Pair) (t : Table) → is_rising (e ∷ t) ≡ true →
    (is_below e.name t ≡ true) × (is_rising t ≡ true)
is_rising-parts e t r = and_parts (is_below e.name t) (is_rising t) r

-- nobody has a name that stands below all names of a rising table
pub get-below : (x : Text) (t : Table) → is_rising t ≡ true → is_below x t ≡ true → get x t ≡ None
get-below x [] r b = refl
get-below x (e ∷ t) r b =
    let tail : (is_below e.name t ≡ true) × (is_rising t ≡ true) = is_rising-parts e t r in
    let l : x < e.name = ltb-true x e.name b in
    let h : get x t ≡ None = get-below x t tail.1 (is_below-less e.name x t l tail.0) in
    rw (ne_eqb e.name x (λ i. absurd (omega arith))) h

-- nothing stands under a name below all names of a rising table
pub entry-below : (x : Text) (t : Table) → is_rising t ≡ true → is_below x t ≡ true → entry x t ≡ None
entry-below x [] r b = refl
entry-below x (e ∷ t) r b =
    let tail : (is_below e.name t ≡ true) × (is_rising t ≡ true) = is_rising-parts e t r in
    let l : x < e.name = ltb-true x e.name b in
    let h : entry x t ≡ None = entry-below x t tail.1 (is_below-less e.name x t l tail.0) in
    rw (ne_eqb e.name x (λ i. absurd (omega arith))) h

-- the owner in a pair, if there is one
abbrev pub owner_in : Option Pair → Option Process
owner_in None = None
owner_in (Some e) = Some e.owner

-- who has a name is the owner in what stands under it
pub get-entry : (x : Text) (t : Table) → get x t ≡ owner_in (entry x t)
get-entry x [] = refl
get-entry x (e ∷ t) = go (e.name == x) (get-entry x t)
  where
    go : (b : Bool) → get x t ≡ owner_in (entry x t) →
        (if b then Some e.owner else get x t) ≡ owner_in (if b then Some e else entry x t)
    go true h = refl
    go false h = h

-- what stands under a name has it
pub name-entry : (x : Text) (t : Table) (e : Pair) → entry x t ≡ Some e → e.name ≡ x
name-entry x [] e h = absurd cc
name-entry x (d ∷ t) e h = go (cases_eq d.name x) (name-entry x t e)
  where
    go : (d.name ≡ x) ⊎ (d.name ≡ x → ⊥) → (entry x t ≡ Some e → e.name ≡ x) → e.name ≡ x
    go (inl i) later =
        let k : ◌≡◌ {A = Option Pair} (Some d) (Some e) =
        sym (ap (λ (b : Bool). if b then Some d else entry x t) (eq-eqb d.name x i)) ∙ h in
        let o : d ≡ e = cc in
        sym (ap (λ (f : Pair). f.name) o) ∙ i
    go (inr ne) later = later (sym (ap (λ (b : Bool). if b then Some d else entry x t) (ne_eqb d.name x ne)) ∙ h)

-- who has a name is told by the pair under it
pub get_from_entry : (x : Text) (t : Table) (e : Pair) → entry x t ≡ Some e → get x t ≡ Some e.owner
get_from_entry x t e h = get-entry x t ∙ ap owner_in h

-- nobody has a name under which nothing stands
pub get_from_none : (x : Text) (t : Table) → entry x t ≡ None → get x t ≡ None
get_from_none x t h = get-entry x t ∙ ap owner_in h

-- and the other way round
pub entry_from_none : (x : Text) (t : Table) → get x t ≡ None → entry x t ≡ None
entry_from_none x t h = go (entry x t) (sym (get-entry x t) ∙ h)
  where
    go : (o : Option Pair) → owner_in o ≡ None → o ≡ None
    go None k = refl
    go (Some e) k = absurd cc

-- the pair of who has a name
pub entry_from_get : (x : Text) (t : Table) (p : Process) → get x t ≡ Some p →
    (e : Pair) × (entry x t ≡ Some e) × (e.owner ≡ p) × (e.name ≡ x)
entry_from_get x t p h = go (entry x t) refl (sym (get-entry x t) ∙ h)
  where
    go : (o : Option Pair) → entry x t ≡ o → owner_in o ≡ Some p →
        (e : Pair) × (entry x t ≡ Some e) × (e.owner ≡ p) × (e.name ≡ x)
    go None k i = absurd cc
    go (Some e) k i = let o : e.owner ≡ p = cc in (e, k, o, name-entry x t e k)

-- put: the pair stands under its name, and under each other name what stood there
pub entry-put : (new : Pair) (t : Table) (y : Text) →
    entry y (put new t) ≡ (if new.name == y then Some new else entry y t)
entry-put new [] y = refl
entry-put new (e ∷ t) y =
    let h : entry y (put new t) ≡ (if new.name == y then Some new else entry y t) = entry-put new t y in
    elim (cases_order new.name e.name) [
      | inl i ↦ grind (arith, nat_tests)
      | inr (inl l) ↦ grind (arith, nat_tests)
      | inr (inr g) ↦ grind (arith, nat_tests)
    ]

-- put: its name has its owner, and each other name has whom it had
pub get-put : (new : Pair) (t : Table) (y : Text) →
    get y (put new t) ≡ (if new.name == y then Some new.owner else get y t)
get-put new t y = get-entry y (put new t) ∙ ap owner_in (entry-put new t y) ∙ go (new.name == y)
  where
    go : (b : Bool) → owner_in (if b then Some new else entry y t) ≡ (if b then Some new.owner else get y t)
    go true = refl
    go false = sym (get-entry y t)

-- a put keeps what stands below all names
pub is_below-put : (z : Text) (new : Pair) (t : Table) → z < new.name → is_below z t ≡ true →
    is_below z (put new t) ≡ true
is_below-put z new [] l b = lt-ltb z new.name l
is_below-put z new (e ∷ t) l b = elim (cases_order new.name e.name) [
  | inl i ↦ rw (eq-eqb e.name new.name (sym i)) (lt-ltb z new.name l)
  | inr (inl k) ↦ rw (ne_eqb e.name new.name (λ i. absurd (omega arith)), lt-ltb new.name e.name k)
      (lt-ltb z new.name l)
  | inr (inr g) ↦ rw (ne_eqb e.name new.name (λ i. absurd (omega arith)), le-ltb new.name e.name (omega arith)) b
]

-- after a put the names still rise
pub is_rising-put : (new : Pair) (t : Table) → is_rising t ≡ true → is_rising (put new t) ≡ true
is_rising-put new [] r = refl
is_rising-put new (e ∷ t) r =
    let tail : (is_below e.name t ≡ true) × (is_rising t ≡ true) = is_rising-parts e t r in
    let h : is_rising (put new t) ≡ true = is_rising-put new t tail.1 in
    elim (cases_order new.name e.name) [
      | inl i ↦ rw (eq-eqb e.name new.name (sym i)) (rw (i, tail.0) tail.1)
      | inr (inl l) ↦ rw (ne_eqb e.name new.name (λ i. absurd (omega arith)), lt-ltb new.name e.name l)
          (rw (lt-ltb new.name e.name l, tail.0) tail.1)
      | inr (inr g) ↦ rw (ne_eqb e.name new.name (λ i. absurd (omega arith)), le-ltb new.name e.name (omega arith))
          (rw (is_below-put e.name new t g tail.0) h)
    ]

-- remove: nothing stands under x, and under each other name what stood there
pub entry-remove : (x : Text) (t : Table) (y : Text) → entry y (remove x t) ≡ (if x == y then None else entry y t)
entry-remove x [] y = go (x == y)
  where
    go : (b : Bool) → ◌≡◌ {A = Option Pair} None (if b then None else None)
    go true = refl
    go false = refl
entry-remove x (e ∷ t) y = let h : entry y (remove x t) ≡ (if x == y then None else entry y t) = entry-remove x t y in
    elim (cases_eq e.name x) [
      | inl i ↦ grind (arith, nat_tests)
      | inr ne ↦ grind (arith, nat_tests)
    ]

-- remove: nobody has x, and each other name has whom it had
pub get-remove : (x : Text) (t : Table) (y : Text) → get y (remove x t) ≡ (if x == y then None else get y t)
get-remove x t y = get-entry y (remove x t) ∙ ap owner_in (entry-remove x t y) ∙ go (x == y)
  where
    go : (b : Bool) → owner_in (if b then None else entry y t) ≡ (if b then None else get y t)
    go true = refl
    go false = sym (get-entry y t)

-- a filter keeps what stands below all names
pub is_below-filter : (ok : Pair → Bool) (z : Text) (t : Table) → is_rising t ≡ true → is_below z t ≡ true →
    is_below z (filter ok t) ≡ true
is_below-filter ok z [] r b = refl
is_below-filter ok z (e ∷ t) r b =
    let tail : (is_below e.name t ≡ true) × (is_rising t ≡ true) = is_rising-parts e t r in
    let h : is_below z (filter ok t) ≡ true =
    is_below-filter ok z t tail.1 (is_below-less e.name z t (ltb-true z e.name b) tail.0) in
    elim (ok e) as (λ v. is_below z (if v then e ∷ filter ok t else filter ok t) ≡ true) [ true ↦ b | false ↦ h ]

-- after a filter the names still rise
pub is_rising-filter : (ok : Pair → Bool) (t : Table) → is_rising t ≡ true → is_rising (filter ok t) ≡ true
is_rising-filter ok [] r = refl
is_rising-filter ok (e ∷ t) r =
    let tail : (is_below e.name t ≡ true) × (is_rising t ≡ true) = is_rising-parts e t r in
    let h : is_rising (filter ok t) ≡ true = is_rising-filter ok t tail.1 in
    elim (ok e) as (λ v. is_rising (if v then e ∷ filter ok t else filter ok t) ≡ true) [
      | true ↦ and_from _ _ (is_below-filter ok e.name t tail.1 tail.0) h
      | false ↦ h
    ]

-- the owner, where he passes
abbrev pub if_kept : (Process → Bool) → Option Process → Option Process
if_kept ok None = None
if_kept ok (Some p) = if ok p then Some p else None

-- the pair, where it passes
abbrev pub if_passes : (Pair → Bool) → Option Pair → Option Pair
if_passes ok None = None
if_passes ok (Some e) = if ok e then Some e else None

-- a filter: under a name stands what stood there, where it passes
pub entry-filter : (ok : Pair → Bool) (t : Table) → is_rising t ≡ true → (y : Text) →
    entry y (filter ok t) ≡ if_passes ok (entry y t)
entry-filter ok [] r y = refl
entry-filter ok (e ∷ t) r y = go (ok e) refl (entry-filter ok t tail.1 y)
  where
    tail : (is_below e.name t ≡ true) × (is_rising t ≡ true)
    tail = is_rising-parts e t r

    go : (v : Bool) → ok e ≡ v → entry y (filter ok t) ≡ if_passes ok (entry y t) →
        entry y (if v then e ∷ filter ok t else filter ok t)
        ≡ if_passes ok (if e.name == y then Some e else entry y t)
    go true k h = elim (cases_eq e.name y) [
      | inl i ↦ rw (eq-eqb e.name y i) (ap (λ (b : Bool). if b then Some e else None) (sym k))
      | inr ne ↦ rw (ne_eqb e.name y ne) h
    ]
    go false k h = elim (cases_eq e.name y) [
      | inl i ↦ rw (eq-eqb e.name y i) (h
          ∙ ap (if_passes ok) (entry-below y t tail.1 (subst (λ (z : Text). is_below z t ≡ true) i tail.0))
          ∙ ap (λ (b : Bool). if b then Some e else None) (sym k))
      | inr ne ↦ rw (ne_eqb e.name y ne) h
    ]

-- a filter by owners: a name has whom it had, where he passes
pub get-filter : (ok : Process → Bool) (t : Table) → is_rising t ≡ true → (y : Text) →
    get y (filter (λ e. ok e.owner) t) ≡ if_kept ok (get y t)
get-filter ok t r y =
    get-entry y (filter (λ e. ok e.owner) t) ∙ ap owner_in (entry-filter (λ e. ok e.owner) t r y) ∙ go (entry y t)
    ∙ ap (if_kept ok) (sym (get-entry y t))
  where
    go : (o : Option Pair) → owner_in (if_passes (λ e. ok e.owner) o) ≡ if_kept ok (owner_in o)
    go None = refl
    go (Some e) = by (ok e.owner)
      where
        by : (b : Bool) → owner_in (if b then Some e else None) ≡ (if b then Some e.owner else None)
        by true = refl
        by false = refl

-- what is there, or else something else
abbrev pub or_else : {A : Type 0} → Option A → Option A → Option A
or_else None q = q
or_else (Some p) q = Some p

-- the front stands under its own name
pub entry-front : (e : Pair) (t : Table) → entry e.name (e ∷ t) ≡ Some e
entry-front e t = rw (eq-eqb e.name e.name refl)

-- another name than that of the front
pub entry-behind : (e : Pair) (t : Table) (y : Text) → (e.name ≡ y → ⊥) → entry y (e ∷ t) ≡ entry y t
entry-behind e t y ne = rw (ne_eqb e.name y ne)

-- the front has its own name
pub get-front : (e : Pair) (t : Table) → get e.name (e ∷ t) ≡ Some e.owner
get-front e t = rw (eq-eqb e.name e.name refl)

-- another name than that of the front
pub get-behind : (e : Pair) (t : Table) (y : Text) → (e.name ≡ y → ⊥) → get y (e ∷ t) ≡ get y t
get-behind e t y ne = rw (ne_eqb e.name y ne)

-- put_all of rising pairs: they stand under their names, and under each other name what stood there
pub entry-put_all : (pairs t : Table) → is_rising pairs ≡ true → (y : Text) →
    entry y (put_all pairs t) ≡ or_else (entry y pairs) (entry y t)
entry-put_all [] t r y = refl
entry-put_all (e ∷ pairs) t r y = entry-put_all pairs (put e t) tail.1 y ∙ (elim (cases_eq e.name y) [
  | inl i ↦ rw (none i, eq-eqb e.name y i) (entry-put e t y ∙ rw (eq-eqb e.name y i))
  | inr ne ↦ rw (ne_eqb e.name y ne) (ap (or_else (entry y pairs)) (entry-put e t y ∙ rw (ne_eqb e.name y ne)))
])
  where
    tail : (is_below e.name pairs ≡ true) × (is_rising pairs ≡ true)
    tail = is_rising-parts e pairs r

    none : e.name ≡ y → entry y pairs ≡ None
    none i = entry-below y pairs tail.1 (subst (λ (z : Text). is_below z pairs ≡ true) i tail.0)

-- each of their names has whom they give it, and each other name has whom it had
pub get-put_all : (pairs t : Table) → is_rising pairs ≡ true → (y : Text) →
    get y (put_all pairs t) ≡ or_else (get y pairs) (get y t)
get-put_all pairs t r y =
    get-entry y (put_all pairs t) ∙ ap owner_in (entry-put_all pairs t r y) ∙ go (entry y pairs)
    ∙ ap₂ or_else (sym (get-entry y pairs)) (sym (get-entry y t))
  where
    go : (o : Option Pair) → owner_in (or_else o (entry y t)) ≡ or_else (owner_in o) (owner_in (entry y t))
    go None = refl
    go (Some e) = refl

-- after put_all the names still rise
pub is_rising-put_all : (pairs t : Table) → is_rising t ≡ true → is_rising (put_all pairs t) ≡ true
is_rising-put_all [] t r = r
is_rising-put_all (e ∷ pairs) t r = is_rising-put_all pairs (put e t) (is_rising-put e t r)

-- after a removal the names still rise
pub is_rising-remove : (x : Text) (t : Table) → is_rising t ≡ true → is_rising (remove x t) ≡ true
is_rising-remove x t r = is_rising-filter (λ e. not (e.name == x)) t r

-- after many, too
pub is_rising-remove_all : (xs : List Text) (t : Table) → is_rising t ≡ true → is_rising (remove_all xs t) ≡ true
is_rising-remove_all [] t r = r
is_rising-remove_all (x ∷ xs) t r = is_rising-remove_all xs (remove x t) (is_rising-remove x t r)

-- remove_all: nothing stands under these names, and under each other name what stood there
pub entry-remove_all : (xs : List Text) (t : Table) (y : Text) →
    entry y (remove_all xs t) ≡ (if list_any (λ x. x == y) xs then None else entry y t)
entry-remove_all [] t y = refl
entry-remove_all (x ∷ xs) t y =
    entry-remove_all xs (remove x t) y
    ∙ ap (λ (o : Option Pair). if list_any (λ x. x == y) xs then None else o) (entry-remove x t y)
    ∙ go (x == y) (list_any (λ x. x == y) xs)
  where
    go : (b c : Bool) →
        ◌≡◌ {A = Option Pair} (if c then None else (if b then None else entry y t)) (if b || c then None else entry y t)
    go true true = refl
    go true false = refl
    go false true = refl
    go false false = refl

-- after a settlement is written the names still rise
pub is_rising-with_settled : (s : Settled) (t : Table) → is_rising t ≡ true → is_rising (with_settled s t) ≡ true
is_rising-with_settled s t r = is_rising-remove_all s.removes (put_all s.puts t) (is_rising-put_all s.puts t r)

-- rising tables in which the same stands under each name are one
pub same_table : (s t : Table) → is_rising s ≡ true → is_rising t ≡ true → ((y : Text) → entry y s ≡ entry y t) → s ≡ t
same_table [] [] rs rt h = refl
same_table [] (e ∷ t) rs rt h = let k : ◌≡◌ {A = Option Pair} None (Some e) = h e.name ∙ entry-front e t in cc
same_table (d ∷ s) [] rs rt h = let k : ◌≡◌ {A = Option Pair} None (Some d) = sym (h d.name) ∙ entry-front d s in cc
same_table (d ∷ s) (e ∷ t) rs rt h = elim (cases_order d.name e.name) [
  | inl i ↦ ap₂ (λ (f : Pair) (u : Table). f ∷ u) (front i) (same_table s t ds.1 et.1 (behind i))
  | inr (inl l) ↦
      let k : ◌≡◌ {A = Option Pair} (Some d) None =
      sym (entry-front d s) ∙ h d.name ∙ entry-below d.name (e ∷ t) rt (lt-ltb d.name e.name l) in
      cc
  | inr (inr g) ↦
      let k : ◌≡◌ {A = Option Pair} (Some e) None =
      sym (entry-front e t) ∙ sym (h e.name) ∙ entry-below e.name (d ∷ s) rs (lt-ltb e.name d.name g) in
      cc
]
  where
    ds : (is_below d.name s ≡ true) × (is_rising s ≡ true)
    ds = is_rising-parts d s rs

    et : (is_below e.name t ≡ true) × (is_rising t ≡ true)
    et = is_rising-parts e t rt

    front : d.name ≡ e.name → d ≡ e
    front i =
        let k : ◌≡◌ {A = Option Pair} (Some d) (Some e) =
        sym (entry-front d s) ∙ h d.name ∙ ap (λ (x : Text). entry x (e ∷ t)) i ∙ entry-front e t in
        cc

    behind : d.name ≡ e.name → (y : Text) → entry y s ≡ entry y t
    behind i y = elim (cases_eq d.name y) [
      | inl j ↦
          entry-below y s ds.1 (subst (λ (z : Text). is_below z s ≡ true) j ds.0)
          ∙ sym (entry-below y t et.1 (subst (λ (z : Text). is_below z t ≡ true) (sym i ∙ j) et.0))
      | inr ne ↦ sym (entry-behind d s y ne) ∙ h y ∙ entry-behind e t y (λ j. ne (i ∙ j))
    ]

-- a filter after a filter
pub filter-filter : {A : Type 0} (f g : A → Bool) (t : List A) → filter f (filter g t) ≡ filter (λ e. g e && f e) t
filter-filter f g [] = refl
filter-filter {A} f g (e ∷ t) = go (g e) (filter-filter f g t)
  where
    go : (b : Bool) → filter f (filter g t) ≡ filter (λ e. g e && f e) t →
        filter f (if b then e ∷ filter g t else filter g t)
        ≡ (if b && f e then e ∷ filter (λ e. g e && f e) t else filter (λ e. g e && f e) t)
    go true h = ap (λ (u : List A). if f e then e ∷ u else u) h
    go false h = h

-- filters may change places
pub filters_swapped : {A : Type 0} (f g : A → Bool) (t : List A) → filter f (filter g t) ≡ filter g (filter f t)
filters_swapped f g t =
    filter-filter f g t ∙ filter_agree (λ e. g e && f e) (λ e. f e && g e) (λ e. and_comm (g e) (f e)) t
    ∙ sym (filter-filter g f t)
  where
    and_comm : (b c : Bool) → (b && c) ≡ (c && b)
    and_comm true true = refl
    and_comm true false = refl
    and_comm false true = refl
    and_comm false false = refl

-- the pairs whose owners pass
abbrev pub by_owner : (Process → Bool) → Table → Table
by_owner ok t = filter (λ e. ok e.owner) t

-- a filter by owners after a put
pub by_owner-put : (ok : Process → Bool) (new : Pair) (t : Table) → is_rising t ≡ true →
    by_owner ok (put new t) ≡ (if ok new.owner then put new (by_owner ok t) else remove new.name (by_owner ok t))
by_owner-put ok new t r = go (ok new.owner) refl
  where
    passes : Pair → Bool
    passes e = ok e.owner

    risen : is_rising (by_owner ok t) ≡ true
    risen = is_rising-filter passes t r

    risen_put : is_rising (by_owner ok (put new t)) ≡ true
    risen_put = is_rising-filter passes (put new t) (is_rising-put new t r)

    left : (y : Text) → entry y (by_owner ok (put new t)) ≡ if_passes passes (if new.name == y then Some new else entry y t)
    left y = entry-filter passes (put new t) (is_rising-put new t r) y ∙ ap (if_passes passes) (entry-put new t y)

    go : (b : Bool) → ok new.owner ≡ b →
        by_owner ok (put new t) ≡ (if b then put new (by_owner ok t) else remove new.name (by_owner ok t))
    go true k = same_table (by_owner ok (put new t)) (put new (by_owner ok t)) risen_put
        (is_rising-put new (by_owner ok t) risen)
        (λ y. left y ∙ each y (new.name == y)
        ∙ sym (entry-put new (by_owner ok t) y
        ∙ ap (λ (o : Option Pair). if new.name == y then Some new else o) (entry-filter passes t r y)))
      where
        each : (y : Text) (b : Bool) →
            if_passes passes (if b then Some new else entry y t) ≡ (if b then Some new else if_passes passes (entry y t))
        each y true = rw k refl
        each y false = refl
    go false k = same_table (by_owner ok (put new t)) (remove new.name (by_owner ok t)) risen_put
        (is_rising-filter (λ e. not (e.name == new.name)) (by_owner ok t) risen)
        (λ y. left y ∙ each y (new.name == y)
        ∙ sym (entry-remove new.name (by_owner ok t) y
        ∙ ap (λ (o : Option Pair). if new.name == y then None else o) (entry-filter passes t r y)))
      where
        each : (y : Text) (b : Bool) →
            if_passes passes (if b then Some new else entry y t) ≡ (if b then None else if_passes passes (entry y t))
        each y true = rw k refl
        each y false = refl

-- what stands under a name, less those on some nodes
pub entry-without : (gone : Nodes) (t : Table) → is_rising t ≡ true → (y : Text) →
    entry y (without gone t) ≡ if_passes (λ e. not (gone e.owner.node)) (entry y t)
entry-without gone t r y = entry-filter (λ e. not (gone e.owner.node)) t r y

-- what stands under a name after a strike
pub entry-strike : (p : Process) (t : Table) → is_rising t ≡ true → (y : Text) →
    entry y (strike p t) ≡ if_passes (λ e. not (is_process e.owner p)) (entry y t)
entry-strike p t r y = entry-filter (λ e. not (is_process e.owner p)) t r y

-- who has a name, less those on some nodes
pub get-without : (gone : Nodes) (t : Table) → is_rising t ≡ true → (y : Text) →
    get y (without gone t) ≡ if_kept (λ q. not (gone q.node)) (get y t)
get-without gone t r y = get-filter (λ q. not (gone q.node)) t r y

-- who has a name after a strike
pub get-strike : (p : Process) (t : Table) → is_rising t ≡ true → (y : Text) →
    get y (strike p t) ≡ if_kept (λ q. not (is_process q p)) (get y t)
get-strike p t r y = get-filter (λ q. not (is_process q p)) t r y

-- after a strike the names still rise
pub is_rising-strike : (p : Process) (t : Table) → is_rising t ≡ true → is_rising (strike p t) ≡ true
is_rising-strike p t r = is_rising-filter (λ e. not (is_process e.owner p)) t r

-- without the names on some nodes the others still rise
pub is_rising-without : (gone : Nodes) (t : Table) → is_rising t ≡ true → is_rising (without gone t) ≡ true
is_rising-without gone t r = is_rising-filter (λ e. not (gone e.owner.node)) t r

-- after each change the names still rise
pub is_rising-changed : (c : Change) (t : Table) → is_rising t ≡ true → is_rising (changed c t) ≡ true
is_rising-changed (Put new) t r = is_rising-put new t r
is_rising-changed (Remove x) t r = is_rising-remove x t r
is_rising-changed (StrikeOwner p) t r = is_rising-strike p t r

-- a put is seen as one where its owner's node is, and as a removal else
pub without-put : (gone : Nodes) (new : Pair) (t : Table) → is_rising t ≡ true →
    without gone (put new t) ≡ (if gone new.owner.node then remove new.name (without gone t) else put new (without gone t))
without-put gone new t r = by_owner-put (λ q. not (gone q.node)) new t r ∙ turned (gone new.owner.node)
  where
    turned : (b : Bool) →
        (if not b then put new (without gone t) else remove new.name (without gone t))
        ≡ (if b then remove new.name (without gone t) else put new (without gone t))
    turned true = refl
    turned false = refl

-- a removal is seen as one
pub without-remove : (gone : Nodes) (x : Text) (t : Table) → without gone (remove x t) ≡ remove x (without gone t)
without-remove gone x t = filters_swapped (λ e. not (gone e.owner.node)) (λ e. not (e.name == x)) t

-- a strike is seen as one
pub without-strike : (gone : Nodes) (p : Process) (t : Table) → without gone (strike p t) ≡ strike p (without gone t)
without-strike gone p t = filters_swapped (λ e. not (gone e.owner.node)) (λ e. not (is_process e.owner p)) t

-- without some nodes and then without others
pub without-without : (g f : Nodes) (t : Table) → without g (without f t) ≡ without (λ d. f d || g d) t
without-without g f t =
    filter-filter (λ e. not (g e.owner.node)) (λ e. not (f e.owner.node)) t
    ∙ filter_agree (λ e. not (f e.owner.node) && not (g e.owner.node)) (λ e. not (f e.owner.node || g e.owner.node))
    (λ e. both (f e.owner.node) (g e.owner.node)) t
  where
    both : (b c : Bool) → (not b && not c) ≡ not (b || c)
    both true c = refl
    both false c = refl

-- without the same nodes
pub without_agree : (g f : Nodes) → ((c : ℕ) → g c ≡ f c) → (t : Table) → without g t ≡ without f t
without_agree g f h t =
    filter_agree (λ e. not (g e.owner.node)) (λ e. not (f e.owner.node)) (λ e. ap not (h e.owner.node)) t

-- without no node
pub without-nobody : (t : Table) → without nobody t ≡ t
without-nobody [] = refl
without-nobody (e ∷ t) = ap (λ (u : Table). e ∷ u) (without-nobody t)

-- without some nodes, twice
pub without_twice : (gone : Nodes) (t : Table) → without gone (without gone t) ≡ without gone t
without_twice gone t = without-without gone gone t ∙ without_agree (λ d. gone d || gone d) gone (λ c. same (gone c)) t
  where
    same : (b : Bool) → (b || b) ≡ b
    same true = refl
    same false = refl

-- without one node more
pub without-at : (gone : Nodes) (d : ℕ) (t : Table) →
    without (at gone d true) t ≡ without (λ c. c == d) (without gone t)
without-at gone d t =
    without_agree (at gone d true) (λ c. gone c || (c == d)) (λ c. either (c == d) (gone c)) t
    ∙ sym (without-without (λ c. c == d) gone t)
  where
    either : (b g : Bool) → (if b then true else g) ≡ (g || b)
    either true true = refl
    either true false = refl
    either false true = refl
    either false false = refl

-- a put of what is seen is seen as one of all
pub without-put_without : (gone : Nodes) (new : Pair) (t : Table) → is_rising t ≡ true →
    without gone (put new (without gone t)) ≡ without gone (put new t)
without-put_without gone new t r =
    without-put gone new (without gone t) (is_rising-without gone t r)
    ∙ ap (λ (u : Table). if gone new.owner.node then remove new.name u else put new u) (without_twice gone t)
    ∙ sym (without-put gone new t r)

-- and so are many puts
pub without-put_all_without : (gone : Nodes) (pairs t : Table) → is_rising t ≡ true →
    without gone (put_all pairs (without gone t)) ≡ without gone (put_all pairs t)
without-put_all_without gone [] t r = without_twice gone t
without-put_all_without gone (e ∷ pairs) t r =
    sym (without-put_all_without gone pairs (put e (without gone t))
    (is_rising-put e (without gone t) (is_rising-without gone t r)))
    ∙ ap (λ (u : Table). without gone (put_all pairs u)) (without-put_without gone e t r)
    ∙ without-put_all_without gone pairs (put e t) (is_rising-put e t r)

-- a strike of what is seen is seen as one of all
pub without-strike_without : (gone : Nodes) (p : Process) (t : Table) →
    without gone (strike p (without gone t)) ≡ without gone (strike p t)
without-strike_without gone p t =
    without-strike gone p (without gone t) ∙ ap (strike p) (without_twice gone t) ∙ sym (without-strike gone p t)
