-- The replies to look-ups, in words.
use Rattle.std.proofs.Common.{ℕ, suc, true, ◌≡◌, ◌<◌, Option, Some, None, List, [], ◌∷◌, get_or, refl, sym, subst, ap, ◌∙◌, inl, inr, arith}
use Rattle.std.specs.Prelude.{◌↔◌, ◌⊎◌, Contains, AllPairs}
use Rattle.std.proofs.Math.Path.{ap₂}
use Rattle.std.proofs.lemmas.Bool.{cases_eq, ltb-true}
use Rattle.std.proofs.lemmas.List.Kept.{AllPairs-cons}
use Rattle.std.proofs.lemmas.List.Elements.{Contains-get_or}
use Rattle.registry_model.specs.Process.{Text, Process}
use Rattle.registry_model.specs.Table.{Table, is_below, is_rising, get, names}
use Rattle.registry_model.specs.Call.{Look, Whereis, RegisteredNames, NoticesOf, Reply, Names, pid_or_undefined, seen_in}
use Rattle.registry_model.specs.Registry.{Replica}
use Rattle.registry_model.specs.SharedLaws.{AreNames, IsSeenIn}
use Rattle.registry_model.specs.SharedLaws.IsSeenIn.{OwnerOf, NoOwnerOf, AllNames, SentTo}
use Rattle.registry_model.proofs.Lists.{Contains-cases, Contains-front, Contains-behind, Contains-nil}
use Rattle.registry_model.proofs.Tables.{is_rising-parts, is_below-less, get-front, get-behind}

-- a name that is listed has an owner
pub owner-names : (t : Table) (x : Text) → Contains (names t) x → (p : Process) × (get x t ≡ Some p)
owner-names [] x c = absurd (Contains-nil x c)
owner-names (e ∷ t) x c = go (cases_eq e.name x) (Contains-cases e.name (names t) x c) (owner-names t x)
  where
    Owned : Table → Type 0
    Owned u = (p : Process) × (get x u ≡ Some p)

    go : (e.name ≡ x) ⊎ (e.name ≡ x → ⊥) → (e.name ≡ x) ⊎ Contains (names t) x → (Contains (names t) x → Owned t) →
        Owned (e ∷ t)
    go (inl i) d h = (e.owner, ap (λ (y : Text). get y (e ∷ t)) (sym i) ∙ get-front e t)
    go (inr ne) (inl i) h = absurd (ne i)
    go (inr ne) (inr d) h = let (p, k) : Owned t = h d in (p, get-behind e t x ne ∙ k)

-- a name that has an owner is listed
pub names-owner : (t : Table) (x : Text) (p : Process) → get x t ≡ Some p → Contains (names t) x
names-owner [] x p h = absurd cc
names-owner (e ∷ t) x p h = go (cases_eq e.name x) (names-owner t x p)
  where
    go : (e.name ≡ x) ⊎ (e.name ≡ x → ⊥) → (get x t ≡ Some p → Contains (names t) x) → Contains (names (e ∷ t)) x
    go (inl i) k = subst (λ (y : Text). Contains (names (e ∷ t)) y) i (Contains-front e.name (names t))
    go (inr ne) k = Contains-behind e.name (names t) x (k (sym (get-behind e t x ne) ∙ h))

-- what stands below a table stands below its names
pub below-names : (t : Table) (x y : Text) → is_rising t ≡ true → is_below x t ≡ true → Contains (names t) y → x < y
below-names [] x y r b c = absurd (Contains-nil y c)
below-names (e ∷ t) x y r b c =
    go (Contains-cases e.name (names t) y c) (below-names t x y tail.1 (is_below-less e.name x t l tail.0))
  where
    tail : (is_below e.name t ≡ true) × (is_rising t ≡ true)
    tail = is_rising-parts e t r

    l : x < e.name
    l = ltb-true x e.name b

    go : (e.name ≡ y) ⊎ Contains (names t) y → (Contains (names t) y → x < y) → x < y
    go (inl i) h = subst (λ (z : Text). x < z) i l
    go (inr d) h = h d

-- the names of a rising table rise
pub rising-names : (t : Table) → is_rising t ≡ true → AllPairs (λ x y. x < y) (names t)
rising-names [] r = λ i j d l b. absurd (omega arith)
rising-names (e ∷ t) r = AllPairs-cons (λ x y. x < y) e.name (names t)
    (λ k d l. below-names t e.name (get_or (names t) k d) tail.1 tail.0 (Contains-get_or (names t) k d l))
    (rising-names t tail.1)
  where
    tail : (is_below e.name t ≡ true) × (is_rising t ≡ true)
    tail = is_rising-parts e t r

-- the front of a rising list is below what stands behind it
pub rising-front : (x : ℕ) (xs : List ℕ) → AllPairs (λ x y. x < y) (x ∷ xs) → (y : ℕ) → Contains xs y → x < y
rising-front x xs r y (k, l, e) = subst (λ (z : ℕ). x < z) e (r 0 (suc k) y (omega arith) (omega arith))

-- what stands behind the front rises
pub rising-tail : (x : ℕ) (xs : List ℕ) → AllPairs (λ x y. x < y) (x ∷ xs) → AllPairs (λ x y. x < y) xs
rising-tail x xs r = λ i j d l b. r (suc i) (suc j) d (omega arith) (omega arith)

-- rising lists that contain the same numbers are one
pub same_rising : (xs ys : List ℕ) → AllPairs (λ x y. x < y) xs → AllPairs (λ x y. x < y) ys →
    ((z : ℕ) → Contains xs z ↔ Contains ys z) → xs ≡ ys
same_rising [] [] rx ry h = refl
same_rising [] (y ∷ ys) rx ry h = absurd (Contains-nil y ((h y).1 (Contains-front y ys)))
same_rising (x ∷ xs) [] rx ry h = absurd (Contains-nil x ((h x).0 (Contains-front x xs)))
same_rising (x ∷ xs) (y ∷ ys) rx ry h =
    ap₂ (λ (z : ℕ) (zs : List ℕ). z ∷ zs) front
    (same_rising xs ys (rising-tail x xs rx) (rising-tail y ys ry) (λ z. (to z, from z)))
  where
    front : x ≡ y
    front = elim (Contains-cases y ys x ((h x).0 (Contains-front x xs))) [
      | inl i ↦ sym i
      | inr c ↦ elim (Contains-cases x xs y ((h y).1 (Contains-front y ys))) [
        | inl i ↦ i
        | inr d ↦
            let a : y < x = rising-front y ys ry x c in
            let b : x < y = rising-front x xs rx y d in
            absurd (omega arith)
      ]
    ]

    to : (z : ℕ) → Contains xs z → Contains ys z
    to z c = elim (Contains-cases y ys z ((h z).0 (Contains-behind x xs z c))) [
      | inl i ↦ let a : x < z = rising-front x xs rx z c in absurd (omega (arith, front))
      | inr d ↦ d
    ]

    from : (z : ℕ) → Contains ys z → Contains xs z
    from z c = elim (Contains-cases x xs z ((h z).1 (Contains-behind y ys z c))) [
      | inl i ↦ let a : y < z = rising-front y ys ry z c in absurd (omega (arith, front))
      | inr d ↦ d
    ]

-- a table's names in words
pub AreNames-names : (t : Table) → is_rising t ≡ true → AreNames t (names t)
AreNames-names t r = record {
  owned = λ x. (owner-names t x, λ (p, h). names-owner t x p h);
  rising = rising-names t r;
}

-- and nothing else is so
pub names-AreNames : (t : Table) (xs : List Text) → is_rising t ≡ true → AreNames t xs → xs ≡ names t
names-AreNames t xs r a = same_rising xs (names t) a.rising (rising-names t r)
    (λ x. (
      λ c. let (p, h) : (p : Process) × (get x t ≡ Some p) = (a.owned x).0 c in
          names-owner t x p h,
      λ c. (a.owned x).1 (owner-names t x c),
    ))

-- the reply in words is the function's
pub seen_in-from_words : (v : Replica) (look : Look) (r : Reply) → is_rising v.table ≡ true → IsSeenIn v look r →
    r ≡ seen_in v look
seen_in-from_words v look r rises (OwnerOf x p h) = rw h refl
seen_in-from_words v look r rises (NoOwnerOf x h) = rw h refl
seen_in-from_words v look r rises (AllNames xs a) = ap (λ (ys : List Text). Names ys) (names-AreNames v.table xs rises a)
seen_in-from_words v look r rises (SentTo p) = refl

-- the function's reply in words
pub seen_in_words : (v : Replica) (look : Look) → is_rising v.table ≡ true → IsSeenIn v look (seen_in v look)
seen_in_words v (Whereis x) rises = go (get x v.table) refl
  where
    go : (o : Option Process) → get x v.table ≡ o → IsSeenIn v (Whereis x) (pid_or_undefined o)
    go None h = NoOwnerOf x h
    go (Some p) h = OwnerOf x p h
seen_in_words v RegisteredNames rises = AllNames (names v.table) (AreNames-names v.table rises)
seen_in_words v (NoticesOf p) rises = SentTo p

-- each look-up has one reply
pub look_law : (v : Replica) (look : Look) (r : Reply) → is_rising v.table ≡ true → IsSeenIn v look r ↔ (r ≡ seen_in v look)
look_law v look r rises = (
  seen_in-from_words v look r rises,
  λ e. subst (λ (s : Reply). IsSeenIn v look s) (sym e) (seen_in_words v look rises),
)
