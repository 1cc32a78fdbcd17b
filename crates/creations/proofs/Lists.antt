-- Lists of nodes: what filters and maps of them have, and lists that rise.
use mathlib.Core.Logic.{inl, inr}
use Rattle.std.proofs.Common.{ℕ, zero, suc, Bool, true, false, ◌≡◌, ◌<◌, List, [], ◌∷◌, ◌++◌, get_or, length, map, refl, sym, ap, subst, ◌∙◌, arith}
use Rattle.std.specs.Prelude.{Contains, Some, None, find, filter, if◌then◌else◌}
use Rattle.std.proofs.lemmas.List.Elements.{Contains-append_cases, Contains-get_or}
use Rattle.registry_model.specs.Process.{Nodes, nodes_of}
use Rattle.registry_model.proofs.Lists.{Contains-cases, Contains-front, Contains-behind, Contains-nil}
use Rattle.registry_model.proofs.NodeLists.{are_nodes_below}
use Rattle.creations.proofs.Telling.{AreDistinct}

-- what a filter keeps
pub Contains-filter : (p : ℕ → Bool) (xs : List ℕ) (c : ℕ) → Contains (filter p xs) c → Contains xs c × (p c ≡ true)
Contains-filter p [] c i = absurd (Contains-nil c i)
Contains-filter p (x ∷ xs) c i = go (p x) refl i (Contains-filter p xs c)
  where
    go : (b : Bool) → p x ≡ b → Contains (if b then x ∷ filter p xs else filter p xs) c
        → (Contains (filter p xs) c → Contains xs c × (p c ≡ true)) → Contains (x ∷ xs) c × (p c ≡ true)
    go true e j more = elim (Contains-cases x (filter p xs) c j) [
      | inl same ↦ (subst (λ (y : ℕ). Contains (x ∷ xs) y) same (Contains-front x xs), ap p (sym same) ∙ e)
      | inr k ↦ let m : Contains xs c × (p c ≡ true) = more k in (Contains-behind x xs c m.0, m.1)
    ]
    go false e j more = let m : Contains xs c × (p c ≡ true) = more j in (Contains-behind x xs c m.0, m.1)

pub filter-Contains : (p : ℕ → Bool) (xs : List ℕ) (c : ℕ) → Contains xs c → p c ≡ true → Contains (filter p xs) c
filter-Contains p [] c i e = absurd (Contains-nil c i)
filter-Contains p (x ∷ xs) c i e = go (p x) refl (filter-Contains p xs c)
  where
    go : (b : Bool) → p x ≡ b → (Contains xs c → p c ≡ true → Contains (filter p xs) c)
        → Contains (if b then x ∷ filter p xs else filter p xs) c
    go true q more = elim (Contains-cases x xs c i) [
      | inl same ↦ subst (λ (y : ℕ). Contains (x ∷ filter p xs) y) same (Contains-front x (filter p xs))
      | inr k ↦ Contains-behind x (filter p xs) c (more k e)
    ]
    go false q more = elim (Contains-cases x xs c i) [
      | inl same ↦ cc (q, e, ap p same)
      | inr k ↦ more k e
    ]

-- a map of a list
pub map-Contains : {Y : Type 0} (f : ℕ → Y) (xs : List ℕ) (c : ℕ) → Contains xs c → Contains (map f xs) (f c)
map-Contains f [] c i = absurd (Contains-nil c i)
map-Contains f (x ∷ xs) c i = elim (Contains-cases x xs c i) [
  | inl same ↦ subst (λ (y : ℕ). Contains (f x ∷ map f xs) (f y)) same (Contains-front (f x) (map f xs))
  | inr k ↦ Contains-behind (f x) (map f xs) (f c) (map-Contains f xs c k)
]

-- where nothing is found nothing passes
pub find_none : (p : ℕ → Bool) (xs : List ℕ) → find p xs ≡ None → (c : ℕ) → Contains xs c → p c ≡ false
find_none p [] e c i = absurd (Contains-nil c i)
find_none p (x ∷ xs) e c i = go (p x) refl e (find_none p xs)
  where
    go : (b : Bool) → p x ≡ b → (if b then Some x else find p xs) ≡ None
        → (find p xs ≡ None → (d : ℕ) → Contains xs d → p d ≡ false) → p c ≡ false
    go true q f more = absurd (cc f)
    go false q f more = elim (Contains-cases x xs c i) [
      | inl same ↦ ap p (sym same) ∙ q
      | inr k ↦ more f c k
    ]

-- each is less than those behind it
abbrev pub Rise : List ℕ → Type 0
Rise [] = Unit {0}
Rise (x ∷ xs) = ((c : ℕ) → Contains xs c → x < c) × Rise xs

pub rise-append : (xs ys : List ℕ) → Rise xs → Rise ys → ((c d : ℕ) → Contains xs c → Contains ys d → c < d) → Rise (xs ++ ys)
rise-append [] ys R T less = T
rise-append (x ∷ xs) ys R T less = (
  λ c i. elim (Contains-append_cases xs ys c i) [
    | inl j ↦ R.0 c j
    | inr j ↦ less x c (Contains-front x xs) j
  ],
  rise-append xs ys R.1 T (λ c d i j. less c d (Contains-behind x xs c i) j),
)

pub rise-filter : (p : ℕ → Bool) (xs : List ℕ) → Rise xs → Rise (filter p xs)
rise-filter p [] R = tt
rise-filter p (x ∷ xs) R = go (p x) (rise-filter p xs R.1)
  where
    go : (b : Bool) → Rise (filter p xs) → Rise (if b then x ∷ filter p xs else filter p xs)
    go true T = (λ c i. R.0 c (Contains-filter p xs c i).0, T)
    go false T = T

-- what a map has comes from what it is made of
pub from_map : {Y : Type 0} (f : ℕ → Y) (xs : List ℕ) (c : Y) → Contains (map f xs) c → (y : ℕ) × Contains xs y × (f y ≡ c)
from_map f [] c i = absurd (Contains-nil c i)
from_map f (x ∷ xs) c i = elim (Contains-cases (f x) (map f xs) c i) [
  | inl same ↦ (x, Contains-front x xs, same)
  | inr more ↦
      let y : (y : ℕ) × Contains xs y × (f y ≡ c) = from_map f xs c more in
      (y.0, Contains-behind x xs y.0 y.1, y.2)
]

pub rise-map : (f : ℕ → ℕ) (xs : List ℕ) → ((a b : ℕ) → a < b → f a < f b) → Rise xs → Rise (map f xs)
rise-map f [] less R = tt
rise-map f (x ∷ xs) less R = (
  λ c i.
      let y : (y : ℕ) × Contains xs y × (f y ≡ c) = from_map f xs c i in
      subst (λ (z : ℕ). f x < z) y.2 (less x y.0 (R.0 y.0 y.1)),
  rise-map f xs less R.1,
)

pub nodes_rise : (n : ℕ) (s : Nodes) → Rise (nodes_of n s)
nodes_rise zero s = tt
nodes_rise (suc n) s = rise-append (nodes_of n s) (if s n then n ∷ [] else []) (nodes_rise n s) (one (s n)) (less (s n))
  where
    one : (b : Bool) → Rise (if b then n ∷ [] else [])
    one true = (λ c i. absurd (Contains-nil c i), tt)
    one false = tt

    less : (b : Bool) (c d : ℕ) → Contains (nodes_of n s) c → Contains (if b then n ∷ [] else []) d → c < d
    less true c d i j = elim (Contains-cases n [] d j) [
      | inl same ↦ subst (λ (y : ℕ). c < y) same (((are_nodes_below n s).below c).0 i).0
      | inr none ↦ absurd (Contains-nil d none)
    ]
    less false c d i j = absurd (Contains-nil d j)

-- what is found first in a rising list is the least that passes
pub find_least : (p : ℕ → Bool) (xs : List ℕ) (n : ℕ) → Rise xs → find p xs ≡ Some n
    → Contains xs n × (p n ≡ true) × ((c : ℕ) → Contains xs c → c < n → p c ≡ false)
find_least p [] n R e = absurd (cc e)
find_least p (x ∷ xs) n R e = go (p x) refl e (find_least p xs n R.1)
  where
    same : Some x ≡ Some n → x ≡ n
    same f = cc

    go : (b : Bool) → p x ≡ b → (if b then Some x else find p xs) ≡ Some n
        → (find p xs ≡ Some n → Contains xs n × (p n ≡ true) × ((c : ℕ) → Contains xs c → c < n → p c ≡ false))
        → Contains (x ∷ xs) n × (p n ≡ true) × ((c : ℕ) → Contains (x ∷ xs) c → c < n → p c ≡ false)
    go true q f more =
        let here : x ≡ n = same f in (
          subst (λ (y : ℕ). Contains (x ∷ xs) y) here (Contains-front x xs),
          ap p (sym here) ∙ q,
          λ c i l. elim (Contains-cases x xs c i) [
            | inl k ↦ absurd (omega (arith, k, here, l))
            | inr j ↦ let m : x < c = R.0 c j in absurd (omega (arith, m, here, l))
          ],
        )
    go false q f more =
        let r : Contains xs n × (p n ≡ true) × ((c : ℕ) → Contains xs c → c < n → p c ≡ false) = more f in (
          Contains-behind x xs n r.0,
          r.1,
          λ c i l. elim (Contains-cases x xs c i) [
            | inl k ↦ ap p (sym k) ∙ q
            | inr j ↦ r.2 c j l
          ],
        )

-- so none stands twice
pub distinct_of : (xs : List ℕ) → Rise xs → AreDistinct xs
distinct_of [] R = tt
distinct_of (x ∷ xs) R = ((λ i. let l : x < x = R.0 x i in absurd (omega arith)), distinct_of xs R.1)

-- and each pair rises
pub pairs_rise : (xs : List ℕ) → Rise xs → (i j d : ℕ) → i < j → j < length xs → get_or xs i d < get_or xs j d
pairs_rise [] R i j d l inside = absurd (omega (arith, inside))
pairs_rise (x ∷ xs) R i zero d l inside = absurd (omega arith)
pairs_rise (x ∷ xs) R zero (suc j) d l inside = R.0 (get_or xs j d) (Contains-get_or xs j d (omega arith))
pairs_rise (x ∷ xs) R (suc i) (suc j) d l inside = pairs_rise xs R.1 i j d (omega arith) (omega arith)
