-- Lists of which one element after another is replaced or taken out.
use Rattle.std.proofs.Common.{ℕ, Bool, true, false, suc, ◌==◌, ◌≡◌, ◌<◌, ◌≤◌, ◌+◌, List, [], ◌∷◌, ◌++◌, length, get_or, set, map, take, drop, refl, sym, ap, ◌∙◌, arith, add-one, length-drop, inl, inr}
use Rattle.std.specs.Prelude.{not, ◌&&◌, ◌||◌, if◌then◌else◌}
use Rattle.std.specs.List.{filter, All}
use Rattle.std.specs.List.Sorted.{IsStrictlyIncreasing}
use Rattle.std.proofs.Math.Seq.{take-suc, take-suc-set, drop-cons}
use Rattle.std.proofs.lemmas.Bool.{cases_eq, eq-eqb, ne_eqb}
use Rattle.std.proofs.lemmas.Grind.{common_steps}
use Rattle.std.proofs.lemmas.List.{map-append, drop-set-lt, get_or-drop, get_or_default}
use Rattle.std.proofs.lemmas.List.Elements.{filter_agree}
use Rattle.std.proofs.lemmas.List.Folds.{list_any_at, list_any_none}
use Rattle.std.proofs.lemmas.List.Kept.{AllPairs-from_increasing}
use Rattle.std.proofs.Math.Bool.{and-false, and-true, or-false, or-true}
use Rattle.registry_model.proofs.Updates.{by_test}
use Rattle.term.specs.NodeSets.{set_of, without_node}

-- lists that are one from a place on have one element there, and are one behind it
one_behind : {X : Type 0} (xs ys : List X) (i : ℕ) (d : X) → i < length xs → length xs ≡ length ys
    → drop i xs ≡ drop i ys
    → (get_or xs i d ≡ get_or ys i d) × (drop (suc i) xs ≡ drop (suc i) ys)
one_behind {X} xs ys i d inside long e = (cc same, cc same)
  where
    same : get_or xs i d ∷ drop (suc i) xs ≡ get_or ys i d ∷ drop (suc i) ys
    same = sym (drop-cons xs i d inside) ∙ e ∙ drop-cons ys i d (omega (arith, long))

-- one element more is replaced
pub replaced_more : {X Y : Type 0} (f g : X → Y) (xs ys : List X) (i : ℕ) (d x : X) → i < length xs
    → length xs ≡ length ys
    → map g (take i xs) ≡ map f (take i ys) → drop i xs ≡ drop i ys → g x ≡ f (get_or xs i d)
    → (map g (take (i + 1) (set xs i x)) ≡ map f (take (i + 1) ys)) × (drop (i + 1) (set xs i x) ≡ drop (i + 1) ys)
replaced_more {X} {Y} f g xs ys i d x inside long front back is = rw add-one (fronts, backs)
  where
    behind : (get_or xs i d ≡ get_or ys i d) × (drop (suc i) xs ≡ drop (suc i) ys)
    behind = one_behind xs ys i d inside long back

    fronts : map g (take (suc i) (set xs i x)) ≡ map f (take (suc i) ys)
    fronts = ap (map g) (take-suc-set xs i x inside) ∙ map-append g (take i xs) (x ∷ [])
        ∙ ap (λ (us : List Y). us ++ g x ∷ []) front
        ∙ ap (λ (y : Y). map f (take i ys) ++ y ∷ []) (is ∙ ap f behind.0)
        ∙ sym (map-append f (take i ys) (get_or ys i d ∷ []))
        ∙ ap (map f) (sym (take-suc ys i d (omega (arith, long))))

    backs : drop (suc i) (set xs i x) ≡ drop (suc i) ys
    backs = drop-set-lt (suc i) xs i x (omega arith) ∙ behind.1

-- what passes both tests
pub filter-filter : (p q : ℕ → Bool) (xs : List ℕ) → filter q (filter p xs) ≡ filter (λ c. p c && q c) xs
filter-filter p q [] = refl
filter-filter p q (x ∷ xs) = go (p x) (filter-filter p q xs)
  where
    go : (b : Bool) → filter q (filter p xs) ≡ filter (λ c. p c && q c) xs
        → filter q (if b then x ∷ filter p xs else filter p xs)
        ≡ (if b && q x then x ∷ filter (λ c. p c && q c) xs else filter (λ c. p c && q c) xs)
    go true e = ap (λ (us : List ℕ). if q x then x ∷ us else us) e
    go false e = e

-- those that pass a test, and all from a place on
abbrev pub passing_or_from : (ℕ → Bool) → ℕ → List ℕ → List ℕ
passing_or_from p i xs = filter (λ c. p c || set_of (drop i xs) c) xs

-- a number of a rising list doesn't stand again behind its place
not_behind : (xs : List ℕ) (i : ℕ) → IsStrictlyIncreasing xs → i < length xs
    → set_of (drop (suc i) xs) (get_or xs i 0) ≡ false
not_behind xs i rising inside = list_any_none (λ m. m == get_or xs i 0) (drop (suc i) xs) (λ k d l.
    rw (get_or-drop (suc i) xs k d) (ne_eqb (get_or xs (suc i + k) d) (get_or xs i 0) (λ e.
    omega (
      arith,
      e,
      get_or_default xs i d 0 inside,
      AllPairs-from_increasing xs rising i (suc i + k) d (omega arith) (omega (arith, l, length-drop (suc i) xs)),
    ))))

-- a list of which each element passes
all_pass : (p : ℕ → Bool) (xs : List ℕ) → All (λ x. p x ≡ true) xs → filter p xs ≡ xs
all_pass p [] a = refl
all_pass p (x ∷ xs) a =
    rw (a 0 0 (omega arith)) (ap (λ (ys : List ℕ). x ∷ ys) (all_pass p xs (λ k d l. a (suc k) d (omega arith))))

-- at first, all
pub passing_or_from-zero : (p : ℕ → Bool) (xs : List ℕ) → xs ≡ passing_or_from p 0 xs
passing_or_from-zero p xs = sym (all_pass (λ c. p c || set_of xs c) xs (λ k d l.
    ap (λ (b : Bool). p (get_or xs k d) || b) (list_any_at (λ m. m == get_or xs k d) xs k d l (eq-eqb _ _ refl))
    ∙ or-true (p (get_or xs k d))))

-- at last, those that pass
pub passing_or_from-all : (p : ℕ → Bool) (i : ℕ) (xs : List ℕ) → length xs ≤ i → passing_or_from p i xs ≡ filter p xs
passing_or_from-all p i xs past = filter_agree (λ c. p c || set_of (drop i xs) c) p
    (λ c. ap (λ (ys : List ℕ). p c || set_of ys c) (drop_all i xs past) ∙ or-false (p c)) xs
  where
    drop_all : (i : ℕ) (ys : List ℕ) → length ys ≤ i → drop i ys ≡ []
    drop_all i ys l = grind (arith, common_steps)

-- what stands from a place on
from_place : (i x : ℕ) (xs : List ℕ) → i < length xs → get_or xs i 0 ≡ x → drop i xs ≡ x ∷ drop (suc i) xs
from_place i x xs inside is = drop-cons xs i 0 inside ∙ ap (λ (y : ℕ). y ∷ drop (suc i) xs) is

-- one that passes stays
pub passing_or_from-kept : (p : ℕ → Bool) (i x : ℕ) (xs : List ℕ) → i < length xs → get_or xs i 0 ≡ x → p x ≡ true
    → passing_or_from p i xs ≡ passing_or_from p (i + 1) xs
passing_or_from-kept p i x xs inside is passes = rw add-one
    (filter_agree (λ c. p c || set_of (drop i xs) c) (λ c. p c || set_of (drop (suc i) xs) c)
    (λ c. ap (λ (ys : List ℕ). p c || set_of ys c) (from_place i x xs inside is) ∙ each c) xs)
  where
    each : (c : ℕ) → (p c || ((x == c) || set_of (drop (suc i) xs) c)) ≡ (p c || set_of (drop (suc i) xs) c)
    each c = elim (cases_eq x c) [
      | inl e ↦ rw (sym (ap p e) ∙ passes) refl
      | inr ne ↦ rw (ne_eqb x c ne) refl
    ]

-- one that doesn't pass goes
pub passing_or_from-left : (p : ℕ → Bool) (i x : ℕ) (xs : List ℕ) → IsStrictlyIncreasing xs → i < length xs
    → get_or xs i 0 ≡ x → p x ≡ false
    → without_node (passing_or_from p i xs) x ≡ passing_or_from p (i + 1) xs
passing_or_from-left p i x xs rising inside is fails = rw add-one
    (filter-filter (λ c. p c || set_of (drop i xs) c) (λ c. not (c == x)) xs
    ∙ filter_agree (λ c. (p c || set_of (drop i xs) c) && not (c == x)) (λ c. p c || set_of (drop (suc i) xs) c)
    (λ c. ap (λ (ys : List ℕ). (p c || set_of ys c) && not (c == x)) (from_place i x xs inside is) ∙ each c) xs)
  where
    here : ((p x || ((x == x) || set_of (drop (suc i) xs) x)) && false) ≡ (p x || set_of (drop (suc i) xs) x)
    here = and-false (p x || ((x == x) || set_of (drop (suc i) xs) x))
        ∙ sym (ap (λ (b : Bool). b || set_of (drop (suc i) xs) x) fails
        ∙ ap (λ (c : ℕ). set_of (drop (suc i) xs) c) (sym is) ∙ not_behind xs i rising inside)

    there : (c : ℕ) → (c ≡ x → ⊥)
        → ((p c || ((x == c) || set_of (drop (suc i) xs) c)) && true) ≡ (p c || set_of (drop (suc i) xs) c)
    there c ne = rw (ne_eqb x c (λ e. ne (sym e))) (and-true (p c || set_of (drop (suc i) xs) c))

    each : (c : ℕ) → ((p c || ((x == c) || set_of (drop (suc i) xs) c)) && not (c == x))
        ≡ (p c || set_of (drop (suc i) xs) c)
    each = by_test x (λ c b. ((p c || ((x == c) || set_of (drop (suc i) xs) c)) && not b)
        ≡ (p c || set_of (drop (suc i) xs) c)) here there
