-- Lists that are compared one by one.
use Rattle.std.proofs.Common.{ℕ, suc, ◌+◌, inl, inr, get_or, Bool, true, false, ◌≡◌, ◌∙◌, ◌<◌, Some, List, [], ◌∷◌, length, map, refl, ap, sym, IsTrue, arith}
use Rattle.std.proofs.lemmas.Bool.{eqb-true, eq-eqb, cases_eq, false≢true}
use Rattle.std.proofs.lemmas.List.{length-map}
use Rattle.std.proofs.lemmas.Option.{slice_get-map, slice_get_read}
use Rattle.std.specs.Cmp.Lexicographic.{pointwise}
use Rattle.std.specs.List.{slice_get}
use Rattle.std.specs.Option.{option_map}
use Rattle.std.specs.Prelude.{nat_eq, ◌&&◌, ◌↔◌, MatchBool}

and_true : (a b : Bool) → (a && b) ≡ true → (a ≡ true) × (b ≡ true)
and_true true b h = (refl, h)
and_true false b h = cc

both : (a b : Bool) → a ≡ true → b ≡ true → (a && b) ≡ true
both a b e f = ap (λ (x : Bool). x && b) e ∙ f

-- a test of two lists, where the test of two items decides whether they are one
module _ {X : Type 0} (E : X → X → Bool) (sound : (a b : X) → E a b ≡ true → a ≡ b) (full : (a : X) → E a a ≡ true) where
  pointwise-true : (xs ys : List X) → pointwise E xs ys ≡ true → xs ≡ ys
  pointwise-true [] [] h = refl
  pointwise-true [] (y ∷ ys) h = cc
  pointwise-true (x ∷ xs) [] h = cc
  pointwise-true (x ∷ xs) (y ∷ ys) h =
      let parts = and_true (E x y) (pointwise E xs ys) h in
      ap (λ (z : X). z ∷ xs) (sound x y parts.0) ∙ ap (λ (zs : List X). y ∷ zs) (pointwise-true xs ys parts.1)

  pointwise-same : (xs : List X) → pointwise E xs xs ≡ true
  pointwise-same [] = refl
  pointwise-same (x ∷ xs) = both (E x x) (pointwise E xs xs) (full x) (pointwise-same xs)

  pub pointwise-iff : (xs ys : List X) (r : Bool) → r ≡ pointwise E xs ys → IsTrue r ↔ (xs ≡ ys)
  pointwise-iff xs ys r is = (
    λ t. pointwise-true xs ys (sym is ∙ t),
    λ e. is ∙ ap (λ (zs : List X). pointwise E xs zs) (sym e) ∙ pointwise-same xs,
  )

pub names_iff : (xs ys : List ℕ) (r : Bool) → r ≡ pointwise nat_eq xs ys → IsTrue r ↔ (xs ≡ ys)
names_iff xs ys r is = pointwise-iff nat_eq (λ a b e. eqb-true a b e) (λ a. eq-eqb a a refl) xs ys r is

pub names_alike : (vs ws xs ys : List ℕ) (r : Bool) → vs ≡ xs → ws ≡ ys → r ≡ pointwise nat_eq vs ws → IsTrue r ↔ (xs ≡ ys)
names_alike vs ws xs ys r left right is =
    names_iff xs ys r (is ∙ ap (λ (l : List ℕ). pointwise nat_eq l ws) left ∙ ap (pointwise nat_eq xs) right)

some_one : {Z : Type 0} (a b : Z) → Some a ≡ Some b → a ≡ b
some_one a b e = cc

pub neither : {P : Type 0} → (P → ⊥) → IsTrue false ↔ P
neither ne = (λ t. absurd (false≢true t), λ p. absurd (ne p))

pub not_false : {P : Type 0} → IsTrue false ↔ P → P → ⊥
not_false h p = false≢true (h.1 p)

pub match_true : (P Q : Type 0) (b : Bool) → b ≡ true → MatchBool b P Q → P
match_true P Q true e h = h
match_true P Q false e h = cc

pub match_false : (P Q : Type 0) (b : Bool) → b ≡ false → MatchBool b P Q → Q
match_false P Q true e h = cc
match_false P Q false e h = h

pub item_at : {X : Type 0} (xs : List X) (i : ℕ) (x : X) → i < length xs → x ≡ get_or xs i x → slice_get xs i ≡ Some x
item_at xs i x l e = slice_get_read xs (length xs) i x refl l e

map_same : {X : Type 0} (xs : List X) → map (λ (x : X). x) xs ≡ xs
map_same [] = refl
map_same {X} (x ∷ xs) = ap (λ (ys : List X). x ∷ ys) (map_same xs)

pub as_itself : {X : Type 0} (xs ys : List X) → map (λ (x : X). x) xs ≡ map (λ (x : X). x) ys → xs ≡ ys
as_itself xs ys e = sym (map_same xs) ∙ e ∙ map_same ys

-- lists as f sees them
module _ {X Y : Type 0} (f : X → Y) where
  -- they are one, where their items are
  pub seen_same : (xs ys : List X) → length xs ≡ length ys
      → ((k : ℕ) (x y : X) → slice_get xs k ≡ Some x → slice_get ys k ≡ Some y → f x ≡ f y) → map f xs ≡ map f ys
  seen_same [] [] l h = refl
  seen_same [] (y ∷ ys) l h = absurd (omega (arith, l))
  seen_same (x ∷ xs) [] l h = absurd (omega (arith, l))
  seen_same (x ∷ xs) (y ∷ ys) l h =
      ap (λ (z : Y). z ∷ map f xs) (h 0 x y refl refl)
      ∙ ap (λ (zs : List Y). f y ∷ zs) (seen_same xs ys (omega (arith, l)) (λ k a b. h (suc k) a b))

  -- one item more is the same
  pub seen_more : (xs ys : List X) (n : ℕ) (x y : X) → slice_get xs n ≡ Some x → slice_get ys n ≡ Some y → f x ≡ f y
      → ((k : ℕ) (a b : X) → k < n → slice_get xs k ≡ Some a → slice_get ys k ≡ Some b → f a ≡ f b)
      → (k : ℕ) (a b : X) → k < n + 1 → slice_get xs k ≡ Some a → slice_get ys k ≡ Some b → f a ≡ f b
  seen_more xs ys n x y at there same below k a b l h i =
      elim (cases_eq k n) [
        | inl e ↦ ap f (some_one a x (sym h ∙ ap (slice_get xs) e ∙ at)) ∙ same
            ∙ ap f (some_one y b (sym there ∙ ap (slice_get ys) (sym e) ∙ i))
        | inr ne ↦ below k a b (omega (arith, l, ne)) h i
      ]

  -- and aren't, where two items aren't
  pub seen_apart : (xs ys : List X) (k : ℕ) (x y : X) → slice_get xs k ≡ Some x → slice_get ys k ≡ Some y
      → (f x ≡ f y → ⊥) → map f xs ≡ map f ys → ⊥
  seen_apart xs ys k x y at there apart e =
      apart (some_one (f x) (f y) (sym (slice_get-map f xs k ∙ ap (option_map f) at)
      ∙ ap (λ (zs : List Y). slice_get zs k) e ∙ slice_get-map f ys k ∙ ap (option_map f) there))

  -- or where one is longer
  pub seen_longer : (xs ys : List X) → (length xs ≡ length ys → ⊥) → map f xs ≡ map f ys → ⊥
  seen_longer xs ys apart e = apart (sym (length-map xs f) ∙ ap (λ (zs : List Y). length zs) e ∙ length-map ys f)
