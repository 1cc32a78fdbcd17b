-- Cases on an index and on tests, and what is known of all nodes of a set.
use Rattle.std.proofs.Common.{ℕ, zero, suc, Bool, true, false, ◌==◌, ◌≡◌, ◌<◌, refl, sym, subst, ap, ◌∙◌, inl, inr, arith}
use Rattle.std.specs.Prelude.{not, ◌&&◌, ◌||◌, if◌then◌else◌}
use Rattle.std.proofs.lemmas.Bool.{cases_eq, eq-eqb}
use Rattle.registry_model.specs.Process.{Nodes}
use Rattle.registry_model.proofs.Updates.{by_test}
use Rattle.protocol_model.specs.Round.{is_empty, greatest}
pub use Rattle.protocol_model.proofs.Sets.{empty_at, is_empty_from}

-- f, but v at (a, c)
abbrev pub at_pair : {A : Type 0} → (ℕ → ℕ → A) → ℕ → ℕ → A → ℕ → ℕ → A
at_pair f a c v x y = if x == a then (if y == c then v else f x y) else f x y

-- what holds at (a, c), and at each pair
pub by_pair : {A : Type 0} (f : ℕ → ℕ → A) (a c : ℕ) (v : A) (P : ℕ → ℕ → A → Type 0) → P a c v
    → ((x y : ℕ) → P x y (f x y))
    → (x y : ℕ) → P x y (at_pair f a c v x y)
by_pair f a c v P here there = by_test a (λ x t. (y : ℕ) → P x y (if t then (if y == c then v else f x y) else f x y))
    (by_test c (λ y t. P a y (if t then v else f a y)) here (λ y ne. there a y))
    (λ x ne y. there x y)

pub pair_here : {A : Type 0} (f : ℕ → ℕ → A) (a c : ℕ) (v : A) → at_pair f a c v a c ≡ v
pair_here f a c v = rw (eq-eqb a a refl, eq-eqb c c refl)

-- both of an `and`
pub both : (b c : Bool) → (b && c) ≡ true → (b ≡ true) × (c ≡ true)
both true c e = (refl, e)
both false c e = cc

-- neither of an `or`
pub neither : (b c : Bool) → (b || c) ≡ false → (b ≡ false) × (c ≡ false)
neither true c e = cc
neither false c e = (refl, e)

pub not_true : (b : Bool) → not b ≡ true → b ≡ false
not_true true e = cc
not_true false e = refl

pub not_false : (b : Bool) → not b ≡ false → b ≡ true
not_false true e = refl
not_false false e = cc

-- some node below n of a set that isn't empty
pub some_of : (n : ℕ) (s : Nodes) → is_empty n s ≡ false → (c : ℕ) × (c < n) × (s c ≡ true)
some_of zero s e = cc
some_of (suc n) s e = go (s n) refl (λ q. some_of n s (sym (ap (λ (b : Bool). not b && is_empty n s) q) ∙ e))
  where
    go : (b : Bool) → s n ≡ b → (s n ≡ false → (c : ℕ) × (c < n) × (s c ≡ true)) → (c : ℕ) × (c < suc n) × (s c ≡ true)
    go true q below = (n, omega arith, q)
    go false q below = let more : (c : ℕ) × (c < n) × (s c ≡ true) = below q in (more.0, omega (arith, more.1), more.2)

-- the greatest node of a set is one of it
pub greatest_in : (n : ℕ) (s : Nodes) (a : ℕ) → a < n → s a ≡ true → s (greatest n s) ≡ true
greatest_in zero s a l h = absurd (omega arith)
greatest_in (suc n) s a l h = elim (cases_eq a n) [
  | inl e ↦ first (subst (λ (y : ℕ). s y ≡ true) e h)
  | inr ne ↦ go (s n) refl (greatest_in n s a (omega arith) h)
]
  where
    first : s n ≡ true → s (if s n then n else greatest n s) ≡ true
    first k = ap (λ (t : Bool). s (if t then n else greatest n s)) k ∙ k

    go : (t : Bool) → s n ≡ t → s (greatest n s) ≡ true → s (if s n then n else greatest n s) ≡ true
    go true k r = first k
    go false k r = ap (λ (t : Bool). s (if t then n else greatest n s)) k ∙ r

-- and below n
greatest_at_most : (n : ℕ) (s : Nodes) → greatest n s < suc n
greatest_at_most zero s = omega arith
greatest_at_most (suc n) s = go (s n) (greatest_at_most n s)
  where
    go : (b : Bool) → greatest n s < suc n → (if b then n else greatest n s) < suc (suc n)
    go true l = omega arith
    go false l = omega arith

pub greatest_below : (n : ℕ) (s : Nodes) → 0 < n → greatest n s < n
greatest_below zero s l = absurd (omega arith)
greatest_below (suc n) s l = go (s n) (greatest_at_most n s)
  where
    go : (b : Bool) → greatest n s < suc n → (if b then n else greatest n s) < suc n
    go true l = omega arith
    go false l = l
