-- A function with another value at one number.
use Rattle.std.proofs.Common.{ℕ, Bool, true, false, ◌==◌, ◌≡◌, refl, sym, subst, inl, inr}
use Rattle.std.proofs.lemmas.Bool.{cases_eq, eq-eqb, ne_eqb}
use Rattle.registry_model.specs.Process.{at}

-- what holds at a, and at each other number
pub by_test : (a : ℕ) (P : ℕ → Bool → Type 0) → P a true → ((x : ℕ) → (x ≡ a → ⊥) → P x false) → (x : ℕ) → P x (x == a)
by_test a P here there x = elim (cases_eq x a) [
  | inl e ↦ rw (eq-eqb x a e) (subst (λ (y : ℕ). P y true) (sym e) here)
  | inr ne ↦ rw (ne_eqb x a ne) (there x ne)
]

-- at a
pub at_same : {A : Type 0} (f : ℕ → A) (a : ℕ) (v : A) → at f a v a ≡ v
at_same f a v = rw (eq-eqb a a refl)

-- elsewhere
pub at_other : {A : Type 0} (f : ℕ → A) (a : ℕ) (v : A) (x : ℕ) → (x ≡ a → ⊥) → at f a v x ≡ f x
at_other f a v x ne = rw (ne_eqb x a ne)
