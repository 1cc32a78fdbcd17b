-- What a map by numbers has after a change.
use Rattle.std.proofs.Common.{ℕ, Bool, true, ◌==◌, ◌≡◌, Option, List, [], ◌∷◌, refl, sym, ap, ◌∙◌, inl, inr, arith, nat_cmp}
use Rattle.std.specs.Prelude.{cond}
use Rattle.std.specs.BTreeMap.{is_at}
use Rattle.std.specs.List.{list_any}
use Rattle.std.specs.Map.{lookup}
use Rattle.std.proofs.lemmas.Bool.{cases_order, eq-eqb, ne_eqb, lt-ltb, le-ltb}

-- a number is found where it is
pub at_is : (q k : ℕ) → is_at (nat_cmp q) k ≡ (k == q)
at_is q k = elim (cases_order q k) [
  | inl i ↦ rw (le-ltb q k (omega arith), eq-eqb q k i, eq-eqb k q (sym i)) refl
  | inr (inl l) ↦ rw (lt-ltb q k l, ne_eqb k q (λ i. absurd (omega arith))) refl
  | inr (inr g) ↦ rw (le-ltb q k (omega arith))
      (rw (ne_eqb q k (λ i. absurd (omega arith)), ne_eqb k q (λ i. absurd (omega arith))) refl)
]

pub at_self : (q : ℕ) → is_at (nat_cmp q) q ≡ true
at_self q = at_is q q ∙ eq-eqb q q refl

-- a number is in a list
pub any-at : (ks : List ℕ) (q : ℕ) → list_any (is_at (nat_cmp q)) ks ≡ list_any (λ d. d == q) ks
any-at [] q = refl
any-at (k ∷ ks) q = rw (at_is q k, any-at ks q) refl

-- n has w at k, and elsewhere what m has
module _ (m n : List (ℕ × ℕ)) (k : ℕ) (w : Option ℕ)
    (set : (q : ℕ) → lookup (is_at (nat_cmp q)) n ≡ cond (is_at (nat_cmp k) q) w (lookup (is_at (nat_cmp q)) m)) where
  pub set-here : lookup (is_at (nat_cmp k)) n ≡ w
  set-here = set k ∙ ap (λ (b : Bool). cond b w (lookup (is_at (nat_cmp k)) m)) (at_self k)

  pub set-other : (q : ℕ) → (q ≡ k → ⊥) → lookup (is_at (nat_cmp q)) n ≡ lookup (is_at (nat_cmp q)) m
  set-other q ne = set q ∙ ap (λ (b : Bool). cond b w (lookup (is_at (nat_cmp q)) m)) (at_is k q ∙ ne_eqb q k ne)
