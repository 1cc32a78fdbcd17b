-- Where the older one of two nodes is replaced.
use Rattle.std.proofs.Common.{◌≡◌, ℕ, zero, suc, ◌<◌, List, [], ◌∷◌, length, get_or, set, arith, ap, refl}
use Rattle.std.proofs.lemmas.Bool.{eq-eqb, ne_eqb}
use Rattle.world_history.specs.Kept.{replaced}

-- it is the first that is found
pub replaced-at : (xs : List ℕ) (i older next : ℕ) → i < length xs → ((k : ℕ) → k < i → get_or xs k 0 ≡ older → ⊥)
    → get_or xs i 0 ≡ older → set xs i next ≡ replaced older next xs
replaced-at [] i older next inside before here = absurd (omega arith)
replaced-at (x ∷ xs) zero older next inside before here = rw (eq-eqb x older here) refl
replaced-at (x ∷ xs) (suc i) older next inside before here =
    rw (ne_eqb x older (before 0 (omega arith)))
    (ap (λ (ys : List ℕ). x ∷ ys) (replaced-at xs i older next (omega arith) (λ k h. before (suc k) (omega arith)) here))

-- or there is none
pub replaced-none : (xs : List ℕ) (older next : ℕ) → ((k : ℕ) → k < length xs → get_or xs k 0 ≡ older → ⊥)
    → xs ≡ replaced older next xs
replaced-none [] older next before = refl
replaced-none (x ∷ xs) older next before =
    rw (ne_eqb x older (before 0 (omega arith)))
    (ap (λ (ys : List ℕ). x ∷ ys) (replaced-none xs older next (λ k h. before (suc k) (omega arith))))
