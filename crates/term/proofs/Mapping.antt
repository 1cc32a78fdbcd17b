-- A list whose elements are changed one after another.
use Rattle.std.proofs.Common.{ℕ, zero, suc, ◌≡◌, ◌<◌, ◌+◌, ◌++◌, List, [], ◌∷◌, length, take, drop, get_or, set, map, ap, arith, add-one, subst, sym}

stepped : {X : Type 0} (f : X → X) (ys : List X) (i : ℕ) (d x : X)
    → i < length (map f (take i ys) ++ drop i ys)
    → x ≡ f (get_or (map f (take i ys) ++ drop i ys) i d)
    → set (map f (take i ys) ++ drop i ys) i x ≡ map f (take (suc i) ys) ++ drop (suc i) ys
stepped f [] zero d x inside is = absurd (omega (arith, inside))
stepped f [] (suc i) d x inside is = absurd (omega (arith, inside))
stepped f (y ∷ ys) zero d x inside is = ap (λ z. z ∷ ys) is
stepped f (y ∷ ys) (suc i) d x inside is = ap (λ zs. f y ∷ zs) (stepped f ys i d x (omega (arith, inside)) is)

-- one element more is changed
pub mapped_more : {X : Type 0} (f : X → X) (xs ys : List X) (i : ℕ) (d x : X) → i < length xs
    → xs ≡ map f (take i ys) ++ drop i ys → x ≡ f (get_or xs i d)
    → set xs i x ≡ map f (take (i + 1) ys) ++ drop (i + 1) ys
mapped_more {X} f xs ys i d x inside so is = rw add-one (subst
    (λ (zs : List X). i < length zs → x ≡ f (get_or zs i d) → set zs i x ≡ map f (take (suc i) ys) ++ drop (suc i) ys) (sym so)
    (stepped f ys i d x) inside is)
