-- Who is awaited no longer.
use Rattle.std.proofs.Common.{ℕ, Bool, true, false, ◌==◌, ◌≡◌, List, [], ◌∷◌, ap, refl}
use Rattle.std.specs.Prelude.{not, ◌||◌, if◌then◌else◌}
use Rattle.term.specs.NodeSets.{set_of, without_node}

-- a list that doesn't have the node stays as it is without it
pub without_node-other : (xs : List ℕ) (c : ℕ) → set_of xs c ≡ false → without_node xs c ≡ xs
without_node-other [] c e = refl
without_node-other (x ∷ xs) c e = go (x == c) e (without_node-other xs c)
  where
    go : (b : Bool) → (b || set_of xs c) ≡ false → (set_of xs c ≡ false → without_node xs c ≡ xs)
        → (if not b then x ∷ without_node xs c else without_node xs c) ≡ x ∷ xs
    go true f rest = cc
    go false f rest = ap (λ (ys : List ℕ). x ∷ ys) (rest f)
