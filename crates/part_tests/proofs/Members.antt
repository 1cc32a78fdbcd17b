-- A set with one node more.
use Rattle.std.proofs.Common.{ℕ, ◌≡◌, ◌≤◌, ◌+◌, List, [], ◌∷◌, length, inl, inr, arith, length-append}
use Rattle.std.specs.Prelude.{nat_lt}
use Rattle.std.specs.List.{filter}
use Rattle.std.proofs.lemmas.Bool.{cases_order, lt-ltb, le-ltb}
use Rattle.term.specs.NodeSets.{with_node}

-- a set with one node more is at most one longer
pub one_more_at_most : (xs : List ℕ) (c : ℕ) → length (with_node xs c) ≤ length xs + 1
one_more_at_most xs c =
    let size = length-append (filter (λ m. nat_lt m c) xs) (c ∷ filter (λ m. nat_lt c m) xs) in
    omega (arith, size, both xs)
  where
    both : (ys : List ℕ) → length (filter (λ m. nat_lt m c) ys) + length (filter (λ m. nat_lt c m) ys) ≤ length ys
    both [] = omega arith
    both (y ∷ ys) = elim (cases_order y c) [
      | inl e ↦ rw (le-ltb y c (omega arith), le-ltb c y (omega arith)) (omega (arith, both ys))
      | inr (inl less) ↦ rw (lt-ltb y c less, le-ltb c y (omega arith)) (omega (arith, both ys))
      | inr (inr more) ↦ rw (le-ltb y c (omega arith), lt-ltb c y more) (omega (arith, both ys))
    ]
