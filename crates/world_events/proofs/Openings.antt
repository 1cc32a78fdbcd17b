-- The nodes that are gathered for a world.
use Rattle.std.proofs.Common.{ℕ, suc, Bool, true, false, ◌≡◌, ◌≤◌, ◌+◌, List, [], ◌∷◌, length, length-append, filter, refl, arith}
use Rattle.std.specs.Prelude.{if◌then◌else◌, nat_lt, Result, Ok, Err, MatchResult, OnOk, is_ok}
use Rattle.std.specs.List.{All}
use Rattle.std.proofs.lemmas.Bool.Decides.{nat_tests}
use Rattle.std.proofs.lemmas.List.Elements.{All-filter, All-append, All-cons}
use Rattle.term.specs.Nodes.{IsFirst}
use Rattle.term.specs.NodeSets.{with_node}

-- what stands on success
pub at_ok : {T E P : Type 0} (r : Result T E) → is_ok r ≡ true → OnOk r P → P
at_ok (Ok x) e p = p
at_ok (Err y) e p = cc

-- a set grows by one node at most
grown : (xs : List ℕ) (c : ℕ) → length (filter (λ m. nat_lt m c) xs) + length (filter (λ m. nat_lt c m) xs) ≤ length xs
grown [] c = omega arith
grown (x ∷ xs) c = go (nat_lt x c) (nat_lt c x) refl refl (grown xs c)
  where
    go : (a b : Bool) → nat_lt x c ≡ a → nat_lt c x ≡ b
        → length (filter (λ m. nat_lt m c) xs) + length (filter (λ m. nat_lt c m) xs) ≤ length xs
        → length (if a then x ∷ filter (λ m. nat_lt m c) xs else filter (λ m. nat_lt m c) xs) + length
        (if b then x ∷ filter (λ m. nat_lt c m) xs else filter (λ m. nat_lt c m) xs) ≤ suc (length xs)
    go true true e f h = absurd (never x c e f)
      where
        never : (x c : ℕ) → nat_lt x c ≡ true → nat_lt c x ≡ true → ⊥
        never x c e f = grind (arith, nat_tests)
    go true false e f h = omega arith
    go false true e f h = omega arith
    go false false e f h = omega arith

pub length-with_node : (xs : List ℕ) (c : ℕ) → length (with_node xs c) ≤ length xs + 1
length-with_node xs c = omega (
  arith,
  grown xs c,
  length-append (filter (λ m. nat_lt m c) xs)
      (c ∷ filter (λ m. nat_lt c m) xs),
)

-- what stands on success
pub matched_ok : {T E : Type 0} (P : T → Type 0) (Q : E → Type 0) (r : Result T E) → is_ok r ≡ true → MatchResult r P Q
    → (x : T) × P x
matched_ok P Q (Ok x) e p = (x, p)
matched_ok P Q (Err y) e p = cc

-- with a first node more all are first nodes
pub first-with_node : (xs : List ℕ) (c : ℕ) → All IsFirst xs → IsFirst c → All IsFirst (with_node xs c)
first-with_node xs c first here = All-append IsFirst (filter (λ m. nat_lt m c) xs) (c ∷ filter (λ m. nat_lt c m) xs)
    (All-filter (λ m. nat_lt m c) IsFirst xs first)
    (All-cons IsFirst c (filter (λ m. nat_lt c m) xs) here (All-filter (λ m. nat_lt c m) IsFirst xs first))
