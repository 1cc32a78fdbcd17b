-- The places of nodes in a rising list.
use Rattle.std.proofs.Common.{ℕ, Bool, true, false, suc, ◌==◌, ◌≡◌, ◌<◌, ◌+◌, ◌-◌, Some, None, List, [], ◌∷◌, length, refl, sym, ◌∙◌, arith}
use Rattle.std.specs.Prelude.{nat_lt, not, ◌||◌, is_some, if◌then◌else◌}
use Rattle.std.specs.List.{list_any, position_or_len}
use Rattle.std.proofs.lemmas.Bool.{lt-ltb}
use Rattle.std.proofs.lemmas.Bool.Decides.{nat_tests}
use Rattle.term.specs.NodeSets.{IsNodeSet, set_of}
use Rattle.term.proofs.NodeSets.{position-there}
use Rattle.boss_order.specs.Boss.{boss_of}
use Rattle.locker.specs.RoundState.{place}

-- a test passes somewhere where it has a first place
first_inside : (p : ℕ → Bool) (xs : List ℕ) → list_any p xs ≡ nat_lt (position_or_len p xs) (length xs)
first_inside p [] = refl
first_inside p (x ∷ xs) = go (p x) (first_inside p xs)
  where
    next : (k n : ℕ) → nat_lt k n ≡ nat_lt (1 + k) (suc n)
    next k n = grind (arith, nat_tests)

    go : (b : Bool) → list_any p xs ≡ nat_lt (position_or_len p xs) (length xs)
        → (b || list_any p xs) ≡ nat_lt (if not b then 1 + position_or_len p xs else 0) (suc (length xs))
    go true e = sym (lt-ltb 0 (suc (length xs)) (omega arith))
    go false e = e ∙ next (position_or_len p xs) (length xs)

-- the nodes of a list's set are those that have a place
pub set_of-place : (c : ℕ) (nodes : List ℕ) → set_of nodes c ≡ is_some (place c nodes)
set_of-place c nodes = first_inside (λ m. m == c) nodes
    ∙ go (nat_lt (position_or_len (λ m. m == c) nodes) (length nodes))
  where
    go : (b : Bool) → b ≡ is_some (if b then Some (position_or_len (λ m. m == c) nodes) else None)
    go true = refl
    go false = refl

-- the boss stands last
pub place-boss : (nodes : List ℕ) → IsNodeSet nodes → 0 < length nodes
    → place (boss_of nodes) nodes ≡ Some (length nodes - 1)
place-boss nodes set some =
    position-there nodes (length nodes - 1) (boss_of nodes) set.rising (record { inside = omega arith; is = refl })
