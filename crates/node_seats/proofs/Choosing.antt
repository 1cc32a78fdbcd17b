-- What is found first in a list.
use Rattle.std.proofs.Common.{ℕ, Bool, true, false, ◌≡◌, ◌≤◌, Some, None, List, [], ◌∷◌, map, length, get_or, cond, refl, sym, ap, ◌∙◌, arith}
use Rattle.std.specs.Prelude.{nat_lt, option_map}
use Rattle.std.specs.List.{find, position, position_or_len, slice_get}
use Rattle.std.proofs.lemmas.Bool.Decides.{nat_tests}
use Rattle.std.proofs.lemmas.List.Folds.{find_at}
use Rattle.std.proofs.lemmas.List.Quantifiers.{position-Some}
use Rattle.std.proofs.lemmas.Option.{slice_get_past, slice_get-get_or}

module _ {X : Type 0} (p : X → Bool) (xs : List X) where
  -- what stands at the place that was found
  found_at : (i : ℕ) → position p xs ≡ Some i → find p xs ≡ slice_get xs i
  found_at i at = go (nat_lt (position_or_len p xs) (length xs)) at
    where
      go : (b : Bool) → cond b (Some (position_or_len p xs)) None ≡ Some i → find p xs ≡ slice_get xs i
      go true e = find_at p xs ∙ ap (slice_get xs) (cc e)
      go false e = absurd (cc e)

  -- or there is none
  none_found : position p xs ≡ None → find p xs ≡ None
  none_found at = find_at p xs ∙ slice_get_past xs (position_or_len p xs) (past (nat_lt (position_or_len p xs) (length xs)) refl at)
    where
      past : (b : Bool) → nat_lt (position_or_len p xs) (length xs) ≡ b → cond b (Some (position_or_len p xs)) None ≡ None
          → length xs ≤ position_or_len p xs
      past true is e = absurd (cc e)
      past false is e = grind (arith, nat_tests)

-- among what some things become
module _ {X Y : Type 0} (f : X → Y) (p : Y → Bool) where
  pub find_mapped : (xs : List X) → find p (map f xs) ≡ option_map f (find (λ x. p (f x)) xs)
  find_mapped [] = refl
  find_mapped (x ∷ xs) = at (p (f x)) (find_mapped xs)
    where
      at : (b : Bool) → find p (map f xs) ≡ option_map f (find (λ y. p (f y)) xs)
          → cond b (Some (f x)) (find p (map f xs)) ≡ option_map f (cond b (Some x) (find (λ y. p (f y)) xs))
      at true e = refl
      at false e = e

  module _ (xs : List X) where
    pub first_becomes : (i : ℕ) (x : X) → position (λ y. p (f y)) xs ≡ Some i → x ≡ get_or xs i x → find p (map f xs) ≡ Some (f x)
    first_becomes i x at is = find_mapped xs
        ∙ ap (option_map f) (found_at (λ y. p (f y)) xs i at
        ∙ slice_get-get_or xs i x (position-Some (λ y. p (f y)) xs i x at).0 ∙ ap Some (sym is))

    pub none_becomes : position (λ y. p (f y)) xs ≡ None → find p (map f xs) ≡ None
    none_becomes at = find_mapped xs ∙ ap (option_map f) (none_found (λ y. p (f y)) xs at)
