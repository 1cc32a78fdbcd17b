-- Where something stands first in two lists, one behind the other.
use Rattle.std.proofs.Common.{ℕ, Bool, true, false, not, ◌≡◌, ◌+◌, ◌≤◌, Some, None, List, ◌++◌, length, cond, length-append, refl, ap, ◌∙◌, arith}
use Rattle.std.specs.Prelude.{nat_lt, nat_eq}
use Rattle.std.specs.List.{position, prefix_len}
use Rattle.std.proofs.lemmas.Bool.Decides.{nat_tests}
use Rattle.std.proofs.lemmas.List.Folds.{prefix_len-append}
use Rattle.std.proofs.lemmas.List.Sums.{prefix_len-le-length}

-- the first a of n pass by, of m more the first b, and so the first z of all of them
module _ (a n b m z l : ℕ) (few : a ≤ n) (all : l ≡ n + m) (both : z ≡ cond (nat_eq a n) (n + b) a) where
  in_the_first : (i : ℕ) → cond (nat_lt a n) (Some a) None ≡ Some i → cond (nat_lt z l) (Some z) None ≡ Some i
  in_the_first i e = go (nat_lt a n) refl (nat_eq a n) refl (nat_lt z l) refl e both
    where
      go : (s : Bool) → nat_lt a n ≡ s → (t : Bool) → nat_eq a n ≡ t → (u : Bool) → nat_lt z l ≡ u
          → cond s (Some a) None ≡ Some i → z ≡ cond t (n + b) a → cond u (Some z) None ≡ Some i
      go true x false y true w e f = ap Some f ∙ e
      go true x false y false w e f = absurd (grind (arith, nat_tests, all))
      go true x true y u w e f = absurd (grind (arith, nat_tests))
      go false x t y u w e f = absurd (cc e)

  in_the_second : (i : ℕ) → cond (nat_lt a n) (Some a) None ≡ None → cond (nat_lt b m) (Some b) None ≡ Some i
      → cond (nat_lt z l) (Some z) None ≡ Some (n + i)
  in_the_second i e h = go (nat_lt a n) refl (nat_eq a n) refl (nat_lt b m) refl (nat_lt z l) refl e h both
    where
      go : (s : Bool) → nat_lt a n ≡ s → (t : Bool) → nat_eq a n ≡ t → (r : Bool) → nat_lt b m ≡ r → (u : Bool) → nat_lt z l ≡ u
          → cond s (Some a) None ≡ None → cond r (Some b) None ≡ Some i → z ≡ cond t (n + b) a → cond u (Some z) None ≡ Some (n + i)
      go true x t y r v u w e h f = absurd (cc e)
      go false x false y r v u w e h f = absurd (grind (arith, nat_tests, few))
      go false x true y true v true w e h f = ap Some (f ∙ ap (λ (k : ℕ). n + k) (cc h))
      go false x true y true v false w e h f = absurd (grind (arith, nat_tests, all))
      go false x true y false v u w e h f = absurd (cc h)

  in_neither : cond (nat_lt a n) (Some a) None ≡ None → cond (nat_lt b m) (Some b) None ≡ None → None ≡ cond (nat_lt z l) (Some z) None
  in_neither e h = go (nat_lt a n) refl (nat_eq a n) refl (nat_lt b m) refl (nat_lt z l) refl e h both
    where
      go : (s : Bool) → nat_lt a n ≡ s → (t : Bool) → nat_eq a n ≡ t → (r : Bool) → nat_lt b m ≡ r → (u : Bool) → nat_lt z l ≡ u
          → cond s (Some a) None ≡ None → cond r (Some b) None ≡ None → z ≡ cond t (n + b) a → None ≡ cond u (Some z) None
      go true x t y r v u w e h f = absurd (cc e)
      go false x false y r v u w e h f = absurd (grind (arith, nat_tests, few))
      go false x true y true v u w e h f = absurd (cc h)
      go false x true y false v true w e h f = absurd (grind (arith, nat_tests, all))
      go false x true y false v false w e h f = refl

module _ {X : Type 0} (p : X → Bool) (xs ys : List X) where
  abbrev passed : X → Bool
  passed x = not (p x)

  few_pass : prefix_len passed xs ≤ length xs
  few_pass = prefix_len-le-length passed xs

  pub place_first : (i : ℕ) → position p xs ≡ Some i → position p (xs ++ ys) ≡ Some i
  place_first i e = in_the_first (prefix_len passed xs) (length xs) (prefix_len passed ys) (length ys) (prefix_len passed (xs ++ ys))
      (length (xs ++ ys)) few_pass (length-append xs ys) (prefix_len-append passed xs ys) i e

  pub place_second : (i : ℕ) → position p xs ≡ None → position p ys ≡ Some i → position p (xs ++ ys) ≡ Some (length xs + i)
  place_second i e h = in_the_second (prefix_len passed xs) (length xs) (prefix_len passed ys) (length ys) (prefix_len passed (xs ++ ys))
      (length (xs ++ ys)) few_pass (length-append xs ys) (prefix_len-append passed xs ys) i e h

  pub place_nowhere : position p xs ≡ None → position p ys ≡ None → None ≡ position p (xs ++ ys)
  place_nowhere e h = in_neither (prefix_len passed xs) (length xs) (prefix_len passed ys) (length ys) (prefix_len passed (xs ++ ys))
      (length (xs ++ ys)) few_pass (length-append xs ys) (prefix_len-append passed xs ys) e h
