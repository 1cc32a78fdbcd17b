-- The places of nodes in their list.
use Rattle.std.proofs.Common.{ℕ, true, false, ◌==◌, ◌≡◌, ◌≤◌, Some, None, List, length, sym, ap, ◌∙◌, arith}
use Rattle.std.specs.List.{position_or_len}
use Rattle.std.proofs.lemmas.Grind.{common_steps}
use Rattle.std.proofs.lemmas.List.{get_or_default}
use Rattle.std.proofs.lemmas.List.Folds.{list_any_none}
use Rattle.std.proofs.lemmas.List.Sums.{fails_before_first}
use Rattle.term.specs.NodeSets.{set_of}
use Rattle.link.specs.MeshState.{place}
use Rattle.term.proofs.NodePlaces.{place-Some}
use Rattle.boss_order.proofs.Sets.{set_of-item}

-- a node has a place where it is listed
pub known_place : (xs : List ℕ) (a i : ℕ) → place a xs ≡ Some i → set_of xs a ≡ true
known_place xs a i e = sym (ap (set_of xs) (place-Some a xs i e).1) ∙ set_of-item xs i 0 (place-Some a xs i e).0

-- and none else
pub no_place : (xs : List ℕ) (a : ℕ) → place a xs ≡ None → set_of xs a ≡ false
no_place xs a e = list_any_none (λ m. m == a) xs (λ k d l. ap (λ (x : ℕ). x == a) (get_or_default xs k d 0 l)
    ∙ fails_before_first (λ x. x == a) xs k 0 (omega (arith, none)))
  where
    none : length xs ≤ position_or_len (λ x. x == a) xs
    none = grind (arith, common_steps, e)
