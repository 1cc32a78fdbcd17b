-- The place of a node among things that belong to nodes.
use Rattle.std.proofs.Common.{ℕ, Bool, ◌==◌, ◌≡◌, not, cond, Option, List, [], ◌∷◌, Some, None, is_some, length, map, ◌+◌, refl, sym, ap}
use Rattle.std.specs.Prelude.{nat_lt}
use Rattle.std.proofs.lemmas.List.{length-map}
use Rattle.std.specs.List.{position, prefix_len}
use Rattle.term.specs.NodeSets.{set_of}
use Rattle.link.specs.MeshState.{place}
use Rattle.replay.proofs.Listed.{known_place, no_place}

module _ {X : Type 0} (node : X → ℕ) where
  prefix_mapped : (p : ℕ → Bool) (xs : List X) → prefix_len (λ x. p (node x)) xs ≡ prefix_len p (map node xs)
  prefix_mapped p [] = refl
  prefix_mapped p (x ∷ xs) = ap (λ (n : ℕ). cond (p (node x)) (1 + n) 0) (prefix_mapped p xs)

  -- it is that among the nodes
  pub place_mapped : (c : ℕ) (xs : List X) → position (λ x. node x == c) xs ≡ place c (map node xs)
  place_mapped c xs = λ j. cond (nat_lt (at j) (long j)) (Some (at j)) None
    where
      at : prefix_len (λ x. not (node x == c)) xs ≡ prefix_len (λ m. not (m == c)) (map node xs)
      at = prefix_mapped (λ m. not (m == c)) xs

      long : length xs ≡ length (map node xs)
      long = sym (length-map xs node)

-- a node has a place exactly where it is listed
pub is_some-place : (xs : List ℕ) (a : ℕ) → is_some (place a xs) ≡ set_of xs a
is_some-place xs a = go (place a xs) refl
  where
    go : (p : Option ℕ) → place a xs ≡ p → is_some p ≡ set_of xs a
    go None e = sym (no_place xs a e)
    go (Some i) e = sym (known_place xs a i e)
