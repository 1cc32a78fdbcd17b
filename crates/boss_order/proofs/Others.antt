-- The nodes of a set but the boss.
use Rattle.std.proofs.Common.{ℕ, ◌==◌, ◌≡◌, ◌<◌, ◌-◌, Some, None, List, [], ◌∷◌, length, take, refl, sym, ap, ◌∙◌, arith}
use Rattle.std.specs.Prelude.{not, ◌&&◌}
use Rattle.std.specs.List.{slice_get, remove}
use Rattle.std.proofs.lemmas.Grind.{common_steps}
use Rattle.std.proofs.lemmas.Option.{slice_get_within, get_or_from_slice_get, slice_get-get_or}
use Rattle.term.specs.NodeSets.{IsNodeSet, set_of, without_node}
use Rattle.term.proofs.NodeSets.{without_node-there}
use Rattle.boss_order.specs.Boss.{boss_of, others_of}
use Rattle.term.proofs.Subsets.{set_of-filter}

-- without the boss, all but the last are left
pub without_boss : (xs : List ℕ) → IsNodeSet xs → 0 < length xs → without_node xs (boss_of xs) ≡ others_of xs
without_boss xs set some =
    sym (without_node-there xs (length xs - 1) (boss_of xs) set.rising (record { inside = omega arith; is = refl }))
    ∙ last xs some
  where
    last : (ys : List ℕ) → 0 < length ys → remove ys (length ys - 1) ≡ take (length ys - 1) ys
    last ys l = grind (arith, common_steps)

-- what stands last is the boss
pub boss-Some : (xs : List ℕ) (b : ℕ) → Some b ≡ slice_get xs (length xs - 1) → (0 < length xs) × (b ≡ boss_of xs)
boss-Some xs b e = (
  omega (arith, slice_get_within xs (length xs - 1) b (sym e)),
  sym
      (get_or_from_slice_get xs (length xs - 1) b 0 (sym e)),
)

-- where nothing stands last there is none
pub boss-None : (xs : List ℕ) → None ≡ slice_get xs (length xs - 1) → xs ≡ []
boss-None [] e = refl
boss-None (x ∷ xs) e = cc (e, slice_get-get_or (x ∷ xs) (length (x ∷ xs) - 1) 0 (omega arith))

-- their set
pub set_of-others : (xs : List ℕ) → IsNodeSet xs → 0 < length xs → (c : ℕ)
    → set_of (others_of xs) c ≡ (set_of xs c && not (c == boss_of xs))
set_of-others xs set some c =
    ap (λ (ys : List ℕ). set_of ys c) (sym (without_boss xs set some)) ∙ set_of-filter (λ m. not (m == boss_of xs)) xs c
