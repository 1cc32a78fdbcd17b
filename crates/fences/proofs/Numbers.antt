-- Numbers by stamp and place.
use Rattle.std.proofs.Common.{ℕ, ◌≡◌, ◌+◌, ◌*◌, ◌<◌, ◌≤◌, inl, inr, arith}
use Rattle.std.specs.Prelude.{◌⊎◌, ◌↔◌}
use Rattle.std.proofs.lemmas.Bool.{cases_lt}
use Rattle.registry_model.specs.declared.limits.TheConstants.{MOST_NODES}
use Rattle.fences.specs.Laws.{FencesAreOrdered}

-- x, m and y, n are stamps and places
module _ (x y m n : ℕ) where
  -- the lesser stamp gives the lesser number
  pub by_stamp : m < MOST_NODES → x < y → x * MOST_NODES + m < y * MOST_NODES + n
  by_stamp l h = omega (arith, l, h)

  -- and of one stamp does the lesser place
  pub by_place : x ≡ y → m < n → x * MOST_NODES + m < y * MOST_NODES + n
  by_place e h = omega (arith, e, h)

  -- of one stamp the lesser number has the lesser place
  same_stamp : n < MOST_NODES → x * MOST_NODES + m < y * MOST_NODES + n → y ≤ x → (x ≡ y) × (m < n)
  same_stamp l h k = (omega (arith, l, h, k), omega (arith, l, h, k))

  ordered : m < MOST_NODES → n < MOST_NODES → (x * MOST_NODES + m < y * MOST_NODES + n) ↔ ((x < y) ⊎ ((x ≡ y) × (m < n)))
  ordered l k = (there, back)
    where
      there : x * MOST_NODES + m < y * MOST_NODES + n → (x < y) ⊎ ((x ≡ y) × (m < n))
      there h = elim (cases_lt x y) [ inl q ↦ inl q | inr q ↦ inr (same_stamp k h q) ]

      back : (x < y) ⊎ ((x ≡ y) × (m < n)) → x * MOST_NODES + m < y * MOST_NODES + n
      back (inl h) = by_stamp l h
      back (inr h) = by_place h.0 h.1

pub fences_are_ordered : FencesAreOrdered
fences_are_ordered place s t l k = ordered s.entry.stamp t.entry.stamp (place s.node) (place t.node) l k
