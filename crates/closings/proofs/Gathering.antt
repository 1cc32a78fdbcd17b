-- The logs of all nodes are put in, one node after the other.
use Rattle.std.proofs.Common.{ℕ, zero, suc, ◌≡◌, ◌+◌, ◌<◌, ◌≤◌, inl, inr, List, [], length, refl, sym, ap, subst, ◌∙◌, arith}
use Rattle.std.proofs.lemmas.Bool.{cases_eq, cases_lt}
use Rattle.closings.specs.Alone.{LogEntry}
use Rattle.closings.specs.Merging.{Step, steps_of, IsInOrder}
use Rattle.closings.specs.Laws.{steps_below, AreMerged, LogsMerge}
use Rattle.closings.proofs.Entering.{enter, AreRising, enter_others, enter_own, enter_order, enter_count, rising}

module _ (logs : ℕ → List LogEntry) where
  -- the steps of the nodes below n
  abbrev gathered : ℕ → List Step
  gathered zero = []
  gathered (suc n) = enter n (logs n) (gathered n)

  -- no others have steps there
  none_above : (n a : ℕ) → n ≤ a → steps_of a (gathered n) ≡ []
  none_above zero a l = refl
  none_above (suc n) a l = enter_others a n (logs n) (gathered n) (other l) ∙ none_above n a (omega (arith, l))
    where
      other : suc n ≤ a → n ≡ a → ⊥
      other l e = omega (arith, l, e)

  -- there are as many as in their logs
  gathered_count : (n : ℕ) → length (gathered n) ≡ steps_below logs n
  gathered_count zero = refl
  gathered_count (suc n) = enter_count n (logs n) (gathered n) ∙ ap (λ (m : ℕ). m + length (logs n)) (gathered_count n)

  module _ (rise : (a : ℕ) → AreRising (logs a)) where
    -- they are in order
    gathered_order : (n : ℕ) → IsInOrder (gathered n)
    gathered_order zero = tt
    gathered_order (suc n) = enter_order n (gathered n) (none_above n n (omega arith)) (logs n) (rise n) (gathered_order n)

    -- and each node's are those of its log
    all_below : (n a : ℕ) → a < n → steps_of a (gathered n) ≡ logs a
    all_below zero a l = absurd (none l)
      where
        none : a < 0 → ⊥
        none l = omega (arith, l)
    all_below (suc n) a l = elim (cases_eq n a) [
      | inl e ↦ subst (λ (b : ℕ). steps_of b (gathered (suc n)) ≡ logs b) e
          (enter_own n (gathered n) (none_above n n (omega arith)) (logs n) (rise n))
      | inr ne ↦ enter_others a n (logs n) (gathered n) ne ∙ all_below n a (less l ne)
    ]
      where
        less : a < suc n → (n ≡ a → ⊥) → a < n
        less l ne = omega (arith, l, ne)

    -- so they are merged
    pub merge : (n : ℕ) → ((a : ℕ) → n ≤ a → logs a ≡ []) → AreMerged logs n
    merge n empty = record {
      steps = gathered n;
      merged = record { order = gathered_order n; whole = whole };
      count = gathered_count n;
    }
      where
        whole : (a : ℕ) → steps_of a (gathered n) ≡ logs a
        whole a = elim (cases_lt a n) [
          | inl l ↦ all_below n a l
          | inr l ↦ none_above n a l ∙ sym (empty a l)
        ]

pub logs_merge : LogsMerge
logs_merge logs n rise empty = merge logs (λ a. rising (logs a) (rise a)) n empty
