-- Whether a cluster can make a seat more.
use Rattle.std.proofs.Common.{ℕ, Bool, true, false, ◌≡◌, ◌<◌, ◌≤◌, Some, None, length, cond, refl, sym, ap, ◌∙◌, arith}
use Rattle.std.specs.Prelude.{nat_lt, not, ◌||◌}
use Rattle.std.specs.List.{position}
use Rattle.std.proofs.lemmas.Bool.Decides.{nat_tests}
use Rattle.term.specs.declared.limits.TheConstants.{SEAT_NUMBERS, MOST_SEATS}
use Rattle.node_threads.specs.declared.seating.Seating.{Seating}
use Rattle.node_threads.specs.Seating.{are_spent, free_slot}

module _ (s : Seating) (slots : length s.taken ≡ MOST_SEATS) where
  -- no slot is free
  pub none_free : position not s.taken ≡ None → are_spent s ≡ true
  none_free at = go (nat_lt (free_slot s) MOST_SEATS) (ap (λ (n : ℕ). cond (nat_lt (free_slot s) n) (Some (free_slot s)) None) (sym slots) ∙ at)
    where
      go : (b : Bool) → cond b (Some (free_slot s)) None ≡ None → (not b || not (nat_lt s.made SEAT_NUMBERS)) ≡ true
      go true e = absurd (cc e)
      go false e = refl

  -- the first that is
  pub first_free : (slot : ℕ) → position not s.taken ≡ Some slot → (slot ≡ free_slot s) × (free_slot s < MOST_SEATS)
  first_free slot at = go (nat_lt (free_slot s) MOST_SEATS) refl
      (ap (λ (n : ℕ). cond (nat_lt (free_slot s) n) (Some (free_slot s)) None) (sym slots) ∙ at)
    where
      go : (b : Bool) → nat_lt (free_slot s) MOST_SEATS ≡ b → cond b (Some (free_slot s)) None ≡ Some slot → (slot ≡ free_slot s) × (free_slot s < MOST_SEATS)
      go true is e = (cc e, grind (arith, nat_tests))
      go false is e = absurd (cc e)

-- where one is, it depends on whether a number is left
module _ (s : Seating) (free : free_slot s < MOST_SEATS) where
  spent_by : (b : Bool) → nat_lt s.made SEAT_NUMBERS ≡ b → are_spent s ≡ not b
  spent_by b is = go (nat_lt (free_slot s) MOST_SEATS) refl
    where
      go : (f : Bool) → nat_lt (free_slot s) MOST_SEATS ≡ f → (not f || not (nat_lt s.made SEAT_NUMBERS)) ≡ not b
      go true e = ap not is
      go false e = absurd (grind (arith, nat_tests))

  pub no_number : SEAT_NUMBERS ≤ s.made → are_spent s ≡ true
  no_number most = spent_by false (grind (arith, nat_tests))

  pub one_more : s.made < SEAT_NUMBERS → are_spent s ≡ false
  one_more more = spent_by true (grind (arith, nat_tests))
