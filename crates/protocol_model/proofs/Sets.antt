-- Sets of nodes that have none below a bound, in words.
use Rattle.std.proofs.Common.{ℕ, zero, suc, Bool, true, false, ◌≡◌, ◌<◌, refl, ap, ◌∙◌, inl, inr, arith}
use Rattle.std.specs.Prelude.{not, ◌&&◌}
use Rattle.std.proofs.lemmas.Bool.{cases_eq, and_parts, not-true}
use Rattle.registry_model.specs.Process.{Nodes}
use Rattle.protocol_model.specs.Round.{is_empty}
use Rattle.protocol_model.specs.SharedLaws.{TellsTheEmpty}

-- nobody below n is in an empty set
pub empty_at : (n : ℕ) (s : Nodes) → is_empty n s ≡ true → (c : ℕ) → c < n → s c ≡ false
empty_at zero s e c l = absurd (omega arith)
empty_at (suc n) s e c l =
    let parts : (not (s n) ≡ true) × (is_empty n s ≡ true) = and_parts (not (s n)) (is_empty n s) e in
    elim (cases_eq c n) [
      | inl q ↦ ap s q ∙ not-true (s n) parts.0
      | inr ne ↦ empty_at n s parts.1 c (omega arith)
    ]

-- a set without nodes below n is empty
pub is_empty_from : (n : ℕ) (s : Nodes) → ((c : ℕ) → c < n → s c ≡ false) → is_empty n s ≡ true
is_empty_from zero s none = refl
is_empty_from (suc n) s none =
    ap (λ (b : Bool). not b && is_empty n s) (none n (omega arith)) ∙ is_empty_from n s (λ c l. none c (omega arith))

pub tells_the_empty : TellsTheEmpty
tells_the_empty n s = (empty_at n s, is_empty_from n s)
