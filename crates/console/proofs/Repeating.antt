-- Things that are done again and again.
use Rattle.std.proofs.Common.{ℕ, zero, suc, refl, subst}
use Rattle.node_seats.specs.Knowing.{Known}
use Rattle.console.specs.Lent.{Repeats}

-- once more
pub one_more : (Does : Known → Known → Type 0) (n : ℕ) (k l m : Known) → Repeats Does n k l → Does l m → Repeats Does (suc n) k m
one_more Does zero k l m on does = (m, subst (λ (v : Known). Does v m) on does, refl)
one_more Does (suc n) k l m on does = (on.0, on.1, one_more Does n on.0 l m on.2 does)
