-- An entry is noted of which nothing is kept.
use Rattle.std.proofs.Common.{◌≡◌, List, [], ◌∷◌, ◌++◌, map}
use Rattle.std.proofs.lemmas.List.{map-append}
use Rattle.shared_table.specs.declared.SeatEntry.{SeatEntry}

pub noted_more : (past : List (SeatEntry × Unit {0})) (entry : SeatEntry)
    → map (λ p. p.0) (past ++ (entry, tt) ∷ []) ≡ map (λ p. p.0) past ++ entry ∷ []
noted_more past entry = map-append (λ p. p.0) past ((entry, tt) ∷ [])
