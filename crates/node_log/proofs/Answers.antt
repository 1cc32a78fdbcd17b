-- The last step of a log is answered, and the place of a sender is kept.
use Rattle.std.proofs.Common.{ℕ, ◌≡◌, ◌==◌, Some, List, [], ◌∷◌, ◌++◌, map, refl, sym, ap, ◌∙◌}
use Rattle.std.specs.List.{position}
use Rattle.std.proofs.lemmas.Bool.{eqb-true}
use Rattle.std.proofs.lemmas.List.{map-append}
use Rattle.std.proofs.lemmas.List.Quantifiers.{position-Some}
use Rattle.world_events.specs.declared.Answer.{Answer}
use Rattle.node_log.specs.declared.entry.KeptEntry.{KeptEntry}
use Rattle.node_log.specs.Entries.{SeatedEntry, IsPlaceOf, entry_in}
use Rattle.node_log.specs.Logs.{answered}

-- the step that is behind these gets these answers
pub answered_behind : (given : List Answer) (steps : List SeatedEntry) (e : SeatedEntry)
    → steps ++ record e { answers = given } ∷ [] ≡ answered given (steps ++ e ∷ [])
answered_behind given [] e = refl
answered_behind given (x ∷ []) e = refl
answered_behind given (x ∷ y ∷ steps) e = ap (λ (l : List SeatedEntry). x ∷ l) (answered_behind given (y ∷ steps) e)

module _ (node : ℕ) (nodes : List ℕ) (given : List Answer) where
  -- where what is kept last gets these answers, so does the last step
  pub answered_last : (kept : List KeptEntry) (e f : KeptEntry)
      → entry_in node nodes f ≡ record (entry_in node nodes e) { answers = given }
      → map (entry_in node nodes) (kept ++ f ∷ []) ≡ answered given (map (entry_in node nodes) (kept ++ e ∷ []))
  answered_last kept e f same = map-append (entry_in node nodes) kept (f ∷ [])
      ∙ ap (λ (x : SeatedEntry). map (entry_in node nodes) kept ++ x ∷ []) same
      ∙ answered_behind given (map (entry_in node nodes) kept) (entry_in node nodes e)
      ∙ ap (answered given) (sym (map-append (entry_in node nodes) kept (e ∷ [])))

-- where a node is found among these
pub placed : (nodes : List ℕ) (k a : ℕ) → position (λ m. m == a) nodes ≡ Some k → IsPlaceOf nodes k a
placed nodes k a e = let at = position-Some (λ m. m == a) nodes k 0 e in (at.0, eqb-true _ a at.1)
