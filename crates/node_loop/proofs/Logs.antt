-- The step that was logged last gets its answers.
use Rattle.std.proofs.Common.{◌≡◌, List, [], ◌∷◌, ◌++◌, refl, ap}
use Rattle.node_log.specs.declared.Answer.{Answer}
use Rattle.node_log.specs.Entries.{SeatedEntry}
use Rattle.node_log.specs.Logs.{answered}

pub answered_last : (answers : List Answer) (es : List SeatedEntry) (e : SeatedEntry)
    → answered answers (es ++ e ∷ []) ≡ es ++ record e { answers = answers } ∷ []
answered_last answers [] e = refl
answered_last answers (x ∷ []) e = refl
answered_last answers (x ∷ y ∷ es) e = ap (λ (l : List SeatedEntry). x ∷ l) (answered_last answers (y ∷ es) e)
