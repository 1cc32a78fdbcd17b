-- A history with one entry more.
use Rattle.std.proofs.Common.{◌≡◌, List, [], ◌∷◌, ◌++◌}
use Rattle.std.proofs.lemmas.List.Sums.{fold-append}
use Rattle.registry_model.specs.History.{Entry as AnyEntry}
use Rattle.world_history.specs.declared.entry.HistoryEntry.{HistoryEntry}
use Rattle.world_history.specs.Histories.{made_by, left_in, entries_of}

-- it is made behind those before it
pub entered : (es : List HistoryEntry) (e : HistoryEntry)
    → entries_of (es ++ e ∷ []) ≡ entries_of es ++ made_by e (left_in (entries_of es))
entered es e = fold-append (λ (before : List AnyEntry) (e : HistoryEntry). before ++ made_by e (left_in before)) [] es (e ∷ [])
