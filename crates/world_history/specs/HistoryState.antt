-- What a history holds.
use Rattle.std.specs.Prelude.{ℕ, List}
use Rattle.world_history.specs.declared.entry.HistoryEntry.{HistoryEntry}

-- its entries, the oldest first, and for how many more there is room
pub record HistoryState : Type 0 where
  pub entries : List HistoryEntry
  pub room : ℕ
