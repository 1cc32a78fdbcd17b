-- What waits in a tray.
use Rattle.std.specs.Prelude.{ℕ, Bool, ◌==◌, Option, Some, None, is_some, map, List, [], ◌∷◌, ◌++◌, slice_set, slice_index_or, if◌then◌else◌}
use Rattle.std.specs.List.{position}

-- the letters for one receiver, the oldest first
pub record Waiting (L : Type 0) : Type 0 where
  pub receiver : ℕ
  pub letters : List L

-- no letter for this node
abbrev pub none_for : {L : Type 0} → ℕ → Waiting L
none_for a = record { receiver = a; letters = [] }

-- the place of a receiver among these
abbrev pub place : {L : Type 0} → ℕ → List (Waiting L) → Option ℕ
place to slots = position (λ w. w.receiver == to) slots

-- there is a list for letters to this node
abbrev pub has : {L : Type 0} → ℕ → List (Waiting L) → Bool
has to slots = is_some (place to slots)

-- a letter more, behind the others
abbrev pub longer : {L : Type 0} → L → Waiting L → Waiting L
longer letter w = record w { letters = w.letters ++ letter ∷ [] }

-- so at this place
abbrev pub longer_at : {L : Type 0} → Option ℕ → L → List (Waiting L) → List (Waiting L)
longer_at None letter slots = slots
longer_at (Some k) letter slots = slice_set slots k (longer letter (slice_index_or slots k (none_for 0)))

-- a letter more to this node, behind the others
abbrev pub with_letter : {L : Type 0} → ℕ → L → List (Waiting L) → List (Waiting L)
with_letter to letter slots = longer_at (place to slots) letter slots

-- the list for one receiver is for another now, and none waits in it
abbrev pub renewed_where : {L : Type 0} → ℕ → ℕ → Waiting L → Waiting L
renewed_where older next w = if w.receiver == older then none_for next else w

abbrev pub renewed : {L : Type 0} → ℕ → ℕ → List (Waiting L) → List (Waiting L)
renewed older next slots = map (renewed_where older next) slots
