-- Logs merged into one list of steps.
use Rattle.std.specs.Prelude.{ℕ, zero, suc, true, false, ◌<◌, ◌≡◌, Some, List, [], ◌∷◌, length}
use Rattle.std.specs.List.{slice_get}
use Rattle.node_log.specs.Entries.{SeatedEntry, Logged}
use Rattle.replay.specs.Steps.{Step, steps_of, log_of, next_of, is_before}

-- each step is before the next
abbrev pub IsInOrder : List Step → Type 0
IsInOrder [] = Unit {0}
IsInOrder (s ∷ []) = Unit {0}
IsInOrder (s ∷ t ∷ ss) = (is_before s t ≡ true) × IsInOrder (t ∷ ss)

-- in order, each node's steps are those of its log, and there are no others
pub record IsMerged (logs : List Logged) (ss : List Step) : Type 0 where
  pub order : IsInOrder ss
  pub whole : (a : ℕ) → steps_of a ss ≡ log_of a logs

-- behind these steps this one comes next: it is the next of its node's log, and no log has an earlier one
pub record IsNext (logs : List Logged) (ss : List Step) (s : Step) : Type 0 where
  pub head : next_of s.node logs ss ≡ Some s.entry
  pub least : (t : Step) → next_of t.node logs ss ≡ Some t.entry → is_before t s ≡ false

-- the stamp of entry k of this log is above that of the entry before it, if there is one
abbrev pub Rises : List SeatedEntry → ℕ → Type 0
Rises es zero = Unit {0}
Rises es (suc k) = (d e : SeatedEntry) → slice_get es k ≡ Some d → slice_get es (suc k) ≡ Some e → d.stamp < e.stamp

-- behind these steps the stamp of this one rises in its log
abbrev pub RisesBehind : List Logged → List Step → Step → Type 0
RisesBehind logs ss s = Rises (log_of s.node logs) (length (steps_of s.node ss))
