-- How far logs were read.
use Rattle.std.specs.Prelude.{ℕ, Bool, false, ◌≡◌, Option, Some, None, List, length}
use Rattle.std.specs.List.{slice_get}
use Rattle.node_log.specs.Entries.{SeatedEntry, Logged}
use Rattle.replay.specs.declared.merge.Reader.{Reader}
use Rattle.replay.specs.Steps.{Step, steps_of, is_before}

-- what is read next, if an entry is left
abbrev pub head_of : Reader → Option SeatedEntry
head_of r = slice_get r.log.now.entries r.at

-- an entry as a step of the node whose log this is
abbrev pub step_of : Reader → SeatedEntry → Step
step_of r e = record { node = r.log.now.node; entry = e }

-- what is read next here goes before what is read next there
abbrev pub goes_first : Reader → Reader → Bool
goes_first r s =
    elim (head_of r) [
      | None ↦ false
      | Some e ↦ elim (head_of s) [ None ↦ false | Some f ↦ is_before (step_of r e) (step_of s f) ]
    ]

-- the readers of these logs stand behind these steps
pub record StandBehind (logs : List Logged) (ss : List Step) (rs : List Reader) : Type 0 where
  pub long : length rs ≡ length logs
  pub reads : (k : ℕ) (r : Reader) → slice_get rs k ≡ Some r → slice_get logs k ≡ Some r.log.now
  pub at : (k : ℕ) (r : Reader) → slice_get rs k ≡ Some r → r.at ≡ length (steps_of r.log.now.node ss)
