-- Work under a lock.
use Rattle.std.specs.Prelude.{Bool, true, false, Result, Ok, Err}
use Rattle.transaction.specs.declared.transact.Outcome.{Outcome}
use Rattle.transaction.specs.declared.transact.Outcome.TheVariants.{Done, Aborted}
use Rattle.transaction.specs.declared.transact.TransFault.{TransFault}
use Rattle.transaction.specs.declared.transact.TransFault.TheVariants.{Set, Del}

-- the lock was granted, and then the function was called once and gave `x`; it left such a seat
abbrev pub Works : {S T E : Type 0} → (Result Bool E → S → Type 0) → (S → T → S → Type 0) → T → S → Type 0
Works {S = S} sets calls x left = (held : S) × sets (Ok true) held × calls held x left

-- One call set the lock, and what it answered decides: `sets` and `deletes` tell what a call answers and leaves, `calls` what
-- the function gives and leaves. Behind the function one call deleted the lock.
abbrev pub IsTransaction : {S T E : Type 0} → (sets : Result Bool E → S → Type 0) → (calls : S → T → S → Type 0)
    → (deletes : S → Result Unit E → S → Type 0) → (end : S) → Result (Outcome T) (TransFault T E) → Type 0
IsTransaction {S = S} sets calls deletes end (Ok (Done x)) = (left : S) × Works sets calls x left × deletes left (Ok tt) end
IsTransaction sets calls deletes end (Ok Aborted) = sets (Ok false) end
IsTransaction sets calls deletes end (Err (Set fault)) = sets (Err fault) end
IsTransaction {S = S} sets calls deletes end (Err (Del fault x)) = (left : S) × Works sets calls x left × deletes left (Err fault) end
