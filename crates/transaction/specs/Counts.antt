-- How often a holder has a lock, by the replies to its calls.
use Rattle.std.specs.Prelude.{ℕ, ◌+◌, ◌-◌, ◌==◌, ◌&&◌, Bool, if◌then◌else◌, List, [], ◌∷◌, Result, Ok, Err}
use Rattle.term.specs.declared.lock_id.LockId.{LockId}
use Rattle.transaction.specs.declared.reply.LockReply.{LockReply}
use Rattle.transaction.specs.declared.reply.LockReply.TheVariants.{Set, Deleted}

-- whether two ids are one
abbrev pub is_lock : LockId → LockId → Bool
is_lock i j = (i.resource == j.resource) && (i.requester == j.requester)

-- a reply to the holder: one more for a grant of this lock, one less, or still 0, for a deletion
abbrev pub recount : LockId → LockReply → ℕ → ℕ
recount id (Set lock granted) n = if is_lock lock id && granted then n + 1 else n
recount id (Deleted lock) n = if is_lock lock id then n - 1 else n

-- the count behind these replies, where it was `n` before
abbrev pub count_after : LockId → ℕ → List LockReply → ℕ
count_after id n [] = n
count_after id n (reply ∷ replies) = count_after id (recount id reply n) replies

-- how often the holder has the lock
abbrev pub count_of : LockId → List LockReply → ℕ
count_of id replies = count_after id 0 replies

-- the replies that a call gets: one, or none where it ends with a fault
abbrev pub set_replies : {E : Type 0} → LockId → Result Bool E → List LockReply
set_replies id (Ok granted) = Set id granted ∷ []
set_replies id (Err fault) = []

abbrev pub deletion_replies : {E : Type 0} → LockId → Result Unit E → List LockReply
deletion_replies id (Ok _) = Deleted id ∷ []
deletion_replies id (Err fault) = []
