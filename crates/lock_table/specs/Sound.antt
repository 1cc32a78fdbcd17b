-- What is always so of a lock table.
use Rattle.std.specs.Prelude.{◌≡◌, ◌≤◌, true, false, All, AllPairs}
use Rattle.protocol_model.specs.Letter.{is_id, is_resource}
use Rattle.protocol_model.specs.LockTable.{Locks, is_grant_of, last_count}

-- each resource is under one requester, no id and holder are listed twice, and each count is 1 to the greatest
pub record IsSound (t : Locks) : Type 0 where
  pub one_requester : AllPairs (λ g h. is_resource g.id h.id ≡ true → is_id g.id h.id ≡ true) t
  pub listed_once : AllPairs (λ g h. is_grant_of h.id h.holder g ≡ false) t
  pub counted : All (λ g. (1 ≤ g.count) × (g.count ≤ last_count)) t
