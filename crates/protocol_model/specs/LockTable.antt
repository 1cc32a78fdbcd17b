-- The lock table of one node. Each resource is under one requester, whose holders are counted.
use Rattle.std.specs.Prelude.{ℕ, Bool, not, ◌&&◌, ◌==◌, ◌+◌, ◌-◌, nat_lt, Option, Some, None, is_none, find, filter, List, [], ◌∷◌, if◌then◌else◌}
use Rattle.registry_model.specs.Process.{Process, is_process}
use Rattle.protocol_model.specs.Letter.{Id, is_id, is_resource}

-- a holder has a lock this often, at least once
pub record Grant : Type 0 where
  pub id : Id
  pub holder : Process
  pub count : ℕ

-- in the order of the first grants
abbrev pub Locks : Type 0
Locks = List Grant

-- the grant is of this id and holder
abbrev pub is_grant_of : Id → Process → Grant → Bool
is_grant_of id p g = is_id g.id id && is_process g.holder p

-- how often p has the lock
abbrev pub count : Id → Process → Locks → ℕ
count id p [] = 0
count id p (g ∷ t) = if is_grant_of id p g then g.count else count id p t

-- the greatest count of one holder
abbrev pub last_count : ℕ
last_count = 4294967295

-- the grant is another requester's of the same resource
abbrev pub is_in_the_way : Id → Grant → Bool
is_in_the_way id g = is_resource g.id id && not (is_id g.id id)

-- the grant that stands in the way, else the own one at its greatest count
abbrev pub refused_by : Id → Process → Locks → Option Grant → Option Id
refused_by id p t (Some g) = Some g.id
refused_by id p t None = if nat_lt (count id p t) last_count then None else Some id

-- whose lock keeps p from one more grant, if any does
abbrev pub refused_for : Id → Process → Locks → Option Id
refused_for id p t = refused_by id p t (find (is_in_the_way id) t)

-- p may have one more grant
abbrev pub is_free_for : Id → Process → Locks → Bool
is_free_for id p t = is_none (refused_for id p t)

-- one grant more
abbrev pub grant : Id → Process → Locks → Locks
grant id p [] = record { id = id; holder = p; count = 1 } ∷ []
grant id p (g ∷ t) = if is_grant_of id p g then record g { count = g.count + 1 } ∷ t else g ∷ grant id p t

-- one grant less, where there is one
abbrev pub give_back : Id → Process → Locks → Locks
give_back id p [] = []
give_back id p (g ∷ t) =
    if is_grant_of id p g
    then (if nat_lt 1 g.count then record g { count = g.count - 1 } ∷ t else t)
    else g ∷ give_back id p t

-- all grants of p are gone
abbrev pub drop_holder : Process → Locks → Locks
drop_holder p t = filter (λ g. not (is_process g.holder p)) t

-- all grants of processes of d are gone
abbrev pub drop_node : ℕ → Locks → Locks
drop_node d t = filter (λ g. not (g.holder.node == d)) t
