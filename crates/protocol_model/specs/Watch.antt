-- The watch of one node over its processes: who was spawned, who is dead, and whose names are owed a strike.
use Rattle.std.specs.Prelude.{ℕ, Bool, zero, suc, not, ◌&&◌, ◌==◌, ◌+◌, nat_lt, Option, Some, None, length, List, [], ◌∷◌, ◌++◌, if◌then◌else◌}
use Rattle.std.specs.List.{list_any}
use Rattle.registry_model.specs.Process.{Process}
use Rattle.registry_model.specs.Table.{Table, owns}

pub record Watch : Type 0 where
  pub last_serial : ℕ  -- the greatest serial given
  pub dead : List ℕ  -- the serials of the dead

-- nobody was spawned yet
abbrev pub nobody_yet : Watch
nobody_yet = record { last_serial = 0; dead = [] }

-- the process of this serial is dead
abbrev pub is_dead : Watch → ℕ → Bool
is_dead watch s = list_any (λ d. d == s) watch.dead

-- p is a live process of node a; a serial that wasn't given yet counts as live
abbrev pub is_live : ℕ → Watch → Process → Bool
is_live a watch p = (p.node == a) && not (p.serial == 0) && not (is_dead watch p.serial)

-- p is a process of node a whose serial, or a greater one, was given
abbrev pub is_issued : ℕ → Watch → Process → Bool
is_issued a watch p = (p.node == a) && not (p.serial == 0) && not (nat_lt watch.last_serial p.serial)

-- the least serial from s on that isn't dead; it is at most as far off as there are dead ones
abbrev pub first_live : ℕ → Watch → ℕ → ℕ
first_live zero watch s = s
first_live (suc most) watch s = if is_dead watch s then first_live most watch (s + 1) else s

-- the serial that is spawned next: the least above all given ones that isn't dead
abbrev pub next_serial : Watch → ℕ
next_serial watch = first_live (length watch.dead) watch (watch.last_serial + 1)

-- the serial is given
abbrev pub with_spawned : ℕ → Watch → Watch
with_spawned s watch = record watch { last_serial = s }

-- the process of this serial is dead from now on
abbrev pub with_dead : ℕ → Watch → Watch
with_dead s watch = record watch { dead = watch.dead ++ s ∷ [] }

-- the lesser of a serial and another, if there is another
abbrev pub lesser : ℕ → Option ℕ → ℕ
lesser s None = s
lesser s (Some t) = if nat_lt t s then t else s

-- the least of these serials that owns a name at node a
abbrev pub least_owner : ℕ → Table → List ℕ → Option ℕ
least_owner a t [] = None
least_owner a t (s ∷ ss) =
    if owns (record { node = a; serial = s }) t then Some (lesser s (least_owner a t ss)) else least_owner a t ss

-- the least dead serial of node a that owns a name: its strike is owed
abbrev pub owed : ℕ → Table → Watch → Option ℕ
owed a t watch = least_owner a t watch.dead
