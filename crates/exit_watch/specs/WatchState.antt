-- What a watch holds, and which of the dead it has to look at.
use Rattle.std.specs.Prelude.{◌≡◌, ℕ, Bool, true, not, ◌&&◌, ◌==◌, nat_lt, Option, Some, None, List, [], if◌then◌else◌}
use Rattle.std.specs.List.{list_any}
use Rattle.registry_model.specs.Process.{Process}
use Rattle.registry_model.specs.Table.{Table, owns}
use Rattle.protocol_model.specs.Watch.{Watch, is_dead, is_live, with_dead, next_serial}
use Rattle.protocol_model.specs.Event.{last_u32}

-- a watch, as its clauses see it
pub record WatchState : Type 0 where
  pub node : ℕ
  pub watch : Watch  -- the protocol's
  pub suspects : List ℕ  -- the serials of the dead that may own a name, rising

-- the watch of this node: the serials up to the last are given, and nobody is dead
abbrev pub watch_from : ℕ → ℕ → WatchState
watch_from a last = record { node = a; watch = record { last_serial = last; dead = [] }; suspects = [] }

-- the next serial, where it is no greater than the greatest of all
abbrev pub serial_left : Watch → Option ℕ
serial_left w = if nat_lt last_u32 (next_serial w) then None else Some (next_serial w)

-- the process of this node that has this serial
abbrev pub process_of : WatchState → ℕ → Process
process_of h s = record { node = h.node; serial = s }

-- p is killed: it is dead from now on, if it was live at node a
abbrev pub with_killed : ℕ → Process → Watch → Watch
with_killed a p w = if is_live a w p then with_dead p.serial w else w

-- the process of this serial is a suspect
abbrev pub is_suspect : WatchState → ℕ → Bool
is_suspect h s = list_any (λ d. d == s) h.suspects

-- p is a dead process of this node, and no suspect
abbrev pub is_unnoted : WatchState → Process → Bool
is_unnoted h p = (p.node == h.node) && (is_dead h.watch p.serial && not (is_suspect h p.serial))

-- each dead process of this node that owns a name is a suspect
abbrev pub AreSuspected : WatchState → Table → Type 0
AreSuspected h t = (s : ℕ) → is_dead h.watch s ≡ true → owns (process_of h s) t ≡ true → is_suspect h s ≡ true

-- each suspect is dead
abbrev pub AreDead : WatchState → Type 0
AreDead h = (s : ℕ) → is_suspect h s ≡ true → is_dead h.watch s ≡ true

-- in each table whose dead owners are all suspects of the one watch, they are all suspects of the other
abbrev pub KeepsSuspects : WatchState → WatchState → Type 0
KeepsSuspects h k = (t : Table) → AreSuspected h t → AreSuspected k t
