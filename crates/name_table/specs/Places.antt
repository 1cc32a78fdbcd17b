-- Where a name stands in a table.
use Rattle.std.specs.Prelude.{ℕ, suc, Bool, false, ◌==◌, nat_lt, Option, Some, None, [], ◌∷◌, if◌then◌else◌}
use Rattle.std.specs.List.{slice_get}
use Rattle.registry_model.specs.Process.{Text}
use Rattle.registry_model.specs.Table.{Pair, Table}

-- how many names are less
abbrev pub place : Text → Table → ℕ
place x [] = 0
place x (e ∷ t) = if nat_lt e.name x then suc (place x t) else 0

-- it is this pair's name
abbrev pub is_name_of : Text → Option Pair → Bool
is_name_of x None = false
is_name_of x (Some e) = e.name == x

-- the name stands at place i
abbrev pub stands : Text → Table → ℕ → Bool
stands x t i = is_name_of x (slice_get t i)
