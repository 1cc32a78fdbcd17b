-- The boss of a set of nodes, by the set's rising list.
use Rattle.std.specs.Prelude.{ℕ, ◌-◌, List, length, take, slice_index}

-- the last of these nodes; 0 where there is none
abbrev pub boss_of : List ℕ → ℕ
boss_of nodes = slice_index nodes (length nodes - 1)

-- all but the last
abbrev pub others_of : List ℕ → List ℕ
others_of nodes = take (length nodes - 1) nodes
