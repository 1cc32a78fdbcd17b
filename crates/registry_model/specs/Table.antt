-- Tables: finite maps from names to processes, each with a rule. A table lists its names once each, rising, so each map is one list.
use Rattle.std.specs.Prelude.{Bool, true, not, ◌&&◌, ◌==◌, nat_lt, Option, Some, None, List, [], ◌∷◌, map, filter, fold, if◌then◌else◌}
use Rattle.std.specs.List.{list_any}
use Rattle.registry_model.specs.Process.{Text, Process, is_process, Nodes}

-- what becomes of a name when a lone node joins that has it too, for another process: the rule of the cluster's pair decides
pub data Rule : Type 0 where
  Exit : Rule  -- the process on the lesser node has it, and the other dies
  Notify : Rule  -- the process on the lesser node has it, and the other is sent a notice
  NotifyAll : Rule  -- nobody has it, and both are sent notices

-- a name, its owner, and the rule for a clash
pub record Pair : Type 0 where
  pub name : Text
  pub owner : Process
  pub rule : Rule

-- rising strictly by name
abbrev pub Table : Type 0
Table = List Pair

-- the name stands before all names of the table
abbrev pub is_below : Text → Table → Bool
is_below x [] = true
is_below x (pair ∷ t) = nat_lt x pair.name

-- the names rise strictly
abbrev pub is_rising : Table → Bool
is_rising [] = true
is_rising (pair ∷ t) = is_below pair.name t && is_rising t

-- who has the name
abbrev pub get : Text → Table → Option Process
get x [] = None
get x (pair ∷ t) = if pair.name == x then Some pair.owner else get x t

-- the pair that stands under the name
abbrev pub entry : Text → Table → Option Pair
entry x [] = None
entry x (pair ∷ t) = if pair.name == x then Some pair else entry x t

-- the pair stands under its name, and no other does
abbrev pub put : Pair → Table → Table
put new [] = new ∷ []
put new (pair ∷ t) =
    if pair.name == new.name
    then new ∷ t
    else (if nat_lt new.name pair.name then new ∷ pair ∷ t else pair ∷ put new t)

-- each of these pairs is put, in order
abbrev pub put_all : Table → Table → Table
put_all pairs t = fold (λ u pair. put pair u) t pairs

-- nobody has the name x
abbrev pub remove : Text → Table → Table
remove x t = filter (λ pair. not (pair.name == x)) t

-- nobody has these names
abbrev pub remove_all : List Text → Table → Table
remove_all xs t = fold (λ u x. remove x u) t xs

-- p has no name
abbrev pub strike : Process → Table → Table
strike p t = filter (λ pair. not (is_process pair.owner p)) t

-- the names whose owners aren't on these nodes
abbrev pub without : Nodes → Table → Table
without gone t = filter (λ pair. not (gone pair.owner.node)) t

-- whether p has a name
abbrev pub owns : Process → Table → Bool
owns p t = list_any (λ pair. is_process pair.owner p) t

-- all names, rising
abbrev pub names : Table → List Text
names t = map (λ pair. pair.name) t

-- a change of a table
pub data Change : Type 0 where
  Put : (pair : Pair) → Change
  Remove : (name : Text) → Change
  StrikeOwner : (owner : Process) → Change

-- the table after a change
abbrev pub changed : Change → Table → Table
changed (Put pair) t = put pair t
changed (Remove x) t = remove x t
changed (StrikeOwner p) t = strike p t
