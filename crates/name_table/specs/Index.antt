-- An index from processes to their names, beside a map from names to what stands under them.
use Rattle.std.specs.Prelude.{◌≡◌, ◌<◌, Bool, false, not, ◌&&◌, ◌||◌, ◌==◌, Option, Some, None, List, [], ◌∷◌, length, map, if◌then◌else◌}
use Rattle.std.specs.Map.{lookup}
use Rattle.std.specs.Ordering.{nat_cmp}
use Rattle.std.specs.BTreeSet.{BTreeSet, contains}
use Rattle.registry_model.specs.Process.{Text, Process, is_process}
use Rattle.registry_model.specs.Table.{Pair, Table, put}
use Rattle.term.specs.Rules.{rule_of}
use Rattle.name_table.specs.declared.change.Registration.{Registration}

-- what stands under each name, in any order
abbrev pub Owners : Type 0
Owners = List (Text × Registration)

-- the names of each process, in any order
abbrev pub Owned : Type 0
Owned = List (Process × BTreeSet Text)

-- what stands under the name
abbrev pub standing : Text → Owners → Option Registration
standing x owners = lookup (λ y. x == y) owners

-- the owner in what stands under a name
abbrev pub owner_under : Option Registration → Option Process
owner_under None = None
owner_under (Some e) = Some e.owner

-- who owns the name
abbrev pub owner_of : Text → Owners → Option Process
owner_of x owners = owner_under (standing x owners)

-- the names that are listed under p
abbrev pub names_of : Process → Owned → Option (BTreeSet Text)
names_of p owned = lookup (is_process p) owned

-- a name and what stands under it as a pair
abbrev pub pair_of : Text × Registration → Pair
pair_of e = record { name = e.0; owner = e.1.owner; rule = rule_of e.1.rule }

-- the table of these names and what stands under them
abbrev pub table_of : Owners → Table
table_of [] = []
table_of (e ∷ es) = put (pair_of e) (table_of es)

-- the pairs of these names and what stands under them, in this order
abbrev pub pairs_of : Owners → Table
pairs_of owners = map pair_of owners

-- p is this owner
abbrev pub is_owner : Process → Option Process → Bool
is_owner p None = false
is_owner p (Some q) = is_process q p

-- the name is one of these
abbrev pub is_among : Text → Option (BTreeSet Text) → Bool
is_among x None = false
is_among x (Some names) = contains nat_cmp names x

-- the name is listed under p
abbrev pub is_listed : Text → Process → Owned → Bool
is_listed x p owned = is_among x (names_of p owned)

-- no process is listed without names
abbrev pub HaveNames : Owned → Type 0
HaveNames owned = (p : Process) (names : BTreeSet Text) → names_of p owned ≡ Some names → 0 < length names.keys

-- a name is listed under a process exactly where the process owns it, and no process is listed without names
pub record Agrees (owners : Owners) (owned : Owned) : Type 0 where
  pub same : (x : Text) (p : Process) → is_listed x p owned ≡ is_owner p (owner_of x owners)
  pub named : HaveNames owned

-- the name is listed under p too, and all others as before
abbrev pub Lists : Process → Text → Owned → Owned → Type 0
Lists p x old new = (y : Text) (q : Process) → is_listed y q new ≡ ((is_process p q && (x == y)) || is_listed y q old)

-- the name is listed under p no more, and all others as before
abbrev pub Unlists : Process → Text → Owned → Owned → Type 0
Unlists p x old new = (y : Text) (q : Process) →
    is_listed y q new ≡ (not (is_process p q && (x == y)) && is_listed y q old)

-- nothing stands under these names, and under each other name what stood there
abbrev pub Forgets : BTreeSet Text → Owners → Owners → Type 0
Forgets names old new = (y : Text) → standing y new ≡ (if contains nat_cmp names y then None else standing y old)

-- the set has this name too, and all others as before
abbrev pub Gains : Text → BTreeSet Text → BTreeSet Text → Type 0
Gains x old new = (y : Text) → contains nat_cmp new y ≡ ((x == y) || contains nat_cmp old y)

-- the set has this name no more, and all others as before
abbrev pub Loses : Text → BTreeSet Text → BTreeSet Text → Type 0
Loses x old new = (y : Text) → contains nat_cmp new y ≡ (not (x == y) && contains nat_cmp old y)
