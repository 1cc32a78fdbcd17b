-- Sets of nodes, as the program holds them: the list of their nodes, rising.
use Rattle.std.specs.Prelude.{◌≡◌, ℕ, false, not, nat_lt, nat_le, ◌==◌, ◌≤◌, ◌&&◌, List, ◌∷◌, ◌++◌, length, filter, map, if◌then◌else◌}
use Rattle.std.specs.List.{All, list_any}
use Rattle.std.specs.List.Sorted.{IsStrictlyIncreasing}
use Rattle.registry_model.specs.Process.{Nodes}
use Rattle.term.specs.declared.faults.TextFault.{TextFault}
use Rattle.term.specs.declared.faults.TextFault.TheVariants.{TooManyNodes}
use Rattle.term.specs.Nodes.{IsFirst, name_of}
use Rattle.term.specs.declared.limits.TheConstants.{MOST_NODES}

-- the nodes are listed as a set is: rising, and not too many
pub record IsNodeSet (nodes : List ℕ) : Type 0 where
  pub rising : IsStrictlyIncreasing nodes
  pub fits : length nodes ≤ MOST_NODES

-- the names are listed as a set of names is: as nodes are, and each is the first of its name
pub record IsNameSet (names : List ℕ) : Type 0 where
  pub nodes : IsNodeSet names
  pub first : All IsFirst names

-- the set of the nodes listed
abbrev pub set_of : List ℕ → Nodes
set_of nodes = λ c. list_any (λ m. m == c) nodes

-- the set of the names of the nodes listed
abbrev pub names_in : List ℕ → Nodes
names_in nodes = λ x. list_any (λ m. name_of m == x) nodes

-- the nodes listed, and all that are older than one of them: of the same name, and of an earlier creation
abbrev pub with_older : List ℕ → Nodes
with_older nodes = λ c. list_any (λ m. (name_of m == name_of c) && nat_le c m) nodes

-- the nodes listed, where the younger one stands for the older one
abbrev pub succeeded : ℕ → ℕ → List ℕ → List ℕ
succeeded older younger nodes = map (λ c. if c == older then younger else c) nodes

-- the rising list of these nodes and one more, or of these alone where it is one of them
abbrev pub with_node : List ℕ → ℕ → List ℕ
with_node nodes c = filter (λ m. nat_lt m c) nodes ++ c ∷ filter (λ m. nat_lt c m) nodes

-- the list of the other nodes
abbrev pub without_node : List ℕ → ℕ → List ℕ
without_node nodes c = filter (λ m. not (m == c)) nodes

-- the set has no room for the node: it is full, and the node is none of it
pub record HasNoRoom (nodes : List ℕ) (c : ℕ) (fault : TextFault) : Type 0 where
  pub is : fault ≡ TooManyNodes
  pub full : length nodes ≡ MOST_NODES
  pub other : set_of nodes c ≡ false
