-- How a world of named nodes opens.
use Rattle.std.specs.Prelude.{ℕ, ◌==◌, ◌+◌, max, Option, Some, None, find, List, [], ◌∷◌}
use Rattle.std.specs.List.{list_any}
use Rattle.registry_model.specs.Process.{Nodes}
use Rattle.protocol_model.specs.Event.{last_u32}
use Rattle.term.specs.Nodes.{text_in, creation_of}
use Rattle.getting_through.specs.NodeNames.{NamedOpening}

-- above the texts of the names of these nodes
abbrev pub name_bound : List ℕ → ℕ
name_bound [] = 0
name_bound (c ∷ cs) = max (text_in c + 1) (name_bound cs)

-- one of these nodes has this text as its name
abbrev pub is_named_in : List ℕ → Nodes
is_named_in nodes x = list_any (λ m. text_in m == x) nodes

-- a world of these nodes' names, of which the first nodes of those of the cluster are joined
abbrev pub named_opening : List ℕ → List ℕ → NamedOpening
named_opening nodes cluster = record {
  bound = name_bound nodes;
  names = is_named_in nodes;
  cluster = is_named_in cluster;
  last = last_u32;
}

-- the creation of the node of a name, if there is one
abbrev pub creation_in : Option ℕ → ℕ
creation_in None = 1
creation_in (Some c) = creation_of c

-- the present creation of each name, where these nodes are at present
abbrev pub present_in : List ℕ → ℕ → ℕ
present_in nodes x = creation_in (find (λ m. text_in m == x) nodes)
