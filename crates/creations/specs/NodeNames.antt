-- Nodes by name and creation. A node name can come back: then its next node starts, of the next creation. A node is one number, made of
-- its name and its creation, so that all that is said of nodes is said of these.
-- x and y are node names, c and d creations, of which the first is 1, n is a node.
use Rattle.std.specs.Prelude.{ℕ, zero, suc, ◌==◌, ◌≡◌, ◌<◌, ◌≤◌, ◌+◌, ◌-◌, ◌*◌, ◌/◌, ◌%◌, ◌^◌, ◌&&◌, ◌⊎◌, ◌↔◌, nat_lt, map, List, [], ◌∷◌, ◌++◌}
use Rattle.registry_model.specs.Process.{Nodes}
use Rattle.protocol_model.specs.Node.{Target, Named}
use Rattle.protocol_model.specs.Event.{last_u32}
use Rattle.protocol_model.specs.World.{Opening, in_world, in_cluster}

-- how a world of named nodes opens: its node names, all below a bound, and which of them have a node in the cluster at first
pub record NamedOpening : Type 0 where
  pub bound : ℕ
  pub names : Nodes
  pub cluster : Nodes
  pub last : ℕ  -- the greatest creation of a name

module _ (o : NamedOpening) where
  -- x is a name of the world
  abbrev pub is_name : Nodes
  is_name x = nat_lt x o.bound && o.names x

  -- how many numbers each name has
  abbrev pub span : ℕ
  span = o.last + 1

  -- the node of this name and creation
  abbrev pub node_of : ℕ → ℕ → ℕ
  node_of x c = x * span + (c - 1)

  abbrev pub name_of : ℕ → ℕ
  name_of n = n / span

  abbrev pub creation_of : ℕ → ℕ
  creation_of n = n % span + 1

  -- the nodes of x of the first k creations, rising
  abbrev pub first_nodes : ℕ → ℕ → List ℕ
  first_nodes x zero = []
  first_nodes x (suc k) = first_nodes x k ++ node_of x (suc k) ∷ []

  -- the nodes of x of all creations, rising
  abbrev pub nodes_of_name : ℕ → List ℕ
  nodes_of_name x = first_nodes x o.last

  -- what a lock call asks that names these names: at each try the members that have one of them then, of whatever creation
  abbrev pub named_target : List ℕ → Target
  named_target xs = Named (map nodes_of_name xs)

  -- its nodes are those of all creations: the first ones of the cluster are joined, and all others are lone
  abbrev pub opening_of : Opening
  opening_of = record {
    bound = o.bound * span;
    nodes = λ n. o.names (name_of n);
    cluster = λ n. o.cluster (name_of n) && (creation_of n == 1);
  }

  -- a name has a number for c: for each creation, and one more, which is that of none
  pub record HasNumber (c : ℕ) : Type 0 where
    pub first : 1 ≤ c
    pub last : c ≤ span

  -- a name and a creation are one number, and each number is that of one name and one creation
  pub record AreNumbers : Type 0 where
    pub name : (x c : ℕ) → HasNumber c → name_of (node_of x c) ≡ x
    pub creation : (x c : ℕ) → HasNumber c → creation_of (node_of x c) ≡ c
    pub node : (n : ℕ) → node_of (name_of n) (creation_of n) ≡ n
    pub some : (n : ℕ) → HasNumber (creation_of n)
    -- they rise by name, then creation
    pub rise : (x y c d : ℕ) → HasNumber c → HasNumber d →
        (node_of x c < node_of y d) ↔ ((x < y) ⊎ ((x ≡ y) × (c < d)))
    -- the nodes of the world are those of its names, and in the cluster are their first ones
    pub inside : (n : ℕ) → in_world opening_of n ≡ is_name (name_of n)
    pub joined : (n : ℕ) → in_cluster opening_of n ≡ (is_name (name_of n) && (o.cluster (name_of n) && (creation_of n == 1)))

-- so it is for every opening
abbrev pub NumbersAreExact : Type 0
NumbersAreExact = (o : NamedOpening) → AreNumbers o

-- where creations are as many as the program has
abbrev pub NumbersAreThoseOfTheProgram : Type 0
NumbersAreThoseOfTheProgram = (o : NamedOpening) → o.last ≡ last_u32 → (x c : ℕ) → node_of o x c ≡ x * 2 ^ 32 + (c - 1)
