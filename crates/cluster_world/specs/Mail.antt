-- What is on the links of a world, and what was sent and isn't there yet.
use Rattle.std.specs.Prelude.{ℕ, true, ◌==◌, ◌≡◌, ◌≤◌, Option, Some, List, [], map, filter, AllPairs, IfSome, if◌then◌else◌}
use Rattle.std.specs.List.{All}
use Rattle.protocol_model.specs.Links.{Links}
use Rattle.term.specs.Nodes.{name_of}
use Rattle.term.specs.NodeSets.{set_of, with_older}
use Rattle.link.specs.MeshState.{MeshState, place, seen as on_mesh}
use Rattle.node_core.specs.CoreState.{HaveLeft}
use Rattle.node_core.specs.declared.Letter.{Letter}
use Rattle.cluster_world.specs.Links.{SentLetter, Unsent, with_unsent}

-- the nodes at present, of each name the last node that has left, the links between the names, and letters that aren't there yet
pub record Mailed : Type 0 where
  pub nodes : List ℕ
  pub departed : List ℕ
  pub mesh : MeshState SentLetter
  pub unsent : Option Unsent

-- of the letters of a name, those of node f
abbrev pub letters_of : ℕ → List SentLetter → List Letter
letters_of f ss = map (λ s. s.letter) (filter (λ s. s.sender == f) ss)

-- the links between nodes: for a node at present waits what stands on the links towards its name, and for others nothing does
abbrev pub on_links : Mailed → Links Letter
on_links m = record {
  queue = λ f t. if set_of m.nodes t then letters_of f ((on_mesh m.mesh).queue (name_of f) (name_of t)) else [];
  closed = with_older m.departed;
}

-- the same with all that was sent
abbrev pub links_of : Mailed → Links Letter
links_of m = with_unsent m.unsent (on_links m)

-- these letters are of a node at present, to nodes that have started
pub record AreOwn (nodes : List ℕ) (u : Unsent) : Type 0 where
  pub sender : place u.sender nodes ≡ Some u.place
  pub letters : All (λ s. with_older nodes s.0 ≡ true) u.letters

-- The letters on the link from a name are of nodes of it that have started, and those of older ones come first; on links towards a name
-- whose node has left there are none
pub record IsSound (m : Mailed) : Type 0 where
  pub left : HaveLeft m.nodes m.departed
  pub names : m.mesh.nodes ≡ map name_of m.nodes
  pub closed : (t : ℕ) → set_of m.nodes t ≡ true → (on_mesh m.mesh).closed (name_of t) ≡ with_older m.departed t
  pub quiet : (x y : ℕ) → (on_mesh m.mesh).closed y ≡ true → (on_mesh m.mesh).queue x y ≡ []
  pub named : (x y : ℕ) → All (λ s. (name_of s.sender ≡ x) × (with_older m.nodes s.sender ≡ true)) ((on_mesh m.mesh).queue x y)
  pub rise : (x y : ℕ) → AllPairs (λ s t. s.sender ≤ t.sender) ((on_mesh m.mesh).queue x y)
  pub own : IfSome m.unsent (AreOwn m.nodes)
