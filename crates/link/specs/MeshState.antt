-- What a mesh holds, and the protocol's links that it is seen as.
use Rattle.std.specs.Prelude.{ℕ, Bool, false, ◌==◌, ◌+◌, ◌*◌, ◌<◌, ◌≤◌, ◌≡◌, ◌⊎◌, Option, Some, None, List, [], ◌∷◌, if◌then◌else◌, length, slice_index_or, is_some}
use Rattle.std.specs.List.{position}
use Rattle.std.specs.List.Sorted.{IsStrictlyIncreasing}
use Rattle.term.specs.declared.limits.TheConstants.{MOST_NODES}
use Rattle.protocol_model.specs.Links.{Links, is_nil}
use Rattle.link.specs.declared.link_place.LinkPlace.{LinkPlace}

-- the nodes; the links in the order of senders and then of receivers, as many for each sender as there may be nodes; and of
-- each node whether it was closed out
pub record MeshState (L : Type 0) : Type 0 where
  pub nodes : List ℕ
  pub links : List (List L)
  pub closed : List Bool

-- there is room for the most nodes, and they rise
pub record IsWhole {L : Type 0} (h : MeshState L) : Type 0 where
  pub rising : IsStrictlyIncreasing h.nodes
  pub few : length h.nodes ≤ MOST_NODES
  pub links : length h.links ≡ MOST_NODES * MOST_NODES
  pub closed : length h.closed ≡ MOST_NODES

-- the place of a node among these
abbrev pub place : ℕ → List ℕ → Option ℕ
place a nodes = position (λ x. x == a) nodes

-- the node is of the mesh
abbrev pub has : {L : Type 0} → ℕ → MeshState L → Bool
has a h = is_some (place a h.nodes)

-- what is on the link between two places
abbrev pub link_at : {L : Type 0} → Option ℕ → Option ℕ → List (List L) → List L
link_at (Some i) (Some j) links = slice_index_or links (i * MOST_NODES + j) []
link_at (Some i) None links = []
link_at None p links = []

-- the node at this place was closed out
abbrev pub closed_at : Option ℕ → List Bool → Bool
closed_at None flags = false
closed_at (Some i) flags = slice_index_or flags i false

-- what is held, as the protocol's links
abbrev pub seen : {L : Type 0} → MeshState L → Links L
seen h = record {
  queue = λ f t. link_at (place f h.nodes) (place t h.nodes) h.links;
  closed = λ a. closed_at (place a h.nodes) h.closed;
}

-- the node at this place
abbrev pub node_at : {L : Type 0} → ℕ → MeshState L → ℕ
node_at i h = slice_index_or h.nodes i 0

-- the nodes that a link is from and to
abbrev pub from_of : {L : Type 0} → LinkPlace → MeshState L → ℕ
from_of k h = node_at k.sender h

abbrev pub to_of : {L : Type 0} → LinkPlace → MeshState L → ℕ
to_of k h = node_at k.receiver h

-- at both its ends stand nodes of the mesh
abbrev pub IsWithin : {L : Type 0} → LinkPlace → MeshState L → Type 0
IsWithin k h = (k.sender < length h.nodes) × (k.receiver < length h.nodes)

-- one letter, to one node
abbrev pub only_to : {L : Type 0} → ℕ → L → ℕ → List L
only_to t letter x = if x == t then letter ∷ [] else []

-- from the sender at this place, the first receiver's place to which a letter waits
abbrev pub WaitsFrom : {L : Type 0} → ℕ → Option ℕ → MeshState L → Type 0
WaitsFrom i None h = (k : ℕ) → k < length h.nodes → slice_index_or h.links (i * MOST_NODES + k) [] ≡ []
WaitsFrom i (Some j) h = (j < length h.nodes) × (is_nil (slice_index_or h.links (i * MOST_NODES + j) []) ≡ false)
    × ((k : ℕ) → k < j → slice_index_or h.links (i * MOST_NODES + k) [] ≡ [])

-- no letter waits on a link before this one, in the order of senders and then of receivers
abbrev pub IsFirst : {L : Type 0} → ℕ → ℕ → MeshState L → Type 0
IsFirst f t h = (x y : ℕ) → (x < f) ⊎ ((x ≡ f) × (y < t)) → (seen h).queue x y ≡ []

-- the first link on which a letter waits
abbrev pub WaitsFirst : {L : Type 0} → Option (ℕ × ℕ) → MeshState L → Type 0
WaitsFirst None h = (x y : ℕ) → (seen h).queue x y ≡ []
WaitsFirst (Some (f, t)) h = (is_nil ((seen h).queue f t) ≡ false) × IsFirst f t h

-- the same of its place
abbrev pub WaitsFirstOn : {L : Type 0} → Option LinkPlace → MeshState L → Type 0
WaitsFirstOn None h = WaitsFirst None h
WaitsFirstOn (Some k) h = IsWithin k h × WaitsFirst (Some (from_of k h, to_of k h)) h

-- the least node from which a letter waits for this one
abbrev pub WaitsTowards : {L : Type 0} → ℕ → Option ℕ → MeshState L → Type 0
WaitsTowards t None h = (x : ℕ) → (seen h).queue x t ≡ []
WaitsTowards t (Some f) h = (is_nil ((seen h).queue f t) ≡ false) × ((x : ℕ) → x < f → (seen h).queue x t ≡ [])
