-- What lock calls ask for, and which of them are in each other's way.
use Rattle.std.specs.Prelude.{ℕ, Bool, not, ◌==◌, ◌&&◌, List}
use Rattle.std.specs.List.{list_any}
use Rattle.term.specs.NodeSets.{set_of}
use Rattle.lock_lines.specs.declared.request.Request.{Request}

-- two sets have a node in common
abbrev pub meet : List ℕ → List ℕ → Bool
meet some others = list_any (λ n. set_of others n) some

-- it asks for this resource at one of these nodes
abbrev pub asks_for : ℕ → List ℕ → Request → Bool
asks_for resource nodes r = (r.id.resource == resource) && meet r.nodes nodes

-- both can't be granted at once: one resource, two requesters, a common node
abbrev pub are_rivals : Request → Request → Bool
are_rivals r s = (r.id.resource == s.id.resource) && (not (r.id.requester == s.id.requester)) && meet r.nodes s.nodes

-- one resource, one requester, a common node
abbrev pub is_for_more : Request → Request → Bool
is_for_more r s = (r.id.resource == s.id.resource) && (r.id.requester == s.id.requester) && meet r.nodes s.nodes
