-- What a node's end of a mesh does to it.
use Rattle.std.specs.Prelude.{ℕ, true, ◌≡◌, Some, None}
use Rattle.std.specs.List.{slice_get}
use Rattle.std.specs.Borrow.{GName}
use Rattle.protocol_model.specs.Links.{posted, taken}
use Rattle.link.specs.declared.faults.LinkFault.{LinkFault}
use Rattle.link.specs.declared.mesh_end.MeshEnd.{MeshEnd}
use Rattle.link.specs.Faults.{joins, IsUnsent}
use Rattle.link.specs.MeshState.{MeshState, seen, only_to, WaitsTowards}

module _ {L : Type 0} where
  -- the node whose end it is
  abbrev pub node_of : MeshEnd L → ℕ
  node_of e = e.node

  -- the mesh as it is now
  abbrev pub mesh_of : MeshEnd L → MeshState L
  mesh_of e = e.mesh.now

  -- which mesh is lent
  abbrev pub lender_of : MeshEnd L → GName
  lender_of e = e.mesh.ghost_name

  -- another state of the same end
  abbrev pub IsSameEnd : MeshEnd L → MeshEnd L → Type 0
  IsSameEnd s t = (node_of t ≡ node_of s) × (lender_of t ≡ lender_of s) × ((mesh_of t).nodes ≡ (mesh_of s).nodes)

  -- a letter was put on the link to this node
  abbrev pub Posts : MeshEnd L → ℕ → L → MeshEnd L → Type 0
  Posts s to letter t = IsSameEnd s t × (joins (node_of s) to (mesh_of s) ≡ true)
      × (seen (mesh_of t) ≡ posted (node_of s) (only_to to letter) (seen (mesh_of s)))

  -- a letter to this node was handed back, for this fault of the mesh
  abbrev pub Refuses : MeshEnd L → ℕ → L → LinkFault → Type 0
  Refuses s to letter fault = IsUnsent fault (node_of s) to (mesh_of s)

  -- the oldest letter from the least node that has sent one was taken
  abbrev pub Takes : MeshEnd L → ℕ → L → MeshEnd L → Type 0
  Takes s from letter t = IsSameEnd s t × WaitsTowards (node_of s) (Some from) (mesh_of s)
      × (slice_get ((seen (mesh_of s)).queue from (node_of s)) 0 ≡ Some letter)
      × (seen (mesh_of t) ≡ taken from (node_of s) (seen (mesh_of s)))

  -- no letter is on its way to the node
  abbrev pub Misses : MeshEnd L → Type 0
  Misses s = WaitsTowards (node_of s) None (mesh_of s)

  -- a taking never fails
  abbrev pub Fails : MeshEnd L → LinkFault → Type 0
  Fails s fault = ⊥
