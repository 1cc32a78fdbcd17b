-- When a link is refused.
use Rattle.std.specs.Prelude.{ℕ, Bool, true, false, ◌&&◌, ◌≡◌, [], Option, Some, None}
use Rattle.link.specs.declared.faults.LinkFault.{LinkFault}
use Rattle.link.specs.declared.faults.LinkFault.TheVariants.{NoSuchNode, EmptyLink, Full, Memory}
use Rattle.link.specs.declared.link_place.LinkPlace.{LinkPlace}
use Rattle.link.specs.MeshState.{MeshState, has, seen, from_of, to_of, IsWithin}

-- both ends are nodes of the mesh
abbrev pub joins : {L : Type 0} → ℕ → ℕ → MeshState L → Bool
joins f t h = has f h && has t h

-- the link from one node to another, if both are nodes of the mesh
abbrev pub IsLinkOf : {L : Type 0} → Option LinkPlace → ℕ → ℕ → MeshState L → Type 0
IsLinkOf None f t h = joins f t h ≡ false
IsLinkOf (Some k) f t h = (joins f t h ≡ true) × IsWithin k h × (from_of k h ≡ f) × (to_of k h ≡ t)

-- why a letter isn't sent
abbrev pub IsUnsent : {L : Type 0} → LinkFault → ℕ → ℕ → MeshState L → Type 0
IsUnsent NoSuchNode f t h = joins f t h ≡ false
IsUnsent EmptyLink f t h = ⊥
IsUnsent Full f t h = ⊥
IsUnsent Memory f t h = (joins f t h ≡ true) × ((seen h).closed t ≡ false)

-- why none is taken
abbrev pub IsUndelivered : {L : Type 0} → LinkFault → ℕ → ℕ → MeshState L → Type 0
IsUndelivered NoSuchNode f t h = joins f t h ≡ false
IsUndelivered EmptyLink f t h = (joins f t h ≡ true) × ((seen h).queue f t ≡ [])
IsUndelivered Full f t h = ⊥
IsUndelivered Memory f t h = ⊥

-- a node is none of the mesh, which is the one fault of a call that names a node alone
abbrev pub IsStranger : {L : Type 0} → LinkFault → ℕ → MeshState L → Type 0
IsStranger NoSuchNode a h = has a h ≡ false
IsStranger EmptyLink a h = ⊥
IsStranger Full a h = ⊥
IsStranger Memory a h = ⊥
