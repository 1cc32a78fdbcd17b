-- What the grants of a node are seen as, and what a change makes of them. Their order tells nothing.
use Rattle.std.specs.Prelude.{ℕ, Bool, ◌≡◌, ◌==◌, ◌&&◌, ◌⊎◌, not, true, false, Option, Some, None, List, [], ◌∷◌, ◌++◌, All, Contains}
use Rattle.std.specs.List.Sorted.{IsPermutation}
use Rattle.std.specs.Map.{set_value}
use Rattle.registry_model.specs.Process.{Text}
use Rattle.lock_table.specs.Filed.{Entry, held_at, is_key}
use Rattle.lock_table.specs.declared.grant.Held.{Held}
use Rattle.lock_table.specs.declared.grant.Key.{Key}
use Rattle.lock_table.specs.declared.grant.KeptGrant.{KeptGrant}

-- the grant that is kept in place, if there is one, and the others
abbrev pub and_others : Option KeptGrant → List Entry → List Entry
and_others None es = es
and_others (Some g) es = (g.key, g.held) ∷ es

-- whether it is the key's
abbrev pub is_in_place : Key → Option KeptGrant → Bool
is_in_place k None = false
is_in_place k (Some g) = is_key k g.key

-- some grant on the resource is in the requester's name
abbrev pub HasUnder : Text → List Entry → Text → Type 0
HasUnder resource es requester =
    (e : Entry) × Contains es e × (e.0.resource ≡ resource) × (e.1.requester ≡ requester)

-- some grant is on the resource
abbrev pub IsSomeOn : Text → List Entry → Type 0
IsSomeOn resource es = (e : Entry) × Contains es e × (e.0.resource ≡ resource)

-- no grant is on the resource
abbrev pub IsNoneOn : Text → List Entry → Type 0
IsNoneOn resource es = All (λ e. (e.0.resource == resource) ≡ false) es

-- no grant on the resource is in another requester's name than this one's
abbrev pub IsOpenTo : Text → List Entry → Text → Type 0
IsOpenTo resource es requester = IsNoneOn resource es ⊎ HasUnder resource es requester

-- so each grant on the resource is in this requester's name
abbrev pub IsFreeFor : Text → Text → List Entry → Type 0
IsFreeFor resource requester es =
    All (λ e. ((e.0.resource == resource) && not (e.1.requester == requester)) ≡ false) es

-- something is filed under the key
abbrev pub IsHeld : Key → List Entry → Type 0
IsHeld k es = (v : Held) × (held_at es k ≡ Some v)

-- the key's grant has another count, where there is one
abbrev pub Recounts : Key → ℕ → List Entry → List Entry → Type 0
Recounts k c es fs =
    (held_at es k ≡ None → fs ≡ es)
    × ((v : Held) → held_at es k ≡ Some v → fs ≡ set_value (is_key k) es (record v { count = c }))

-- a grant more, in whatever order
abbrev pub Gains : Entry → List Entry → List Entry → Type 0
Gains e es fs = IsPermutation (es ++ e ∷ []) fs

-- a grant of the key less, in whatever order
abbrev pub Gone : Key → List Entry → List Entry → Type 0
Gone k es fs = (x : Entry) × (is_key k x.0 ≡ true) × IsPermutation es (x ∷ fs)

-- the key's grant is gone, where there is one
abbrev pub Loses : Key → List Entry → List Entry → Type 0
Loses k es fs = (held_at es k ≡ None → fs ≡ es) × ((v : Held) → held_at es k ≡ Some v → Gone k es fs)
