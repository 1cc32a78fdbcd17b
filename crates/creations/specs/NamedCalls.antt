-- Lock calls that name node names.
-- c is a running node, xs are the names, n is a node, x a name.
use Rattle.std.specs.Prelude.{ℕ, true, false, ◌≡◌, ◌≤◌, ◌↔◌, Contains, List}
use Rattle.registry_model.specs.Process.{Nodes}
use Rattle.protocol_model.specs.Node.{targets}
use Rattle.protocol_model.specs.Event.{names_members}
use Rattle.creations.specs.NodeNames.{NamedOpening, name_of, named_target}
use Rattle.creations.specs.NamedWorld.{NamedWorld, NamedEvent, after_events}
use Rattle.creations.specs.Restarts.{IsUp}

module _ (o : NamedOpening) (w : NamedWorld) (c : ℕ) (xs : List ℕ) where
  -- whom c shows as members
  abbrev pub shown_members : Nodes
  shown_members = (w.world.node c).replica.members

  -- a name of them is no member's
  abbrev pub SomeNameIsNobodys : Type 0
  SomeNameIsNobodys = (x : ℕ) × Contains xs x × ((n : ℕ) → shown_members n ≡ true → name_of o n ≡ x → ⊥)

  -- What a lock call at c means by these names
  pub record NamesMeanMembers : Type 0 where
    -- it asks the members that have one of them
    pub asked : (n : ℕ) → (targets shown_members (named_target o xs) n ≡ true)
        ↔ ((shown_members n ≡ true) × Contains xs (name_of o n))
    -- and it misses a member exactly where one of them is no member's
    pub missed : (names_members (w.world.node c) (named_target o xs) ≡ false) ↔ SomeNameIsNobodys

-- So it is at each running node, at any time
abbrev pub NamesAlwaysMeanMembers : Type 0
NamesAlwaysMeanMembers = (o : NamedOpening) (es : List NamedEvent) (c : ℕ) (xs : List ℕ) → 1 ≤ o.last → IsUp o (after_events o es) c →
    NamesMeanMembers o (after_events o es) c xs
