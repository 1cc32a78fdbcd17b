-- A name comes back: what its next node takes over, which is its place alone, and what is entered of it.
use Rattle.std.specs.Prelude.{ℕ, true, false, ◌≡◌, Option, None, Some, ◌<◌, List, [], ◌∷◌, ◌++◌, Contains, if◌then◌else◌}
use Rattle.getting_through.specs.NamedWorld.{next_node}
use Rattle.term.specs.Nodes.{text_in}
use Rattle.term.specs.NodeSets.{set_of, with_older, succeeded}
use Rattle.node_core.specs.CoreState.{CoreState}
use Rattle.world_events.specs.declared.events.WorldEvent.{WorldEvent}
use Rattle.world_events.specs.declared.events.WorldEvent.TheVariants.{Restart}
use Rattle.world_history.specs.declared.entry.HistoryEntry.{HistoryEntry}
use Rattle.cluster_world.specs.WorldState.{WorldState}
use Rattle.cluster_world.specs.Seen.{names_of, named}

-- a core takes the next node of a name in its world, unless its own node has left
abbrev pub replaced_in : List ℕ → ℕ → ℕ → CoreState → CoreState
replaced_in departed older next c =
    if with_older departed c.name then c else record c { world = succeeded older next c.world }

-- the core of a running node, which has the older node in its world, and was told that it has left
abbrev pub CanReplace : List ℕ → ℕ → CoreState → Type 0
CanReplace departed older c = with_older departed c.name ≡ false
    → (set_of c.world older ≡ true) × (with_older c.told older ≡ true)

-- the core of a running node wasn't told that a node has left
abbrev pub IsUntold : ℕ → WorldState → CoreState → Type 0
IsUntold gone h c = (with_older h.links.departed c.name ≡ false) × (with_older c.told gone ≡ false)

-- the least node of such a core, if there is one
abbrev pub IsFirstUntold : ℕ → WorldState → Option ℕ → Type 0
IsFirstUntold gone h None = (c : CoreState) → Contains h.cores c → IsUntold gone h c → ⊥
IsFirstUntold gone h (Some a) = (c : CoreState) × Contains h.cores c × (c.name ≡ a) × IsUntold gone h c
    × ((d : CoreState) → Contains h.cores d → d.name < a → IsUntold gone h d → ⊥)

-- where a name comes back, the history has one entry more: that the next node of the name has started
abbrev pub EntersRestart : WorldEvent → WorldState → WorldState → Type 0
EntersRestart (Restart x) old new =
    new.history ≡ old.history ++ HistoryEntry.Restart (next_node (names_of old) (named old) (text_in x)) ∷ []
EntersRestart _ old new = Unit {0}
