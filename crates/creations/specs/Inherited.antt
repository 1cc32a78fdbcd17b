-- A creation takes nothing over from an older one, and nothing is kept for a younger one.
use Rattle.std.specs.Prelude.{ℕ, false, ◌≡◌, ◌⊎◌, Contains, Some, List, []}
use Rattle.registry_model.specs.Process.{Text, Process}
use Rattle.registry_model.specs.Table.{Pair, get}
use Rattle.registry_model.specs.Registry.{view}
use Rattle.registry_model.specs.History.{registry_of}
use Rattle.protocol_model.specs.Letter.{Id}
use Rattle.protocol_model.specs.LockTable.{Grant}
use Rattle.protocol_model.specs.ClientLocks.{holds_count}
use Rattle.protocol_model.specs.World.{in_cluster}
use Rattle.creations.specs.NodeNames.{NamedOpening, opening_of}
use Rattle.creations.specs.NamedWorld.{NamedWorld, NamedEvent, has_started, after_events, as_events}
use Rattle.creations.specs.Restarts.{IsUp}

-- Of node n nothing is kept
pub record NothingIsThere (o : NamedOpening) (es : List NamedEvent) (w : NamedWorld) (n : ℕ) : Type 0 where
  -- no running node has a name or a lock of a process on it
  pub names : (c : ℕ) (pair : Pair) → IsUp o w c → Contains (w.world.node c).replica.table pair → pair.owner.node ≡ n → ⊥
  pub grants : (c : ℕ) (g : Grant) → IsUp o w c → Contains (w.world.node c).locks g → g.holder.node ≡ n → ⊥
  -- by the registry none of its processes is dead, was sent a notice or owns a name that any node sees, and it was told of nobody
  pub dead : (p : Process) → p.node ≡ n → (registry_of (in_cluster (opening_of o)) w.world.history).dead p ≡ false
  pub notices : (p : Process) → p.node ≡ n → (registry_of (in_cluster (opening_of o)) w.world.history).notices p ≡ []
  pub owners : (c : ℕ) (x : Text) (p : Process) → get x (view (registry_of (in_cluster (opening_of o)) w.world.history) c) ≡ Some p →
      p.node ≡ n → ⊥
  pub untold : (d : ℕ) → (registry_of (in_cluster (opening_of o)) w.world.history).told n d ≡ false
  -- none of its processes holds a lock anywhere, and nobody holds one there
  pub counts : (id : Id) (p : Process) (c : ℕ) → (p.node ≡ n) ⊎ (c ≡ n) → holds_count (opening_of o) (as_events o es) p id c ≡ 0

-- So it is of each node until it starts: what an older node of its name had or was told stays that node's
abbrev pub NothingIsInherited : Type 0
NothingIsInherited = (o : NamedOpening) (es : List NamedEvent) (n : ℕ) → has_started o (after_events o es) n ≡ false →
    NothingIsThere o es (after_events o es) n
