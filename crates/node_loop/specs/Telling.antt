-- What the logs and tables of all nodes tell, once their threads have ended.
use Rattle.std.specs.Prelude.{ℕ, true, false, ◌≡◌, [], map}
use Rattle.registry_model.specs.Table.{Table}
use Rattle.protocol_model.specs.Node.{opening_node}
use Rattle.protocol_model.specs.World.{Opening, in_world, in_cluster}
use Rattle.closings.specs.Guarded.{Begins}
use Rattle.closings.specs.Laws.{ConsistentEnds}
use Rattle.node_log.specs.Seen.{seen_entry}
use Rattle.node_loop.specs.Held.{Written}
use Rattle.node_loop.specs.Dealings.{Dealt, took, put}
use Rattle.node_loop.specs.Sound.{Tells}

-- Each node of the world has left a log and a table that tell of it, and a stranger has none: an empty log, and the table of its opening
pub record AllTell (o : Opening) (logs : ℕ → Written) (tables : ℕ → Table) (dealt : ℕ → Dealt) : Type 0 where
  pub nodes : (a : ℕ) → (logs a).node ≡ a
  pub tell : (a : ℕ) → in_world o a ≡ true → Tells o (logs a) (tables a) (dealt a)
  pub silent : (a : ℕ) → in_world o a ≡ false → (logs a).entries ≡ []
  pub bare : (a : ℕ) → in_world o a ≡ false → tables a ≡ (opening_node (in_cluster o) a).replica.table

-- where each node took a beginning of what another put on its way to it, what they tell is consistent
abbrev pub ThreadsAreConsistent : Type 0
ThreadsAreConsistent = (o : Opening) (logs : ℕ → Written) (tables : ℕ → Table) (dealt : ℕ → Dealt)
    → AllTell o logs tables dealt
    → ((f t : ℕ) → in_world o f ≡ true → in_world o t ≡ true → Begins (took (dealt t) f) (put (dealt f) t))
    → ConsistentEnds o (λ a. map seen_entry (logs a).entries) tables
