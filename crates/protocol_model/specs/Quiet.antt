-- Which nodes run, where no letter waits, and after what an operation waits for a retry.
use mathlib.Core.Logic.{◌⊎◌}
use Rattle.std.specs.Prelude.{ℕ, true, false, ◌≡◌, []}
use Rattle.protocol_model.specs.Round.{Round}
use Rattle.protocol_model.specs.Node.{Op, Current}
use Rattle.protocol_model.specs.World.{Opening, in_world, World, left, WorldEvent, happens}

-- node c is of the world and hasn't left
abbrev pub Runs : Opening → World → ℕ → Type 0
Runs o w c = (in_world o c ≡ true) × (left w c ≡ false)

-- no letter waits on a link to a node that is up
abbrev pub NoLetterWaits : (ℕ → Type 0) → Opening → World → Type 0
NoLetterWaits Up o w = (f c : ℕ) → in_world o f ≡ true → Up c → w.links.queue f c ≡ []

-- nor on one to a running node
abbrev pub IsQuiet : Opening → World → Type 0
IsQuiet o w = NoLetterWaits (Runs o w) o w

-- An operation waits for a retry only behind a round of its own: it waited before the event, or its node was asking for the
-- global lock for it
abbrev pub WaitsBehindARound : Type 0
WaitsBehindARound = (o : Opening) (w : World) (e : WorldEvent) (a : ℕ) (op : Op) →
    ((happens o w e).node a).current ≡ Current.Waiting op →
    ((w.node a).current ≡ Current.Waiting op) ⊎ ((round : Round) × ((w.node a).current ≡ Current.Asking op round))
