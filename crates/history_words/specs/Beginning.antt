-- What a registrar begins, and whom it asks first.
-- n is a bound, s a set of nodes, c a node; a is the node of a registrar, es are the events so far, e is one more.
use Rattle.std.specs.Prelude.{ℕ, true, ◌≡◌, ◌<◌, ◌≤◌, Some, List}
use Rattle.registry_model.specs.Process.{Nodes}
use Rattle.registry_model.specs.Registry.{process_of}
use Rattle.protocol_model.specs.Round.{Round, greatest}
use Rattle.protocol_model.specs.Watch.{owed}
use Rattle.protocol_model.specs.Node.{Node, Op, Current}
use Rattle.protocol_model.specs.World.{Opening, WorldEvent, happens}
use Rattle.creations.specs.Clauses.{world}

-- `greatest` of a set, which a round over it asks first (`ask_global`, `ask_lock`), is one of it, and none of it is greater
abbrev pub TellsTheGreatest : Type 0
TellsTheGreatest = (n : ℕ) (s : Nodes) (c : ℕ) → c < n → s c ≡ true → (s (greatest n s) ≡ true) × (c ≤ greatest n s)

-- the registrar of a node begins op: it asks for the global lock for it, and before it didn't, and op didn't wait for a retry
pub record BeginsOperation (before behind : Node) (op : Op) : Type 0 where
  pub round : Round
  pub asks : behind.current ≡ Current.Asking op round
  pub asked : (r : Round) → before.current ≡ Current.Asking op r → ⊥
  pub waited : before.current ≡ Current.Waiting op → ⊥

-- A strike that is owed comes first: what a registrar begins while a strike is owed is that strike
abbrev pub StrikesComeFirst : Type 0
StrikesComeFirst = (o : Opening) (es : List WorldEvent) (e : WorldEvent) (a serial : ℕ) (op : Op) →
    (let behind = (happens o (world o es) e).node a in
    BeginsOperation ((world o es).node a) behind op → owed a behind.replica.table behind.watch ≡ Some serial →
    op ≡ Op.Strike (process_of a serial))
