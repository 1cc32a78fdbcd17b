-- What a node shows of the registry, in words: its table, its members, whom it was told of, and what its processes were sent.
-- r is a registry, n and a are nodes, v is what a node shows, es are the events so far.
use mathlib.Core.Logic.{◌⊎◌}
use Rattle.std.specs.Prelude.{ℕ, true, false, ◌≡◌, ◌↔◌, IsTrue, filter, List, [], ◌∷◌}
use Rattle.registry_model.specs.Process.{Process, Nodes}
use Rattle.registry_model.specs.Table.{is_rising}
use Rattle.registry_model.specs.Call.{Reply, NoticesOf}
use Rattle.registry_model.specs.Registry.{Registry, Replica, replica_of}
use Rattle.registry_model.specs.SharedLaws.{IsWithout}
use Rattle.registry_model.specs.History.{Entry, registry_of, is_free, old}
use Rattle.protocol_model.specs.Event.{Call, Event}
use Rattle.protocol_model.specs.World.{Opening, WorldEvent, At, opening_world, answers}
use Rattle.protocol_model.specs.Course.{IsRunning}
use Rattle.protocol_model.specs.Answers.{answer_to, is_unnumbered}
use Rattle.protocol_model.specs.Refusals.{MayLookUp}
use Rattle.creations.specs.Clauses.{world, events, so_far}

-- What n shows is the registry's
pub record IsShownOf (r : Registry) (n : ℕ) (v : Replica) : Type 0 where
  -- the names rise, so each stands once; the table is that of the cluster, or of n where n is lone, but for the names on nodes that
  -- n was told have left
  pub rises : IsTrue (is_rising v.table)
  pub cluster : r.joined n ≡ true → IsWithout (r.told n) r.table v.table
  pub lone : r.joined n ≡ false → IsWithout (r.told n) (r.lone n) v.table
  -- all joined nodes, or n alone, but for those nodes
  pub members : r.joined n ≡ true → (c : ℕ) → (v.members c ≡ true) ↔ ((r.joined c ≡ true) × (r.told n c ≡ false))
  pub alone : r.joined n ≡ false → (c : ℕ) → (v.members c ≡ true) ↔ ((c ≡ n) × (r.told n c ≡ false))
  pub told : (d : ℕ) → v.told d ≡ r.told n d
  pub joined : v.joined ≡ r.joined n
  -- what each of its processes was sent, dead or not
  pub notices : (p : Process) → p.node ≡ n → v.notices p.serial ≡ r.notices p

-- What a node has to show of a history's registry is that
abbrev pub ShowsTheRegistry : Type 0
ShowsTheRegistry = (cluster : Nodes) (h : List Entry) (n : ℕ) →
    IsShownOf (registry_of cluster h) n (replica_of (registry_of cluster h) n)

-- What a running node shows behind events: the registry; while an operation of its group holds, with that operation or without it
pub record ShowsInWords (o : Opening) (es : List WorldEvent) (a : ℕ) : Type 0 where
  pub free : IsRunning o (so_far o es) a → IsTrue (is_free (so_far o es) a) →
      IsShownOf (so_far o es).registry a ((world o es).node a).replica
  pub held : IsRunning o (so_far o es) a → IsShownOf (so_far o es).registry a ((world o es).node a).replica
      ⊎ IsShownOf (old (so_far o es) a) a ((world o es).node a).replica
  -- and a look-up of the notices of its process p is answered those that it shows
  pub answered : (p : Process) → IsRunning o (so_far o es) a → MayLookUp (events o es) a (NoticesOf p) →
      filter is_unnumbered (answers o (world o es) (At a (Event.Calling (Call.LookUp (NoticesOf p)))))
      ≡ answer_to a 0 (Reply.Notices (((world o es).node a).replica.notices p.serial)) ∷ []

-- No node opens with a notice, and each running node shows the registry behind all events
pub record NodesShowInWords (o : Opening) : Type 0 where
  pub opens : (a serial : ℕ) → ((opening_world o).node a).replica.notices serial ≡ []
  pub shows : (es : List WorldEvent) (a : ℕ) → ShowsInWords o es a
