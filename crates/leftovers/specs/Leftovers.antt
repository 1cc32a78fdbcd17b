-- Nothing is left over: once no letter waits, locks, deaths and departures are as they were told, and once no operation waits
-- for a retry either, no name has a dead owner. es are the events so far, and w is the world that they made.
use Rattle.std.specs.Prelude.{ℕ, true, false, ◌==◌, ◌≡◌, ◌<◌, ◌≤◌, IsTrue, Contains, List}
use Rattle.registry_model.specs.Process.{Process}
use Rattle.registry_model.specs.Table.{Pair}
use Rattle.registry_model.specs.History.{standing_of, is_free, registry_of}
use Rattle.protocol_model.specs.Letter.{Id, is_id, is_resource}
use Rattle.protocol_model.specs.LockTable.{Grant, count, last_count, is_free_for}
use Rattle.protocol_model.specs.Watch.{is_dead}
use Rattle.protocol_model.specs.Node.{Node}
use Rattle.protocol_model.specs.World.{in_cluster, left}
use Rattle.protocol_model.specs.Course.{global_given}
use Rattle.protocol_model.specs.ClientLocks.{is_no_more, holds_count, Holds}
use Rattle.headline.specs.Worlds.{Worlds, events_of, IsQuiet, IsSettled}

module _ (W : Worlds) (es : List W.Event) (w : W.World) where
  abbrev node : ℕ → Node
  node c = (W.nodes w).node c

  -- how often p holds a lock at c, and whether it does
  abbrev times_held : Process → Id → ℕ → ℕ
  times_held p id c = holds_count W.opening (events_of W es) p id c

  abbrev IsHeld : Process → Id → ℕ → Type 0
  IsHeld p id c = Holds W.opening (events_of W es) p id c

  -- p is dead in the registry of the history
  abbrev pub IsKnownDead : Process → Type 0
  IsKnownDead p = (registry_of (in_cluster W.opening) (W.nodes w).history).dead p ≡ true

  -- p is dead at its node
  abbrev pub IsDeadAtHome : Process → Type 0
  IsDeadAtHome p = is_dead (node p.node).watch p.serial ≡ true

  -- At any time a running node's lock table has each lock for each process at least as often as the process holds it
  abbrev pub HeldLocksStand : Type 0
  HeldLocksStand = (c : ℕ) → W.Runs w c → (id : Id) (p : Process) → times_held p id c ≤ count id p (node c).locks

  -- In a quiet world it has each lock for each process exactly so often
  abbrev pub LocksAreAsTold : Type 0
  LocksAreAsTold = (c : ℕ) → IsQuiet W w → W.Runs w c → (id : Id) (p : Process) → count id p (node c).locks ≡ times_held p id c

  -- and lists no grant but those of locks that are held
  abbrev pub NoEmptyGrants : Type 0
  NoEmptyGrants = (c : ℕ) → IsQuiet W w → W.Runs w c → (g : Grant) → Contains (node c).locks g → IsHeld g.holder g.id c

  -- and nobody has the global lock there
  abbrev pub NobodyKeepsTheGlobalLock : Type 0
  NobodyKeepsTheGlobalLock = (c b : ℕ) → IsQuiet W w → W.Runs w c → global_given (node c).locks b ≡ false

  -- In a quiet world no lock of a process that is dead, or whose node has left, stands at a running node
  abbrev pub DeadHoldersHoldNothing : Type 0
  DeadHoldersHoldNothing = (c : ℕ) → IsQuiet W w → W.Runs w c → (g : Grant) → Contains (node c).locks g →
      is_no_more (W.nodes w) g.holder ≡ false

  -- In a quiet world a running node grants a lock to whoever asks for it, unless its resource is held there under another
  -- requester or it is held as often as can be
  abbrev pub FreeLocksAreGranted : Type 0
  FreeLocksAreGranted = (c : ℕ) → IsQuiet W w → W.Runs w c → (id : Id) (p : Process) →
      ((q : Process) (i : Id) → IsHeld q i c → is_resource i id ≡ true → is_id i id ≡ true) →
      times_held p id c < last_count → is_free_for id p (node c).locks ≡ true

  -- At any time who is dead at its node is dead in the registry
  abbrev pub DeathsAreKnown : Type 0
  DeathsAreKnown = (p : Process) → IsDeadAtHome p → IsKnownDead p

  -- In a quiet world who is dead in the registry is dead at its node, where that runs. Serial 0 is that of no process
  abbrev pub DeathsAreCarriedOut : Type 0
  DeathsAreCarriedOut = (p : Process) → IsQuiet W w → W.Runs w p.node → (p.serial == 0) ≡ false → IsKnownDead p → IsDeadAtHome p

  -- And so it is at any time at which no operation holds in the group of that node
  abbrev pub DeathsAreCarriedOutWhenFree : Type 0
  DeathsAreCarriedOutWhenFree = (p : Process) →
      IsTrue (is_free (standing_of (in_cluster W.opening) (W.nodes w).history) p.node) →
      W.Runs w p.node → (p.serial == 0) ≡ false → IsKnownDead p → IsDeadAtHome p

  -- In a quiet world each running node was told of each node that has left
  abbrev pub DeparturesAreTold : Type 0
  DeparturesAreTold = (c d : ℕ) → IsQuiet W w → W.Runs w c → left (W.nodes w) d ≡ true → (node c).replica.told d ≡ true

  -- and has no name of a process of such a node
  abbrev pub NoNameOnADepartedNode : Type 0
  NoNameOnADepartedNode = (c : ℕ) → IsQuiet W w → W.Runs w c → (pair : Pair) → Contains (node c).replica.table pair →
      left (W.nodes w) pair.owner.node ≡ false

  -- In a settled world no running node has a name of a process that is dead at its node
  abbrev pub DeadOwnersOwnNothing : Type 0
  DeadOwnersOwnNothing = (c : ℕ) → IsSettled W w → W.Runs w c → (pair : Pair) → Contains (node c).replica.table pair →
      is_no_more (W.nodes w) pair.owner ≡ false

  -- nor of one that is dead in the registry
  abbrev pub KnownDeadOwnNothing : Type 0
  KnownDeadOwnNothing = (c : ℕ) → IsSettled W w → W.Runs w c → (pair : Pair) → Contains (node c).replica.table pair →
      (pair.owner.serial == 0) ≡ false → IsKnownDead pair.owner → ⊥

  -- Nothing is left over
  pub record NothingIsLeft : Type 0 where
    -- locks
    pub stand : HeldLocksStand
    pub locks : LocksAreAsTold
    pub grants : NoEmptyGrants
    pub global : NobodyKeepsTheGlobalLock
    pub holders : DeadHoldersHoldNothing
    pub free : FreeLocksAreGranted
    -- deaths
    pub known : DeathsAreKnown
    pub carried_out : DeathsAreCarriedOut
    pub when_free : DeathsAreCarriedOutWhenFree
    -- departures and names
    pub departures : DeparturesAreTold
    pub departed : NoNameOnADepartedNode
    pub owners : DeadOwnersOwnNothing
    pub dead_owners : KnownDeadOwnNothing
