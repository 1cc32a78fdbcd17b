-- What holds of histories. before, middle, later: parts of a history, the oldest first.
use Rattle.std.specs.Prelude.{ℕ, true, false, ◌||◌, ◌==◌, ◌≡◌, ◌<◌, ◌≤◌, ◌↔◌, ◌⊎◌, IsTrue, Contains, Option, Some, None, List, [], ◌∷◌, ◌++◌}
use Rattle.registry_model.specs.Process.{Text, Process, Nodes}
use Rattle.registry_model.specs.Table.{NotifyAll, Pair, Table, is_rising, get, entry, owns}
use Rattle.registry_model.specs.Call.{NameCall, Register, ReRegister, Unregister, Reply, Yes, Ok, Joined}
use Rattle.registry_model.specs.Settlement.{Notice, notices_to, settle}
use Rattle.registry_model.specs.Registry.{Registry, in_group, table_of, view, members}
use Rattle.registry_model.specs.SharedLaws.{IsReplyTo, IsCarriedOut}
use Rattle.registry_model.specs.History.{Entry, Name, Strike, Join, Done, Exit, Told, registry_of, granted_to, Hold, hold_at, standing_of}

-- no name has two owners, and the names rise
pub record HasOneOwner (table : Table) : Type 0 where
  pub owner : (pair other : Pair) → Contains table pair → Contains table other → pair.name ≡ other.name → pair ≡ other
  pub rises : IsTrue (is_rising table)

-- In the table of each group no name has two owners
abbrev pub OneOwner : Nodes → List Entry → Type 0
OneOwner cluster h = (n : ℕ) → HasOneOwner (table_of (registry_of cluster h) n)

-- as n sees it, nobody has the name, the owner has no name, and the owner's node is a member
pub record IsFreeFor (r : Registry) (n : ℕ) (e : Pair) : Type 0 where
  pub name : get e.name (view r n) ≡ None
  pub owner : owns e.owner (view r n) ≡ false
  pub member : members r n e.owner.node ≡ true

-- Who is answered yes registered a free name, for a process that had none, on a node of the group
abbrev pub YesToTheFree : Nodes → List Entry → Type 0
YesToTheFree cluster h = (before later : List Entry) (n k : ℕ) (e : Pair) →
    h ≡ before ++ Name n k (Register e) Yes ∷ later → IsFreeFor (registry_of cluster before) n e

-- node n decides a name call with this reply: the reply is that of n's members and view, the table of n's group is what
-- the call makes of it, and all else stays
pub record IsDecided (before after : Registry) (n : ℕ) (call : NameCall) (reply : Reply) : Type 0 where
  pub answer : IsReplyTo (members before n) (view before n) call reply
  pub here : (a : ℕ) → in_group before a n ≡ true → IsCarriedOut (table_of before a) (table_of after a) call reply
  pub elsewhere : (a : ℕ) → in_group before a n ≡ false → table_of after a ≡ table_of before a
  pub joined : after.joined ≡ before.joined
  pub left : after.left ≡ before.left
  pub told : after.told ≡ before.told
  pub dead : after.dead ≡ before.dead
  pub notices : after.notices ≡ before.notices

-- Each name call is carried out in the group of its node, and in no other
abbrev pub CallsAreCarriedOut : Nodes → List Entry → Type 0
CallsAreCarriedOut cluster h = (before later : List Entry) (n k : ℕ) (call : NameCall) (reply : Reply) →
    h ≡ before ++ Name n k call reply ∷ later →
    IsDecided (registry_of cluster before) (registry_of cluster (before ++ Name n k call reply ∷ [])) n call reply

-- The entries that take the name x from p, as n sees it
pub data Takes (r : Registry) (n : ℕ) (x : Text) (p : Process) : Entry → Type 0 where
  -- n's group gives it up, or gives it to another
  GivenUp : (m k : ℕ) → IsTrue (in_group r n m) → Takes r n x p (Name m k (Unregister x) Ok)
  Replaced : (m k : ℕ) (e : Pair) → e.name ≡ x → IsTrue (in_group r n m) → Takes r n x p (Name m k (ReRegister e) Yes)
  -- p is struck in n's group
  Struck : IsTrue (in_group r n p.node) → Takes r n x p (Strike p)
  -- n is told that p's node left
  Departed : Takes r n x p (Told n p.node)
  -- a node of n's group that was told so gives the name, which it sees no more
  Retaken : (m k : ℕ) (e : Pair) → e.name ≡ x → IsTrue (in_group r n m) → IsTrue (r.told m p.node) →
      Takes r n x p (Name m k (Register e) Yes)
  -- a joiner has the name too, for a process on a lesser node
  LostToJoiner : (j k m : ℕ) (q : Process) → IsTrue (r.joined n) → get x (r.lone j) ≡ Some q → q.node < p.node →
      Takes r n x p (Join j k m Joined)
  -- a joiner has the name too, and its contact was told that p's node left
  RetakenByJoiner : (j k m : ℕ) (q : Process) → IsTrue (r.joined n) → get x (r.lone j) ≡ Some q →
      IsTrue (r.told m p.node) → Takes r n x p (Join j k m Joined)
  -- n joins, and its contact sees the name of a process on no greater node
  LostToCluster : (k m : ℕ) (q : Process) → get x (view r m) ≡ Some q → q.node ≤ p.node →
      Takes r n x p (Join n k m Joined)
  -- a joiner and its contact have the name, and the contact under `notify_all`
  LostToBoth : (j k m : ℕ) (q : Process) (own : Pair) → IsTrue (r.joined n || (n == j)) → get x (r.lone j) ≡ Some q →
      entry x (view r m) ≡ Some own → own.rule ≡ NotifyAll → Takes r n x p (Join j k m Joined)

-- A name that a node sees stands until an entry takes it
abbrev pub NamesStand : Nodes → List Entry → Type 0
NamesStand cluster h = (before later : List Entry) (e : Entry) (n : ℕ) (x : Text) (p : Process) →
    h ≡ before ++ e ∷ later → get x (view (registry_of cluster before) n) ≡ Some p →
    (get x (view (registry_of cluster (before ++ e ∷ [])) n) ≡ Some p) ⊎ Takes (registry_of cluster before) n x p e

-- the node that the entry decides an operation of, be it granted or refused
abbrev pub decided_by : Entry → Option ℕ
decided_by (Name b k call reply) = Some b
decided_by (Strike p) = Some p.node
decided_by (Join j k b Joined) = Some b
decided_by _ = None

-- the entry leaves a's group undisturbed: it decides no operation of a node of that group, and no node of it joins
pub record LeavesAlone (r : Registry) (a : ℕ) (f : Entry) : Type 0 where
  pub decided : (b : ℕ) → decided_by f ≡ Some b → in_group r a b ≡ false
  pub joined : (j k m : ℕ) → f ≡ Join j k m Joined → in_group r a j ≡ false

-- While an operation of a holds, nothing else is decided in a's group
abbrev pub NeverOverlap : Nodes → List Entry → Type 0
NeverOverlap cluster h = (before middle later : List Entry) (e f : Entry) (a : ℕ) →
    h ≡ before ++ e ∷ middle ++ f ∷ later → granted_to e ≡ Some a → (Contains middle (Done a) → ⊥) →
    LeavesAlone (registry_of cluster (before ++ e ∷ middle)) a f

-- An operation holds from its entry until its node is done
abbrev pub HoldsUntilDone : Nodes → List Entry → Type 0
HoldsUntilDone cluster h = (before later : List Entry) (e : Entry) (a : ℕ) →
    h ≡ before ++ e ∷ later → granted_to e ≡ Some a → (Contains later (Done a) → ⊥) →
    (hold : Hold) × (hold_at (standing_of cluster h) a ≡ Some hold) × (hold.node ≡ a) × (hold.entry ≡ e)

-- the operation that holds has its entry between these and isn't done, and the registry kept beside it is that of the
-- others
pub record IsLeftOut (cluster : Nodes) (h : List Entry) (hold : Hold) : Type 0 where
  pub before : List Entry
  pub later : List Entry
  pub split : h ≡ before ++ hold.entry ∷ later
  pub holder : granted_to hold.entry ≡ Some hold.node
  pub not_done : Contains later (Done hold.node) → ⊥
  pub old : hold.old ≡ registry_of cluster (before ++ later)

-- The registry kept beside an operation that holds is that of the history without its entry
pub record OldLeavesOut (cluster : Nodes) (h : List Entry) : Type 0 where
  pub registry : (standing_of cluster h).registry ≡ registry_of cluster h
  pub left_out : (n : ℕ) (hold : Hold) → hold_at (standing_of cluster h) n ≡ Some hold → IsLeftOut cluster h hold

-- p died: it exited, or lost a name when a node joined
pub data Died (cluster : Nodes) (h : List Entry) (p : Process) : Type 0 where
  Exited : Contains h (Exit p) → Died cluster h p
  Killed : (before later : List Entry) (j k m : ℕ) → h ≡ before ++ Join j k m Joined ∷ later →
      (let r = registry_of cluster before in Contains (settle (view r m) (r.lone j)).fate.kills p) → Died cluster h p

-- Who dies is dead for good, and nobody else is dead
pub record DeadForGood (cluster : Nodes) (h : List Entry) : Type 0 where
  pub stays : (later : List Entry) (p : Process) → IsTrue ((registry_of cluster h).dead p) →
      IsTrue ((registry_of cluster (h ++ later)).dead p)
  pub died : (p : Process) → IsTrue ((registry_of cluster h).dead p) ↔ Died cluster h p

-- what an entry sends p: a join what its settlement sends, and any other entry nothing
pub data Sends (r : Registry) (p : Process) : Entry → List Notice → Type 0 where
  ByJoin : (j k m : ℕ) → Sends r p (Join j k m Joined) (notices_to p (settle (view r m) (r.lone j)).fate.notices)
  ByNone : (e : Entry) → ((j k m : ℕ) → e ≡ Join j k m Joined → ⊥) → Sends r p e []

-- What a process was sent stays, be it dead or not: each entry adds behind it what it sends, and takes nothing
pub record NoticesStay (cluster : Nodes) (h : List Entry) : Type 0 where
  pub grow : (before later : List Entry) (e : Entry) (p : Process) → h ≡ before ++ e ∷ later →
      (more : List Notice) × Sends (registry_of cluster before) p e more
      × ((registry_of cluster (before ++ e ∷ [])).notices p ≡ (registry_of cluster before).notices p ++ more)
  pub stay : (later : List Entry) (p : Process) →
      (more : List Notice) × ((registry_of cluster (h ++ later)).notices p ≡ (registry_of cluster h).notices p ++ more)

-- A node joins once, and is joined ever after
pub record JoinsOnce (cluster : Nodes) (h : List Entry) : Type 0 where
  pub lone_before : (before later : List Entry) (j k m : ℕ) → h ≡ before ++ Join j k m Joined ∷ later →
      (registry_of cluster before).joined j ≡ false
  pub joined_after : (before later : List Entry) (j k m : ℕ) → h ≡ before ++ Join j k m Joined ∷ later →
      (registry_of cluster h).joined j ≡ true
  pub once : (before middle later : List Entry) (i j k l m o : ℕ) →
      h ≡ before ++ Join i k m Joined ∷ middle ++ Join j l o Joined ∷ later → i ≡ j → ⊥
