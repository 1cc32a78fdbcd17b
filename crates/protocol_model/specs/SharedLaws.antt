-- What the functions mean that the protocol's rules and the statements share, and how a world opens.
use mathlib.Core.Logic.{◌⊎◌}
use Rattle.std.specs.Prelude.{ℕ, true, false, ◌≡◌, ◌<◌, ◌↔◌, Contains, List, []}
use Rattle.registry_model.specs.Process.{Text, Process, Nodes}
use Rattle.protocol_model.specs.Round.{is_empty}
use Rattle.protocol_model.specs.Letter.{Id, Global, Client, is_id, is_resource}
use Rattle.protocol_model.specs.LockTable.{Grant, Locks, count, last_count, is_free_for}
use Rattle.protocol_model.specs.Watch.{is_dead}
use Rattle.protocol_model.specs.Node.{Node, Current, All, Named, targets}
use Rattle.protocol_model.specs.Event.{Call, Event, names_members}
use Rattle.protocol_model.specs.World.{Opening, in_world, in_cluster, World, left, WorldEvent, At, Deliver, place, other}

-- Two ids are one where they are the same, and of one resource where both are of the resource `global` or both name one text
pub record ComparesIds : Type 0 where
  pub same : (i j : Id) → (is_id i j ≡ true) ↔ (i ≡ j)
  pub resources : (r s x y : Text) → (is_resource (Client r x) (Client s y) ≡ true) ↔ (r ≡ s)
  pub global : (a b : ℕ) → is_resource (Global a) (Global b) ≡ true
  pub global_alone : (a : ℕ) (r x : Text) →
      (is_resource (Global a) (Client r x) ≡ false) × (is_resource (Client r x) (Global a) ≡ false)

-- the node has one of the names
abbrev pub HasName : List (List ℕ) → ℕ → Type 0
HasName names c = (nodes : List ℕ) × Contains names nodes × Contains nodes c

-- none of these nodes has one of the names
abbrev pub LacksName : Nodes → List (List ℕ) → Type 0
LacksName members names = (nodes : List ℕ) × Contains names nodes × ((c : ℕ) → Contains nodes c → members c ≡ false)

-- A lock call goes to all members, or to the members that have one of its names, and it misses a member exactly where one of its
-- names has none
pub record AsksMembers : Type 0 where
  pub all : (members : Nodes) (c : ℕ) → targets members All c ≡ members c
  pub named : (members : Nodes) (names : List (List ℕ)) (c : ℕ) →
      (targets members (Named names) c ≡ true) ↔ ((members c ≡ true) × HasName names c)
  pub misses : (v : Node) (names : List (List ℕ)) →
      (names_members v (Named names) ≡ false) ↔ LacksName v.replica.members names
  pub misses_none : (v : Node) → names_members v All ≡ true

-- A lock table grants a lock unless its resource has a grant under another id, or p has the lock as often as can be
abbrev pub GrantsTheFree : Type 0
GrantsTheFree = (id : Id) (p : Process) (locks : Locks) → (is_free_for id p locks ≡ true)
    ↔ (((g : Grant) → Contains locks g → is_resource g.id id ≡ true → g.id ≡ id) × (count id p locks < last_count))

-- A set is empty below n where it has no node there
abbrev pub TellsTheEmpty : Type 0
TellsTheEmpty = (n : ℕ) (s : Nodes) → (is_empty n s ≡ true) ↔ ((c : ℕ) → c < n → s c ≡ false)

-- An event of a node happens there, and a delivery at the receiver
pub data HappensAt : WorldEvent → ℕ → Type 0 where
  AtNode : (a : ℕ) (e : Event) → HappensAt (At a e) a
  AtReceiver : (f t : ℕ) → HappensAt (Deliver f t) t

-- An event names the node at which it happens, a delivery the sender too, and a join its contact
pub data NamesNode : WorldEvent → ℕ → Type 0 where
  Place : (e : WorldEvent) (c : ℕ) → HappensAt e c → NamesNode e c
  Sender : (f t : ℕ) → NamesNode (Deliver f t) f
  Contact : (a m : ℕ) → NamesNode (At a (Event.Calling (Call.JoinBy m))) m

-- `place` is where an event happens, and `place` and `other` are the nodes that it names
pub record TellsItsPlaces : Type 0 where
  pub happens : (e : WorldEvent) (c : ℕ) → HappensAt e c ↔ (c ≡ place e)
  pub names : (e : WorldEvent) (c : ℕ) → NamesNode e c ↔ ((c ≡ place e) ⊎ (c ≡ other e))

-- Of a world are the nodes of its opening below the bound, and of its cluster those of them that open joined
pub record TellsItsNodes (o : Opening) : Type 0 where
  pub world : (c : ℕ) → (in_world o c ≡ true) ↔ ((c < o.bound) × (o.nodes c ≡ true))
  pub cluster : (c : ℕ) → (in_cluster o c ≡ true) ↔ ((c < o.bound) × (o.nodes c ≡ true) × (o.cluster c ≡ true))

-- A node that has done nothing yet: nobody has a name, a lock or a serial there, is dead, was told of or calls
pub record IsIdle (v : Node) : Type 0 where
  pub table : v.replica.table ≡ []
  pub told : (d : ℕ) → v.replica.told d ≡ false
  pub locks : v.locks ≡ []
  pub serial : v.watch.last_serial ≡ 0
  pub dead : (s : ℕ) → is_dead v.watch s ≡ false
  pub queue : v.queue ≡ []
  pub current : v.current ≡ Current.Free
  pub calls : v.calls ≡ []
  pub last_call : v.last_call ≡ 0

-- A world opens empty: nodes of the cluster are joined with each other, the others are alone, and nothing has happened
pub record OpensEmpty (o : Opening) (w : World) : Type 0 where
  pub idle : (a : ℕ) → IsIdle (w.node a)
  pub joined : (a : ℕ) → (w.node a).replica.joined ≡ in_cluster o a
  pub cluster : (a c : ℕ) → in_cluster o a ≡ true → (w.node a).replica.members c ≡ in_cluster o c
  pub alone : (a c : ℕ) → in_cluster o a ≡ false → ((w.node a).replica.members c ≡ true) ↔ (c ≡ a)
  pub history : w.history ≡ []
  pub links : (f t : ℕ) → w.links.queue f t ≡ []
  pub left : (a : ℕ) → left w a ≡ false
