-- What the functions that registry and protocol share mean: relations by cases, and not by the functions' recursions.
use Rattle.std.specs.Prelude.{ℕ, true, false, ◌≡◌, ◌<◌, ◌≤◌, ◌↔◌, IsTrue, Contains, AllPairs, Option, Some, None, List, ◌∷◌, ◌++◌}
use Rattle.registry_model.specs.Process.{Text, Process, Nodes}
use Rattle.registry_model.specs.Table.{Rule, Exit, Notify, NotifyAll, Pair, Table, is_rising, get, entry, Change, Put, Remove, StrikeOwner}
use Rattle.registry_model.specs.Call.{NameCall, Register, ReRegister, Unregister, Look, Whereis, RegisteredNames, NoticesOf, Reply, Yes, No, Ok, UnknownNode, Pid, Undefined, Names, Notices}
use Rattle.registry_model.specs.Settlement.{Notice, Noted, Settled, with_settled}
use Rattle.registry_model.specs.Registry.{Replica}

-- p has a name in this table
abbrev pub HasAName : Process → Table → Type 0
HasAName p table = (pair : Pair) × Contains table pair × (pair.owner ≡ p)

-- The reply to a name call at a node with these members and this table
pub data IsReplyTo (members : Nodes) (table : Table) : NameCall → Reply → Type 0 where
  -- the owner's node is no member
  ForStranger : (e : Pair) → members e.owner.node ≡ false → IsReplyTo members table (Register e) UnknownNode
  AgainForStranger : (e : Pair) → members e.owner.node ≡ false → IsReplyTo members table (ReRegister e) UnknownNode
  -- some process has the name
  OfUsedName : (e : Pair) (q : Process) → members e.owner.node ≡ true → get e.name table ≡ Some q →
      IsReplyTo members table (Register e) No
  -- the process has a name
  ForOwner : (e : Pair) → members e.owner.node ≡ true → HasAName e.owner table → IsReplyTo members table (Register e) No
  -- neither
  OfFreeName : (e : Pair) → members e.owner.node ≡ true → get e.name table ≡ None → (HasAName e.owner table → ⊥) →
      IsReplyTo members table (Register e) Yes
  -- whoever has the name or a name
  OfAnyName : (e : Pair) → members e.owner.node ≡ true → IsReplyTo members table (ReRegister e) Yes
  ToGiveUp : (x : Text) → IsReplyTo members table (Unregister x) Ok

-- these are the nodes of the set below n, each once and rising
pub record AreNodesBelow (n : ℕ) (s : Nodes) (nodes : List ℕ) : Type 0 where
  pub below : (c : ℕ) → Contains nodes c ↔ ((c < n) × (s c ≡ true))
  pub rising : AllPairs (λ c d. c < d) nodes

-- all names that have an owner, each once and rising
pub record AreNames (table : Table) (xs : List Text) : Type 0 where
  pub owned : (x : Text) → Contains xs x ↔ ((p : Process) × (get x table ≡ Some p))
  pub rising : AllPairs (λ x y. x < y) xs

-- The reply to a look-up at a node that shows this
pub data IsSeenIn (shown : Replica) : Look → Reply → Type 0 where
  OwnerOf : (x : Text) (p : Process) → get x shown.table ≡ Some p → IsSeenIn shown (Whereis x) (Pid p)
  NoOwnerOf : (x : Text) → get x shown.table ≡ None → IsSeenIn shown (Whereis x) Undefined
  AllNames : (xs : List Text) → AreNames shown.table xs → IsSeenIn shown RegisteredNames (Names xs)
  SentTo : (p : Process) → IsSeenIn shown (NoticesOf p) (Notices (shown.notices p.serial))

-- o stands under x, and under each other name what stood there
pub record IsGiven (x : Text) (o : Option Pair) (before after : Table) : Type 0 where
  pub here : entry x after ≡ o
  pub elsewhere : (y : Text) → (y ≡ x → ⊥) → entry y after ≡ entry y before

-- nobody has the names that p had, and under each other name stands what stood there
pub record IsStruck (p : Process) (before after : Table) : Type 0 where
  pub lost : (y : Text) → get y before ≡ Some p → entry y after ≡ None
  pub kept : (y : Text) → (get y before ≡ Some p → ⊥) → entry y after ≡ entry y before

-- what each change does
abbrev pub IsChanged : Change → Table → Table → Type 0
IsChanged (Put e) = IsGiven e.name (Some e)
IsChanged (Remove x) = IsGiven x None
IsChanged (StrikeOwner p) = IsStruck p

-- What a name call with this reply makes of the table of its group: `yes` gives the name to the owner, under its rule, `ok` to nobody,
-- and all that is refused leaves the table
pub data IsCarriedOut (before after : Table) : NameCall → Reply → Type 0 where
  Registered : (e : Pair) → IsGiven e.name (Some e) before after → IsCarriedOut before after (Register e) Yes
  Reregistered : (e : Pair) → IsGiven e.name (Some e) before after → IsCarriedOut before after (ReRegister e) Yes
  Unregistered : (x : Text) → IsGiven x None before after → IsCarriedOut before after (Unregister x) Ok
  Refused : (call : NameCall) → after ≡ before → IsCarriedOut before after call No
  OwnerUnknown : (call : NameCall) → after ≡ before → IsCarriedOut before after call UnknownNode

-- nobody has the names whose owners were on these nodes, and under each other name stands what stood there
pub record IsWithout (gone : Nodes) (before after : Table) : Type 0 where
  pub lost : (y : Text) (e : Pair) → entry y before ≡ Some e → gone e.owner.node ≡ true → entry y after ≡ None
  pub kept : (y : Text) (e : Pair) → entry y before ≡ Some e → gone e.owner.node ≡ false → entry y after ≡ Some e
  pub free : (y : Text) → entry y before ≡ None → entry y after ≡ None

-- these pairs stand under their names, and under each other name what stood there
pub record IsWrittenOver (pairs before after : Table) : Type 0 where
  pub written : (y : Text) (e : Pair) → entry y pairs ≡ Some e → entry y after ≡ Some e
  pub kept : (y : Text) → entry y pairs ≡ None → entry y after ≡ entry y before

-- the table rises and is so, and no other rising table is
pub record IsTheTable (IsSo : Table → Type 0) (table : Table) : Type 0 where
  pub rises : IsTrue (is_rising table)
  pub so : IsSo table
  pub alone : (other : Table) → IsTrue (is_rising other) → IsSo other → other ≡ table

-- both have this name, for two processes; e: the joiner's pair, own: the cluster's
pub record Clashes (table pairs : Table) (e own : Pair) : Type 0 where
  pub joiner : entry e.name pairs ≡ Some e
  pub cluster : entry e.name table ≡ Some own
  pub apart : e.owner ≡ own.owner → ⊥

-- p loses the name y to another process, where the cluster has it under this rule: that process is on a lesser node, or on the
-- same one and the cluster's
pub data Loses (table pairs : Table) (rule : Rule) : Process → Text → Type 0 where
  OfJoiner : (e own : Pair) → Clashes table pairs e own → own.rule ≡ rule → own.owner.node ≤ e.owner.node →
      Loses table pairs rule e.owner e.name
  OfCluster : (e own : Pair) → Clashes table pairs e own → own.rule ≡ rule → e.owner.node < own.owner.node →
      Loses table pairs rule own.owner e.name

-- p is sent this notice: it loses a name under `notify`, or it had one that nobody has under `notify_all`
pub data IsSent (table pairs : Table) : Process → Notice → Type 0 where
  OfLoss : (p : Process) (y : Text) → Loses table pairs Notify p y → IsSent table pairs p (record { name = y; other = None })
  OfJoiners : (e own : Pair) → Clashes table pairs e own → own.rule ≡ NotifyAll →
      IsSent table pairs own.owner (record { name = e.name; other = Some e.owner })
  OfClusters : (e own : Pair) → Clashes table pairs e own → own.rule ≡ NotifyAll →
      IsSent table pairs e.owner (record { name = e.name; other = Some own.owner })

-- one notice is sent before another: of a lesser name, or of the same one, to the cluster's process, and then to the joiner's
pub data IsSentBefore (table pairs : Table) (first second : Noted) : Type 0 where
  OfLesser : first.notice.name < second.notice.name → IsSentBefore table pairs first second
  OfCluster : first.notice.name ≡ second.notice.name → get first.notice.name table ≡ Some first.process →
      get second.notice.name pairs ≡ Some second.process → IsSentBefore table pairs first second

-- the name y goes to nobody: both have it for two, and the cluster under `notify_all`
abbrev pub GoesToNobody : Table → Table → Text → Type 0
GoesToNobody table pairs y = (e own : Pair) × Clashes table pairs e own × (own.rule ≡ NotifyAll) × (e.name ≡ y)

-- The settlement of a joiner's pairs against the cluster's table: what stands under each name once it is written, who dies, and who
-- is sent what
pub record Settles (table pairs : Table) (settled : Settled) : Type 0 where
  -- a name that one side alone has stays with its owner, under its rule
  pub of_cluster : (y : Text) → entry y pairs ≡ None → entry y (with_settled settled table) ≡ entry y table
  pub of_joiner : (e : Pair) → entry e.name pairs ≡ Some e → entry e.name table ≡ None →
      entry e.name (with_settled settled table) ≡ Some e
  -- one that both have for one process stays under the cluster's rule
  pub of_both : (e own : Pair) → entry e.name pairs ≡ Some e → entry e.name table ≡ Some own → e.owner ≡ own.owner →
      entry e.name (with_settled settled table) ≡ Some own
  -- one that both have for two goes to the process on the lesser node, and to the cluster's where the nodes are one; it keeps its rule
  pub to_joiner : (e own : Pair) → Clashes table pairs e own → (own.rule ≡ NotifyAll → ⊥) → e.owner.node < own.owner.node →
      entry e.name (with_settled settled table) ≡ Some e
  pub to_cluster : (e own : Pair) → Clashes table pairs e own → (own.rule ≡ NotifyAll → ⊥) → own.owner.node ≤ e.owner.node →
      entry e.name (with_settled settled table) ≡ Some own
  -- but where the cluster has it under `notify_all` nobody has it
  pub to_nobody : (e own : Pair) → Clashes table pairs e own → own.rule ≡ NotifyAll →
      entry e.name (with_settled settled table) ≡ None
  -- only names of the joiner are written, rising
  pub rises : IsTrue (is_rising settled.puts)
  pub written : (y : Text) (e : Pair) → entry y settled.puts ≡ Some e → entry y pairs ≡ Some e
  -- and the names that go to nobody are removed, no others are, and rising: so each of them once
  pub removed : (y : Text) → Contains settled.removes y ↔ GoesToNobody table pairs y
  pub removes_rise : AllPairs (λ x y. x < y) settled.removes
  -- who loses a name under `exit` dies, nobody else does, and each of them once
  pub killed : (p : Process) → Contains settled.fate.kills p ↔ ((y : Text) × Loses table pairs Exit p y)
  pub once : (before later : List Process) (p : Process) → settled.fate.kills ≡ before ++ p ∷ later → Contains before p → ⊥
  -- who loses one under another rule is sent a notice, nobody else is, and in order: so each of them once
  pub told : (n : Noted) → Contains settled.fate.notices n ↔ IsSent table pairs n.process n.notice
  pub in_order : AllPairs (IsSentBefore table pairs) settled.fate.notices
