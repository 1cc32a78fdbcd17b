-- What the refusals mean. Each has one reason, which is told by what is seen: by the events so far, and by what the world shows
-- behind them. An event is refused for the first of its reasons in this order, so each reason but the first says that those before
-- it aren't there.
-- o: the opening; ps: the accepted events; now: what is seen behind them; e: an event that comes next; a: a node; p: a process.
use mathlib.Core.Logic.{◌⊎◌}
use Rattle.std.specs.Prelude.{ℕ, true, false, ◌-◌, ◌≡◌, ◌<◌, ◌≤◌, ◌↔◌, Contains, Some, length, List, []}
use Rattle.std.specs.List.{slice_get}
use Rattle.registry_model.specs.Process.{Text, Process}
use Rattle.registry_model.specs.Call.{Look, Whereis, RegisteredNames, NoticesOf}
use Rattle.protocol_model.specs.Node.{Target, Named, Retries}
use Rattle.protocol_model.specs.Event.{Call, Event, Refusal, NoSuchNode, NodeLeft, NotLive, Busy, Reserved, UnknownNode, AlreadyJoined, NoSuchProcess, AlreadyExited, SerialsSpent, CallsSpent, last_u32, global_resource}
use Rattle.protocol_model.specs.World.{Opening, in_world, WorldEvent, At, place, other}
use Rattle.protocol_model.specs.Course.{Played, Seen, standing, IsRunning}
use Rattle.protocol_model.specs.Fit.{JoinAs, is_numbered, accepted_at}
use Rattle.protocol_model.specs.Answers.{WasSpawned, holder_in, calls_at, answers_under}

-- the event is a lock call of p at a on resource r
pub data IsLockCall (a : ℕ) (p : Process) (r : Text) : WorldEvent → Type 0 where
  Sets : (requester : Text) (target : Target) (retries : Retries) →
      IsLockCall a p r (At a (Event.Calling (Call.SetLock p r requester target retries)))
  Deletes : (requester : Text) (target : Target) →
      IsLockCall a p r (At a (Event.Calling (Call.DelLock p r requester target)))

-- p is a live process of a; one that wasn't spawned yet counts as live
pub record IsLiveAt (now : Seen) (a : ℕ) (p : Process) : Type 0 where
  pub home : p.node ≡ a
  pub serial : 0 < p.serial
  pub alive : now.dead p ≡ false

-- p is a process of a with the serial of one that was spawned there, or a lesser one
pub record IsIssuedBy (ps : List Played) (a : ℕ) (p : Process) : Type 0 where
  pub home : p.node ≡ a
  pub serial : 0 < p.serial
  pub last : Process
  pub beside : last.node ≡ a
  pub spawned : WasSpawned ps last
  pub least : p.serial ≤ last.serial

-- the event is the exit of p at a, or a look at its notices there
pub data NeedsProcess (a : ℕ) (p : Process) : WorldEvent → Type 0 where
  Exits : NeedsProcess a p (At a (Event.Exiting p))
  Looks : NeedsProcess a p (At a (Event.Calling (Call.LookUp (NoticesOf p))))

-- a look-up that a takes: of names, or of the notices of a process with the serial of one that was spawned there, or a lesser one
pub data MayLookUp (ps : List Played) (a : ℕ) : Look → Type 0 where
  OfName : (x : Text) → MayLookUp ps a (Whereis x)
  OfNames : MayLookUp ps a RegisteredNames
  OfNotices : (p : Process) → IsIssuedBy ps a p → MayLookUp ps a (NoticesOf p)

-- a name is named that none of the members has that a shows
pub record NamesStranger (now : Seen) (a : ℕ) (target : Target) : Type 0 where
  pub names : List (List ℕ)
  pub named : target ≡ Named names
  pub nodes : List ℕ
  pub among : Contains names nodes
  pub unknown : (c : ℕ) → Contains nodes c → (now.node a).members c ≡ false

-- a has accepted a join call that isn't answered yet
pub record WaitsToJoin (ps : List Played) (a : ℕ) : Type 0 where
  pub number : ℕ
  pub contact : ℕ
  pub accepted : Contains (accepted_at a ps) (JoinAs number contact)
  pub unanswered : answers_under a number ps ≡ []

-- a has accepted a lock call of p that isn't answered yet
pub record HasOpenCall (ps : List Played) (a : ℕ) (p : Process) : Type 0 where
  pub number : ℕ
  pub call : Call
  pub positive : 0 < number
  pub accepted : slice_get (calls_at a ps) (number - 1) ≡ Some call
  pub holder : holder_in call ≡ Some p
  pub unanswered : answers_under a number ps ≡ []

module _ (o : Opening) (ps : List Played) (now : Seen) (e : WorldEvent) where
  -- the nodes that the event names are of the world, and the one where it happens hasn't left
  pub record FindsItsNode : Type 0 where
    pub running : IsRunning o (standing o ps) (place e)
    pub named : in_world o (other e) ≡ true

  -- a node that it names isn't of the world
  abbrev pub IsNowhere : Type 0
  IsNowhere = (in_world o (place e) ≡ false) ⊎ (in_world o (other e) ≡ false)

  -- its node has left
  pub record IsLate : Type 0 where
    pub inside : in_world o (place e) ≡ true
    pub named : in_world o (other e) ≡ true
    pub gone : (standing o ps).registry.left (place e) ≡ true

  -- a lock call of p, which isn't a live process of its node
  pub record IsOfNobody (p : Process) : Type 0 where
    pub found : FindsItsNode
    pub node : ℕ
    pub resource : Text
    pub call : IsLockCall node p resource e
    pub nobody : IsLiveAt now node p → ⊥

  -- a lock call of p, a live process that has another one, which isn't answered yet
  pub record IsOfBusy (p : Process) : Type 0 where
    pub found : FindsItsNode
    pub node : ℕ
    pub resource : Text
    pub call : IsLockCall node p resource e
    pub live : IsLiveAt now node p
    pub busy : HasOpenCall ps node p

  -- a lock call on the resource `global`
  pub record IsForGlobal : Type 0 where
    pub found : FindsItsNode
    pub node : ℕ
    pub process : Process
    pub call : IsLockCall node process global_resource e
    pub live : IsLiveAt now node process
    pub idle : HasOpenCall ps node process → ⊥

  -- a `set_lock` with a name that no member has
  pub record IsForStranger : Type 0 where
    pub found : FindsItsNode
    pub node : ℕ
    pub process : Process
    pub resource : Text
    pub requester : Text
    pub target : Target
    pub retries : Retries
    pub call : e ≡ At node (Event.Calling (Call.SetLock process resource requester target retries))
    pub live : IsLiveAt now node process
    pub idle : HasOpenCall ps node process → ⊥
    pub free : resource ≡ global_resource → ⊥
    pub stranger : NamesStranger now node target

  -- a join call of a node that shows that it is joined, or waits to be
  pub record IsJoinOfJoined : Type 0 where
    pub found : FindsItsNode
    pub node : ℕ
    pub contact : ℕ
    pub call : e ≡ At node (Event.Calling (Call.JoinBy contact))
    pub joined : ((now.node node).joined ≡ true) ⊎ WaitsToJoin ps node

  -- the exit of what isn't a process of its node, or wasn't spawned yet, or a look at its notices
  pub record IsOfNone : Type 0 where
    pub found : FindsItsNode
    pub node : ℕ
    pub process : Process
    pub needs : NeedsProcess node process e
    pub none : IsIssuedBy ps node process → ⊥

  -- the exit of a process that is dead
  pub record IsExitOfDead : Type 0 where
    pub found : FindsItsNode
    pub node : ℕ
    pub process : Process
    pub exit : e ≡ At node (Event.Exiting process)
    pub issued : IsIssuedBy ps node process
    pub dead : now.dead process ≡ true

  -- a `spawn` where each process above those that were spawned there is dead, up to the greatest serial
  pub record IsBeyondSerials : Type 0 where
    pub found : FindsItsNode
    pub node : ℕ
    pub spawn : e ≡ At node (Event.Calling Call.Spawn)
    pub spent : (q : Process) → q.node ≡ node → 0 < q.serial → q.serial ≤ last_u32 →
        ((spawned : Process) → spawned.node ≡ node → WasSpawned ps spawned → spawned.serial < q.serial) → now.dead q ≡ true

  -- a numbered call of a node that has accepted as many as there are numbers, for which nothing else speaks
  pub record IsBeyondCalls : Type 0 where
    pub node : ℕ
    pub call : Call
    pub called : e ≡ At node (Event.Calling call)
    pub numbered : is_numbered call ≡ true
    pub spent : length (calls_at node ps) ≡ last_u32
    pub only : (refusal : Refusal) → now.refusal e ≡ Some refusal → refusal ≡ CallsSpent

-- An event is refused so exactly for this reason. A leave is refused as the clause `leave` of the headline says. Two refusals tell
-- of more than is seen: that a link is empty (`EmptyLink`), and that nothing waits for a retry (`NothingToRetry`). When they come
-- is said by `RefusesTheIdle`
pub record SaysWhy (o : Opening) (ps : List Played) (now : Seen) : Type 0 where
  pub no_such_node : (e : WorldEvent) → (now.refusal e ≡ Some NoSuchNode) ↔ IsNowhere o ps now e
  pub node_left : (e : WorldEvent) → (now.refusal e ≡ Some NodeLeft) ↔ IsLate o ps now e
  pub not_live : (e : WorldEvent) (p : Process) → (now.refusal e ≡ Some (NotLive p)) ↔ IsOfNobody o ps now e p
  pub busy : (e : WorldEvent) (p : Process) → (now.refusal e ≡ Some (Busy p)) ↔ IsOfBusy o ps now e p
  pub reserved : (e : WorldEvent) → (now.refusal e ≡ Some Reserved) ↔ IsForGlobal o ps now e
  pub unknown_node : (e : WorldEvent) → (now.refusal e ≡ Some UnknownNode) ↔ IsForStranger o ps now e
  pub already_joined : (e : WorldEvent) → (now.refusal e ≡ Some AlreadyJoined) ↔ IsJoinOfJoined o ps now e
  pub no_such_process : (e : WorldEvent) → (now.refusal e ≡ Some NoSuchProcess) ↔ IsOfNone o ps now e
  pub already_exited : (e : WorldEvent) → (now.refusal e ≡ Some AlreadyExited) ↔ IsExitOfDead o ps now e
  pub serials_spent : (e : WorldEvent) → (now.refusal e ≡ Some SerialsSpent) ↔ IsBeyondSerials o ps now e
  pub calls_spent : (e : WorldEvent) → (now.refusal e ≡ Some CallsSpent) ↔ IsBeyondCalls o ps now e
