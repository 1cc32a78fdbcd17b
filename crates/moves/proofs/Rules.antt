-- The single rules that steps are made of, with what was tested before each. An invariant that each of them keeps is
-- kept by every event. A rule that reads a letter takes it off its link in the same move.
use mathlib.Core.Logic.{◌⊎◌}
use Rattle.std.proofs.Common.{ℕ, Bool, true, false, ◌==◌, ◌≡◌, ◌+◌, Option, Some, None, List, [], ◌∷◌, ◌++◌}
use Rattle.std.specs.Prelude.{not, ◌&&◌, nat_lt, if◌then◌else◌, Contains, IsTrue}
use Rattle.std.specs.List.{list_all}
use Rattle.registry_model.specs.Process.{Text, Process, is_process, Nodes, at}
use Rattle.registry_model.specs.Table.{Table, Change, StrikeOwner}
use Rattle.registry_model.specs.Call.{NameCall, Look, Reply, Joined, NotMember, is_grant, change_of, reply_to, seen_in}
use Rattle.registry_model.specs.Settlement.{Fate, Settled, settle}
use Rattle.registry_model.specs.History.{Entry}
use Rattle.protocol_model.specs.Round.{Round, is_empty, owes, asked, answer, down, is_over, Held, GiveBack, ending}
use Rattle.protocol_model.specs.Letter.{Id, Global, Client, Letter, is_down}
use Rattle.protocol_model.specs.LockTable.{is_free_for, drop_holder}
use Rattle.protocol_model.specs.Watch.{is_live, is_issued, is_dead, next_serial, with_dead, owed}
use Rattle.protocol_model.specs.Node.{Node, Op, Current, LockPhase, LockCall, call_of, drop_call, targets, holds_global, wrote}
use Rattle.protocol_model.specs.Event.{Call, Event, Answer, is_join, has_joined}
use Rattle.protocol_model.specs.Turn.{Turn, begun, with_replica, with_locks, with_watch, with_calls, with_queue, at_work, count_call, keep_call, send, send_all, enter, reply_with}
use Rattle.protocol_model.specs.Registrar.{registrar, ask_global, finish, done, write, give_up, ask_rest, contact_left, ask_join}
use Rattle.protocol_model.specs.Deciding.{admit}
use Rattle.protocol_model.specs.Client.{in_phase, close_call, ask_lock, give_lock, refuse_lock, ask_back}
use Rattle.protocol_model.specs.Calling.{die, queued, spawned, looked}
use Rattle.protocol_model.specs.Reading.{admitted, welcomed, judge, take_back, told_of}
use Rattle.protocol_model.specs.World.{Opening, in_world, World, left, WorldEvent, At, Deliver, place, join_number, turn_of, apply, letter_taken, leaver_closed_out, accepted}

-- f: the sender of the letter that is read. Arguments that a test fixes are named, so that proofs have them
pub data Rule : Type 0 where
  -- calls
  CallsName : (call : NameCall) → Rule  -- a name call goes to the queue
  CallsJoin : (contact : ℕ) → Rule  -- a join goes to the queue
  CallsLock : Rule  -- a lock call takes its number; what it does follows as further rules
  Spawns : Rule
  LooksUp : (look : Look) → Rule
  Exits : (process : Process) → Rule
  -- the registrar begins
  Begins : (op : Op) → (ops : List Op) → Rule  -- the front of the queue, which is no join
  BeginsStrike : (serial : ℕ) → Rule
  Retries : (op : Op) → Rule
  AsksJoin : (number contact : ℕ) → (ops : List Op) → Rule
  SkipsJoin : (number contact : ℕ) → (ops : List Op) → Rule  -- the contact is told to have left
  -- the registrar's round
  HearsAnswer : (f : ℕ) → (id : Id) → (granted : Bool) → (op : Op) → (round : Round) → Rule
  MarksDown : (d : ℕ) → (op : Op) → (round : Round) → Rule
  GivesUp : (op : Op) → (round : Round) → (granted : Nodes) → Rule
  Grants : (number : ℕ) → (call : NameCall) → (round : Round) → Rule
  Denies : (number : ℕ) → (call : NameCall) → (round : Round) → Rule
  Strikes : (process : Process) → (round : Round) → Rule
  Admits : (joiner : ℕ) → (pairs : Table) → (round : Round) → Rule
  Passes : (joiner : ℕ) → (pairs : Table) → (round : Round) → Rule  -- the joiner is told to have left
  -- the registrar's write
  CountsApplied : (f : ℕ) → (op : Op) → (asked awaited : Nodes) → (reply : Option Reply) → Rule
  CountsDown : (d : ℕ) → (op : Op) → (asked awaited : Nodes) → (reply : Option Reply) → Rule
  Finishes : (op : Op) → (asked awaited : Nodes) → (reply : Option Reply) → Rule
  -- letters that are read
  Judges : (f : ℕ) → (id : Id) → (holder : Process) → Rule
  TakesBack : (f : ℕ) → (id : Id) → (holder : Process) → (ack : Bool) → Rule
  Releases : (f : ℕ) → (holder : Process) → Rule
  Writes : (f : ℕ) → (change : Change) → Rule
  QueuesJoin : (f : ℕ) → (pairs : Table) → Rule
  RefusesJoin : (f : ℕ) → (pairs : Table) → Rule
  EndsJoin : (f number : ℕ) → Rule
  Kills : (f : ℕ) → (letter : Letter) → (process : Process) → (receivers : Nodes) → Rule  -- before its letter is read
  IsAdmitted : (f joiner : ℕ) → (settled : Settled) → Rule
  IsWelcomed : (f number : ℕ) → (members : Nodes) → (pairs : Table) → (told : Nodes) → (fate : Fate) → Rule
  IsTold : (f : ℕ) → Rule  -- reads `Down`
  LosesContact : (number contact : ℕ) → Rule
  Ignores : (f : ℕ) → (letter : Letter) → Rule  -- a letter that isn't awaited
  Drops : (f : ℕ) → (letter : Letter) → Rule  -- a letter from a node that is told to have left
  -- clients' lock calls
  AsksLock : (call : LockCall) → Rule
  FailsLock : (call : LockCall) → Rule  -- there is nobody to ask
  HearsLock : (f : ℕ) → (id : Id) → (granted : Bool) → (call : LockCall) → (round : Round) → Rule
  MarksLockDown : (d : ℕ) → (call : LockCall) → (round : Round) → Rule
  WinsLock : (call : LockCall) → (round : Round) → Rule
  GivesUpLock : (call : LockCall) → (round : Round) → (granted : Nodes) → Rule
  DeletesLock : (call : LockCall) → Rule
  DeletesNothing : (call : LockCall) → Rule  -- there is nobody to ask
  CountsGivenBack : (f : ℕ) → (call : LockCall) → (owing : Nodes) → Rule  -- others still owe
  EndsDeletion : (f : ℕ) → (call : LockCall) → (owing : Nodes) → Rule
  CountsLockDown : (d : ℕ) → (call : LockCall) → (owing : Nodes) → Rule  -- others still owe
  EndsDeletionDown : (d : ℕ) → (call : LockCall) → (owing : Nodes) → Rule
  -- the last step
  Leaves : Rule

-- the letter that a rule takes, with its sender
pub record Taken : Type 0 where
  pub sender : ℕ
  pub letter : Letter

abbrev pub taking : ℕ → Letter → Option Taken
taking f l = Some (record { sender = f; letter = l })

-- p dies, and these are to drop its grants
abbrev pub die_to : ℕ → Nodes → Process → Turn → Turn
die_to n receivers p u = send_all n receivers (Letter.ReleaseOf p)
    (with_calls (drop_call p) (with_watch (with_dead p.serial) u))

-- who dies by a letter
abbrev pub kills_in : Letter → List Process
kills_in (Letter.Admit j settled) = settled.fate.kills
kills_in (Letter.Welcome members pairs told fate) = fate.kills
kills_in _ = []

-- a lock call's phase has a round in which f owes an answer
abbrev pub is_heard_in : ℕ → LockPhase → Bool
is_heard_in f (LockPhase.Asking r) = owes r f
is_heard_in f _ = false

-- a lock call's phase has a deletion in which f owes its acknowledgement
abbrev pub is_owed_in : ℕ → LockPhase → Bool
is_owed_in f (LockPhase.Deleting owing) = owing f
is_owed_in f _ = false

abbrev pub some_call : (LockPhase → Bool) → Option LockCall → Bool
some_call test None = false
some_call test (Some c) = test c.phase

-- the registrar awaits f's answer
abbrev pub is_heard : ℕ → Current → Bool
is_heard f (Current.Asking op r) = owes r f
is_heard f _ = false

-- the registrar awaits that f has written
abbrev pub is_awaited : ℕ → Current → Bool
is_awaited f (Current.Writing op asked awaited reply) = awaited f
is_awaited f _ = false

-- the registrar waits for the contact f
abbrev pub is_joining_by : ℕ → Current → Bool
is_joining_by f (Current.Joining k m) = m == f
is_joining_by f _ = false

-- node a, which is v, awaits this letter from f
abbrev pub awaits : ℕ → Node → ℕ → Letter → Bool
awaits a v f (Letter.LockAnswer id p granted) =
    if is_process p (registrar a) then is_heard f v.current else some_call (is_heard_in f) (call_of p v.calls)
awaits a v f (Letter.GivenBack p) = some_call (is_owed_in f) (call_of p v.calls)
awaits a v f Letter.Applied = is_awaited f v.current
awaits a v f Letter.JoinRefused = is_joining_by f v.current
awaits a v f (Letter.Welcome members pairs told fate) = is_joining_by f v.current
awaits a v f _ = true

-- the round of an operation is over, and held by the members as they are now
pub record IsHeld (n : ℕ) (v : Node) (op : Op) (r : Round) : Type 0 where
  pub current : v.current ≡ Current.Asking op r
  pub over : is_over n r ≡ true
  pub held : ending n v.replica.members r ≡ Held

-- this lock call of node a, which is v, is new: its process is live and has no other
pub record IsNew (a : ℕ) (v : Node) (c : LockCall) : Type 0 where
  pub live : is_live a v.watch c.holder ≡ true
  pub none : call_of c.holder v.calls ≡ None
  pub number : c.number ≡ v.last_call
  pub resource : Text
  pub requester : Text
  pub id : c.id ≡ Client resource requester

-- it was refused before, and is the same but for its retries
pub record IsRetried (v : Node) (c : LockCall) : Type 0 where
  pub before : LockCall
  pub open_call : call_of c.holder v.calls ≡ Some before
  pub phase : before.phase ≡ LockPhase.Waiting
  pub holder : before.holder ≡ c.holder
  pub id : before.id ≡ c.id
  pub number : before.number ≡ c.number
  pub target : before.target ≡ c.target

-- this lock call of node a is open, in this phase
pub record IsOpen (v : Node) (c : LockCall) (now : LockPhase) : Type 0 where
  pub call : call_of c.holder v.calls ≡ Some c
  pub phase : c.phase ≡ now

module _ (o : Opening) (a : ℕ) where
  -- what the node makes of it
  abbrev pub made : (ℕ → ℕ) → Rule → Turn → Turn
  made number (CallsName c) u = queued o.bound a (Op.Name (u.node.last_call + 1) c) (count_call u)
  made number (CallsJoin m) u = queued o.bound a (Op.Join (u.node.last_call + 1) m) (count_call u)
  made number CallsLock u = count_call u
  made number Spawns u = spawned o.bound a (next_serial u.node.watch) u
  made number (LooksUp look) u = looked o.bound a look (seen_in u.node.replica look) u
  made number (Exits p) u = die o.bound a p (enter (Entry.Exit p) u)
  made number (Begins op ops) u = ask_global o.bound a op (with_queue ops u)
  made number (BeginsStrike serial) u = ask_global o.bound a (Op.Strike (record { node = a; serial = serial })) u
  made number (Retries op) u = ask_global o.bound a op u
  made number (AsksJoin k m ops) u = ask_join o.bound a k m (with_queue ops u)
  made number (SkipsJoin k m ops) u = contact_left o.bound a k m (with_queue ops u)
  made number (HearsAnswer f id granted op r) u =
      at_work (Current.Asking op (answer f granted r))
      (ask_rest o.bound a f granted (Letter.SetLock (Global a) (registrar a)) r u)
  made number (MarksDown d op r) u = at_work (Current.Asking op (down d r)) u
  made number (GivesUp op r granted) u = give_up o.bound a op granted u
  made number (Grants k call r) u =
      let reply : Reply = reply_to u.node.replica.members u.node.replica.table call in
      write o.bound a (Op.Name k call) (asked r) (Some reply) (change_of call) (enter (Entry.Name a k call reply) u)
  made number (Denies k call r) u =
      let reply : Reply = reply_to u.node.replica.members u.node.replica.table call in
      finish o.bound a (Op.Name k call) (asked r) (Some reply) (enter (Entry.Name a k call reply) u)
  made number (Strikes p r) u = write o.bound a (Op.Strike p) (asked r) None (StrikeOwner p) (enter (Entry.Strike p) u)
  made number (Admits j pairs r) u = admit o.bound a number j pairs (asked r) (settle u.node.replica.table pairs) u
  made number (Passes j pairs r) u = finish o.bound a (Op.Admission j pairs) (asked r) None u
  made number (CountsApplied f op asked awaited reply) u = at_work (Current.Writing op asked (at awaited f false) reply)
      u
  made number (CountsDown d op asked awaited reply) u = at_work (Current.Writing op asked (at awaited d false) reply) u
  made number (Finishes op asked awaited reply) u = done o.bound a op asked reply u
  made number (Judges f id p) u = judge o.bound a number f id p (is_free_for id p u.node.locks) u
  made number (TakesBack f id p ack) u = take_back o.bound a number f id p ack u
  made number (Releases f p) u = with_locks (drop_holder p) u
  made number (Writes f change) u = send f Letter.Applied (with_replica (wrote change) u)
  made number (QueuesJoin f pairs) u = queued o.bound a (Op.Admission f pairs) u
  made number (RefusesJoin f pairs) u = send f Letter.JoinRefused (enter (Entry.Join f (number f) a NotMember) u)
  made number (EndsJoin f k) u = reply_with a k NotMember (at_work Current.Free u)
  made number (Kills f l p receivers) u = die_to o.bound receivers p u
  made number (IsAdmitted f j settled) u = send f Letter.Applied (with_replica (admitted a j settled) u)
  made number (IsWelcomed f k members pairs told fate) u =
      send f Letter.Applied (reply_with a k Joined (at_work Current.Free
      (with_replica (welcomed a members pairs told fate) u)))
  made number (IsTold f) u = told_of o.bound a number f u
  made number (LosesContact k m) u = contact_left o.bound a k m (at_work Current.Free u)
  made number (Ignores f l) u = u
  made number (Drops f l) u = u
  made number (AsksLock c) u = ask_lock o.bound a c (targets u.node.replica.members c.target) u
  made number (FailsLock c) u = close_call o.bound a c false u
  made number (HearsLock f id granted c r) u =
      keep_call (in_phase (LockPhase.Asking (answer f granted r)) c)
      (ask_rest o.bound a f granted (Letter.SetLock c.id c.holder) r u)
  made number (MarksLockDown d c r) u = keep_call (in_phase (LockPhase.Asking (down d r)) c) u
  made number (WinsLock c r) u = close_call o.bound a c true u
  made number (GivesUpLock c r granted) u = refuse_lock o.bound a c (give_lock o.bound a c granted u)
  made number (DeletesLock c) u = ask_back o.bound a c (targets u.node.replica.members c.target) u
  made number (DeletesNothing c) u = close_call o.bound a c true u
  made number (CountsGivenBack f c owing) u = keep_call (in_phase (LockPhase.Deleting (at owing f false)) c) u
  made number (EndsDeletion f c owing) u = close_call o.bound a c true u
  made number (CountsLockDown d c owing) u = keep_call (in_phase (LockPhase.Deleting (at owing d false)) c) u
  made number (EndsDeletionDown d c owing) u = close_call o.bound a c true u
  made number Leaves u = send_all o.bound (λ c. in_world o c && not (c == a)) Letter.Down (enter (Entry.Left a) u)

  -- the letter that it takes
  abbrev pub takes : Rule → Option Taken
  takes (HearsAnswer f id granted op r) = taking f (Letter.LockAnswer id (registrar a) granted)
  takes (CountsApplied f op asked awaited reply) = taking f Letter.Applied
  takes (Judges f id p) = taking f (Letter.SetLock id p)
  takes (TakesBack f id p ack) = taking f (Letter.GiveBack id p ack)
  takes (Releases f p) = taking f (Letter.ReleaseOf p)
  takes (Writes f change) = taking f (Letter.Apply change)
  takes (QueuesJoin f pairs) = taking f (Letter.JoinAsk pairs)
  takes (RefusesJoin f pairs) = taking f (Letter.JoinAsk pairs)
  takes (EndsJoin f k) = taking f Letter.JoinRefused
  takes (IsAdmitted f j settled) = taking f (Letter.Admit j settled)
  takes (IsWelcomed f k members pairs told fate) = taking f (Letter.Welcome members pairs told fate)
  takes (IsTold f) = taking f Letter.Down
  takes (Ignores f l) = taking f l
  takes (Drops f l) = taking f l
  takes (HearsLock f id granted c r) = taking f (Letter.LockAnswer id c.holder granted)
  takes (CountsGivenBack f c owing) = taking f (Letter.GivenBack c.holder)
  takes (EndsDeletion f c owing) = taking f (Letter.GivenBack c.holder)
  takes _ = None

  -- the letter is the oldest on its link
  abbrev pub IsFront : World → ℕ → Letter → Type 0
  IsFront w f l = (rest : List Letter) × (w.links.queue f a ≡ l ∷ rest)

  abbrev pub FrontTaken : World → Option Taken → Type 0
  FrontTaken w None = Unit {0}
  FrontTaken w (Some t) = (in_world o t.sender ≡ true) × IsFront w t.sender t.letter

  -- what was tested of node v before the rule
  abbrev pub Tested : World → Node → Rule → Type 0
  Tested w v (CallsJoin m) = (has_joined v ≡ false) × (in_world o m ≡ true)
  Tested w v (Exits p) = (is_issued a v.watch p ≡ true) × (is_dead v.watch p.serial ≡ false)
  Tested w v (Begins op ops) = (v.current ≡ Current.Free) × (v.queue ≡ op ∷ ops) × (is_join op ≡ false)
  Tested w v (BeginsStrike serial) = (v.current ≡ Current.Free) × (owed a v.replica.table v.watch ≡ Some serial)
  Tested w v (Retries op) = v.current ≡ Current.Waiting op
  Tested w v (AsksJoin k m ops) = (v.current ≡ Current.Free) × (v.queue ≡ Op.Join k m ∷ ops)
      × (v.replica.told m ≡ false)
  Tested w v (SkipsJoin k m ops) = (v.current ≡ Current.Free) × (v.queue ≡ Op.Join k m ∷ ops)
      × (v.replica.told m ≡ true)
  Tested w v (HearsAnswer f id granted op r) = (v.replica.told f ≡ false) × (v.current ≡ Current.Asking op r)
      × (owes r f ≡ true)
  Tested w v (MarksDown d op r) = (v.replica.told d ≡ true) × (v.current ≡ Current.Asking op r)
  Tested w v (GivesUp op r granted) =
      (v.current ≡ Current.Asking op r) × (is_over o.bound r ≡ true)
      × (ending o.bound v.replica.members r ≡ GiveBack granted)
  Tested w v (Grants k call r) =
      IsHeld o.bound v (Op.Name k call) r × (is_grant (reply_to v.replica.members v.replica.table call) ≡ true)
  Tested w v (Denies k call r) =
      IsHeld o.bound v (Op.Name k call) r × (is_grant (reply_to v.replica.members v.replica.table call) ≡ false)
  Tested w v (Strikes p r) = IsHeld o.bound v (Op.Strike p) r
  Tested w v (Admits j pairs r) = IsHeld o.bound v (Op.Admission j pairs) r × (v.replica.told j ≡ false)
  Tested w v (Passes j pairs r) = IsHeld o.bound v (Op.Admission j pairs) r × (v.replica.told j ≡ true)
  Tested w v (CountsApplied f op asked awaited reply) =
      (v.replica.told f ≡ false) × (v.current ≡ Current.Writing op asked awaited reply) × (awaited f ≡ true)
  Tested w v (CountsDown d op asked awaited reply) =
      (v.replica.told d ≡ true) × (v.current ≡ Current.Writing op asked awaited reply) × (awaited d ≡ true)
  Tested w v (Finishes op asked awaited reply) =
      (v.current ≡ Current.Writing op asked awaited reply) × (is_empty o.bound awaited ≡ true)
  Tested w v (Judges f id p) = v.replica.told f ≡ false
  Tested w v (TakesBack f id p ack) = v.replica.told f ≡ false
  Tested w v (Releases f p) = v.replica.told f ≡ false
  Tested w v (Writes f change) = v.replica.told f ≡ false
  Tested w v (QueuesJoin f pairs) = (v.replica.told f ≡ false) × (v.replica.joined ≡ true)
  Tested w v (RefusesJoin f pairs) = (v.replica.told f ≡ false) × (v.replica.joined ≡ false)
  Tested w v (EndsJoin f k) = (v.replica.told f ≡ false) × (v.current ≡ Current.Joining k f)
  Tested w v (Kills f l p receivers) =
      (v.replica.told f ≡ false) × (in_world o f ≡ true) × IsFront w f l × Contains (kills_in l) p
      × (is_live a v.watch p ≡ true)
      × (awaits a v f l ≡ true) × ((c : ℕ) → v.replica.members c ≡ true → receivers c ≡ true)
  Tested w v (IsAdmitted f j settled) = v.replica.told f ≡ false
  Tested w v (IsWelcomed f k members pairs told fate) = (v.replica.told f ≡ false) × (v.current ≡ Current.Joining k f)
  Tested w v (LosesContact k m) = (v.replica.told m ≡ true) × (v.current ≡ Current.Joining k m)
  Tested w v (Ignores f l) = (v.replica.told f ≡ false) × (awaits a v f l ≡ false)
  Tested w v (Drops f l) = (v.replica.told f ≡ true) × (is_down l ≡ false)
  Tested w v (AsksLock c) =
      (IsNew a v c ⊎ IsRetried v c) × (is_empty o.bound (targets v.replica.members c.target) ≡ false)
  Tested w v (FailsLock c) =
      (IsNew a v c ⊎ IsRetried v c) × (is_empty o.bound (targets v.replica.members c.target) ≡ true)
  Tested w v (HearsLock f id granted c r) =
      (v.replica.told f ≡ false) × (is_process c.holder (registrar a) ≡ false) × IsOpen v c (LockPhase.Asking r)
      × (owes r f ≡ true)
  Tested w v (MarksLockDown d c r) = (v.replica.told d ≡ true) × IsOpen v c (LockPhase.Asking r)
  Tested w v (WinsLock c r) =
      IsOpen v c (LockPhase.Asking r) × (is_over o.bound r ≡ true) × (ending o.bound (asked r) r ≡ Held)
  Tested w v (GivesUpLock c r granted) =
      IsOpen v c (LockPhase.Asking r) × (is_over o.bound r ≡ true) × (ending o.bound (asked r) r ≡ GiveBack granted)
  Tested w v (DeletesLock c) = IsNew a v c × (is_empty o.bound (targets v.replica.members c.target) ≡ false)
  Tested w v (DeletesNothing c) = IsNew a v c × (is_empty o.bound (targets v.replica.members c.target) ≡ true)
  Tested w v (CountsGivenBack f c owing) =
      (v.replica.told f ≡ false) × IsOpen v c (LockPhase.Deleting owing) × (owing f ≡ true)
      × (is_empty o.bound (at owing f false) ≡ false)
  Tested w v (EndsDeletion f c owing) =
      (v.replica.told f ≡ false) × IsOpen v c (LockPhase.Deleting owing) × (owing f ≡ true)
      × (is_empty o.bound (at owing f false) ≡ true)
  Tested w v (CountsLockDown d c owing) =
      (v.replica.told d ≡ true) × IsOpen v c (LockPhase.Deleting owing) × (owing d ≡ true)
      × (is_empty o.bound (at owing d false) ≡ false)
  Tested w v (EndsDeletionDown d c owing) =
      (v.replica.told d ≡ true) × IsOpen v c (LockPhase.Deleting owing) × (owing d ≡ true)
      × (is_empty o.bound (at owing d false) ≡ true)
  Tested w v Leaves = holds_global v ≡ false
  Tested w v _ = Unit {0}

  -- the node is of the world and runs, the letter is there, and what the rule needs was tested
  pub record May (w : World) (r : Rule) : Type 0 where
    pub inside : in_world o a ≡ true
    pub running : left w a ≡ false
    pub front : FrontTaken w (takes r)
    pub tested : Tested w (w.node a) r

  -- the world without the letter that is taken
  abbrev pub without_letter : Option Taken → World → World
  without_letter None w = w
  without_letter (Some t) w = letter_taken (Deliver t.sender a) w

  -- a node that leaves is closed out
  abbrev pub closed_by : Rule → World → World
  closed_by Leaves w = leaver_closed_out (At a Event.Leave) w
  closed_by _ w = w

  -- what the node does by the rule, with what it sends, enters and answers
  abbrev pub turn_by : World → Rule → Turn
  turn_by w r = made (join_number w) r (begun (w.node a))

  -- what the rule makes of the world
  abbrev pub effect : Rule → World → World
  effect r w = closed_by r (apply a (turn_by w r) (without_letter (takes r) w))

  -- a chain of rules at the node
  abbrev pub effects : List Rule → World → World
  effects [] w = w
  effects (r ∷ rs) w = effects rs (effect r w)

  abbrev pub MayAll : List Rule → World → Type 0
  MayAll [] w = Unit {0}
  MayAll (r ∷ rs) w = May w r × MayAll rs (effect r w)

  -- what a chain enters and answers, in order
  abbrev pub entries_by : List Rule → World → List Entry
  entries_by [] w = []
  entries_by (r ∷ rs) w = (turn_by w r).entries ++ entries_by rs (effect r w)

  abbrev pub answers_by : List Rule → World → List Answer
  answers_by [] w = []
  answers_by (r ∷ rs) w = (turn_by w r).answers ++ answers_by rs (effect r w)

  -- the rule that an event begins with, if it is one that only this event makes
  abbrev pub first_by_letter : ℕ → List Letter → List Rule
  first_by_letter f (Letter.Down ∷ ls) = IsTold f ∷ []
  first_by_letter f _ = []

  abbrev pub first_by_call : Call → List Rule
  first_by_call Call.Spawn = Spawns ∷ []
  first_by_call (Call.LookUp look) = LooksUp look ∷ []
  first_by_call (Call.OnName c) = CallsName c ∷ []
  first_by_call (Call.SetLock p r q target retries) = CallsLock ∷ []
  first_by_call (Call.DelLock p r q target) = CallsLock ∷ []
  first_by_call (Call.JoinBy m) = CallsJoin m ∷ []

  abbrev pub first_by : World → WorldEvent → List Rule
  first_by w (At b (Event.Calling c)) = first_by_call c
  first_by w (At b Event.Retry) = []
  first_by w (At b (Event.Exiting p)) = Exits p ∷ []
  first_by w (At b Event.Leave) = Leaves ∷ []
  first_by w (Deliver f t) = first_by_letter f (w.links.queue f t)

-- no rule of these: they stand first in the chain of their own event, and nowhere else
abbrev pub is_quiet : Rule → Bool
is_quiet (CallsName c) = false
is_quiet (CallsJoin m) = false
is_quiet CallsLock = false
is_quiet Spawns = false
is_quiet (LooksUp look) = false
is_quiet (Exits p) = false
is_quiet (IsTold f) = false
is_quiet Leaves = false
is_quiet _ = true

-- the lock calls of node a rise strictly by serial, and all are of its own processes
abbrev pub is_after : ℕ → List LockCall → Bool
is_after s [] = true
is_after s (c ∷ cs) = nat_lt s c.holder.serial

abbrev pub is_ordered : ℕ → List LockCall → Bool
is_ordered a [] = true
is_ordered a (c ∷ cs) = (c.holder.node == a) && nat_lt 0 c.holder.serial && is_after c.holder.serial cs && is_ordered a
    cs

-- the lock calls of each node are so
abbrev pub Ordered : World → Type 0
Ordered w = (a : ℕ) → is_ordered a (w.node a).calls ≡ true

-- An accepted event is a chain of rules at its place, which begins with its own rule
pub record Walked (o : Opening) (w : World) (e : WorldEvent) : Type 0 where
  pub rest : List Rule
  pub quiet : IsTrue (list_all is_quiet rest)
  pub may : MayAll o (place e) (first_by o (place e) w e ++ rest) w
  pub world : effects o (place e) (first_by o (place e) w e ++ rest) w ≡ accepted o w e
  pub entries : entries_by o (place e) (first_by o (place e) w e ++ rest) w ≡ (turn_of o w e).entries
  pub answers : answers_by o (place e) (first_by o (place e) w e ++ rest) w ≡ (turn_of o w e).answers
