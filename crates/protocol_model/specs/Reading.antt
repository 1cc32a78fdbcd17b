-- A step of a node that a letter makes.
-- n: above all nodes of the world. a: this node. number j: the number of j's current join, for the history alone.
use Rattle.std.specs.Prelude.{ℕ, Bool, true, not, ◌&&◌, ◌||◌, ◌==◌, ◌++◌, fold, if◌then◌else◌}
use Rattle.registry_model.specs.Process.{Process, is_process, Nodes, with_node, without_node}
use Rattle.registry_model.specs.Table.{Table, Put, Remove, without}
use Rattle.registry_model.specs.Call.{Joined, NotMember}
use Rattle.registry_model.specs.Settlement.{notices_to, Fate, Settled}
use Rattle.registry_model.specs.Registry.{process_of, Replica}
use Rattle.registry_model.specs.History.{Entry}
use Rattle.protocol_model.specs.Letter.{Id, Letter, is_down}
use Rattle.protocol_model.specs.LockTable.{is_free_for, grant, give_back, drop_holder, drop_node}
use Rattle.protocol_model.specs.Node.{Op, Current, call_of, wrote}
use Rattle.protocol_model.specs.Turn.{Turn, with_replica, with_locks, at_work, send, enter, reply_with}
use Rattle.protocol_model.specs.Registrar.{registrar, start, await_less, lose_contact}
use Rattle.protocol_model.specs.Deciding.{hear_answer, lose}
use Rattle.protocol_model.specs.Client.{hear_lock, owe_less, lose_node}
use Rattle.protocol_model.specs.Calling.{kill, queued}

-- j is a member, unless it is told to have left
abbrev pub with_member : ℕ → Replica → Replica
with_member j v = if v.told j then v else record v { members = with_node j v.members }

-- what was settled is written: the pairs, then the names that nobody has
abbrev pub wrote_all : Settled → Replica → Replica
wrote_all settled v =
    fold (λ replica x. wrote (Remove x) replica) (fold (λ replica pair. wrote (Put pair) replica) v settled.puts)
    settled.removes

-- the notices to processes of node a are added to theirs
abbrev pub noted : ℕ → Fate → Replica → Replica
noted a fate v = record v { notices = λ serial. v.notices serial ++ notices_to (process_of a serial) fate.notices }

-- at node a, j is admitted: it is a member, what was settled is written, and the notices are added
abbrev pub admitted : ℕ → ℕ → Settled → Replica → Replica
admitted a j settled v = noted a settled.fate (wrote_all settled (with_member j v))

-- what a node has that has joined these members, with this table, where it was told that these have left
abbrev pub joined_with : Nodes → Table → Nodes → Replica → Replica
joined_with members pairs gone v =
    record v { table = without gone pairs; members = λ c. members c && not (gone c); told = gone; joined = true }

-- node a, which was lone, is welcomed with what its sponsor has, less what either was told has left
abbrev pub welcomed : ℕ → Nodes → Table → Nodes → Fate → Replica → Replica
welcomed a members pairs told fate v = noted a fate (joined_with members pairs (λ d. v.told d || told d) v)

-- d is told to have left: it is no member, and what is owned on it goes
abbrev pub bereft : ℕ → Replica → Replica
bereft d v = record v { told = with_node d v.told; members = without_node d v.members; table = without (λ c. c == d) v.table }

module _ (n a : ℕ) (number : ℕ → ℕ) where
  -- the lock table answers f
  abbrev pub judge : ℕ → Id → Process → Bool → Turn → Turn
  judge f id p free u =
      send f (Letter.LockAnswer id p free) (if free then with_locks (grant id p) u else u)

  -- an answer goes to its holder's round
  abbrev pub hear : ℕ → Process → Bool → Turn → Turn
  hear f p granted u =
      if is_process p (registrar a)
      then hear_answer n a number f granted u.node.current u
      else hear_lock n a f granted (call_of p u.node.calls) u

  -- a count is taken back, which is answered where the letter says so
  abbrev pub take_back : ℕ → Id → Process → Bool → Turn → Turn
  take_back f id p ack u =
      if ack then send f (Letter.GivenBack p) (with_locks (give_back id p) u) else with_locks (give_back id p) u

  -- f asks to join: a joined node queues its admission, a lone one refuses
  abbrev pub asked_to_admit : ℕ → Table → Turn → Turn
  asked_to_admit f pairs u =
      if u.node.replica.joined
      then queued n a (Op.Admission f pairs) u
      else send f Letter.JoinRefused (enter (Entry.Join f (number f) a NotMember) u)

  -- a join by f is refused
  abbrev pub refused_join : ℕ → Current → Turn → Turn
  refused_join f (Current.Joining k m) u = if m == f then reply_with a k NotMember (at_work Current.Free u) else u
  refused_join f _ u = u

  -- a join by f is granted, the notices to processes of this node are added, and who dies of it dies
  abbrev pub welcome : ℕ → Nodes → Table → Nodes → Fate → Current → Turn → Turn
  welcome f members pairs told fate (Current.Joining k m) u =
      if m == f
      then send f Letter.Applied (reply_with a k Joined
      (at_work Current.Free (kill n a fate.kills (with_replica (welcomed a members pairs told fate) u))))
      else u
  welcome f members pairs told fate _ u = u

  -- the departure of d is entered, and this node takes it in
  abbrev pub told_of : ℕ → Turn → Turn
  told_of d u = with_locks (drop_node d) (with_replica (bereft d) (enter (Entry.Told a d) u))

  -- a join by d ends
  abbrev pub lose_join : ℕ → Turn → Turn
  lose_join d u = lose_contact n a d u.node.current u

  -- the registrar's round or wait is told
  abbrev pub lose_current : ℕ → Turn → Turn
  lose_current d u = lose n a number d u.node.current u

  -- d has gone down: this node is told, a join by d ends, the registrar is told, then the lock calls
  abbrev pub bereave : ℕ → Turn → Turn
  bereave d u = lose_node n a d (lose_current d (lose_join d (told_of d u)))

  -- what a node does with a letter from f
  abbrev pub read : ℕ → Letter → Turn → Turn
  read f (Letter.SetLock id p) u = judge f id p (is_free_for id p u.node.locks) u
  read f (Letter.LockAnswer id p granted) u = hear f p granted u
  read f (Letter.GiveBack id p ack) u = take_back f id p ack u
  read f (Letter.GivenBack p) u = owe_less n a f (call_of p u.node.calls) u
  read f (Letter.ReleaseOf p) u = with_locks (drop_holder p) u
  read f (Letter.Apply change) u = send f Letter.Applied (with_replica (wrote change) u)
  read f Letter.Applied u = await_less n a f u.node.current u
  read f (Letter.JoinAsk pairs) u = asked_to_admit f pairs u
  read f Letter.JoinRefused u = refused_join f u.node.current u
  read f (Letter.Admit j settled) u =
      send f Letter.Applied (kill n a settled.fate.kills (with_replica (admitted a j settled) u))
  read f (Letter.Welcome members pairs told fate) u = welcome f members pairs told fate u.node.current u
  read f Letter.Down u = bereave f u

  -- a letter from a node that is told to have left is dropped unread, but for `Down`
  abbrev pub receive : ℕ → Letter → Turn → Turn
  receive f l u = start n a (if u.node.replica.told f && not (is_down l) then u else read f l u)
