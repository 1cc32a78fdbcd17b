-- The rules of a node's registrar, which runs its operations one at a time, each under the global lock.
-- n: above all nodes of the world. a: this node.
use Rattle.std.specs.Prelude.{ℕ, Bool, false, not, ◌&&◌, Option, Some, None, List, [], ◌∷◌, ◌==◌, if◌then◌else◌}
use Rattle.registry_model.specs.Process.{Process, Nodes, without_node}
use Rattle.registry_model.specs.Table.{Change}
use Rattle.registry_model.specs.Call.{NameCall, Reply, ContactLeft, is_grant, change_of}
use Rattle.registry_model.specs.History.{Entry}
use Rattle.protocol_model.specs.Round.{Round, begin, greatest, is_empty, rest, opens}
use Rattle.protocol_model.specs.Letter.{Global, Letter}
use Rattle.protocol_model.specs.Watch.{owed}
use Rattle.protocol_model.specs.Node.{Op, Current}
use Rattle.protocol_model.specs.Turn.{Turn, at_work, with_queue, send, send_all, enter, reply_with}

-- the registrar of node a, as the holder of its lock
abbrev pub registrar : ℕ → Process
registrar a = record { node = a; serial = 0 }

module _ (n a : ℕ) where
  -- a round over the members begins: the boss is asked
  abbrev pub ask_global : Op → Turn → Turn
  ask_global op u =
      send (greatest n u.node.replica.members) (Letter.SetLock (Global a) (registrar a))
      (at_work (Current.Asking op (begin n u.node.replica.members)) u)

  -- these get the lock back
  abbrev pub give_global : Nodes → Turn → Turn
  give_global s u = send_all n s (Letter.GiveBack (Global a) (registrar a) false) u

  -- a name call is answered; no other operation has an answer here
  abbrev pub answer_op : Op → Option Reply → Turn → Turn
  answer_op (Op.Name k call) (Some reply) u = reply_with a k reply u
  answer_op _ _ u = u

  -- Finish: the answer, if any; who was asked gets the lock back; the registrar is free
  abbrev pub finish : Op → Nodes → Option Reply → Turn → Turn
  finish op asked reply u =
      at_work Current.Free (give_global (λ c. asked c && not (u.node.replica.told c)) (answer_op op reply u))

  -- an operation that was carried out everywhere is done
  abbrev pub done : Op → Nodes → Option Reply → Turn → Turn
  done op asked reply u = finish op asked reply (enter (Entry.Done a) u)

  -- the change goes to every member, and each is to say that it was written
  abbrev pub write : Op → Nodes → Option Reply → Change → Turn → Turn
  write op asked reply change u =
      send_all n u.node.replica.members (Letter.Apply change)
      (at_work (Current.Writing op asked u.node.replica.members reply) u)

  -- a name call is decided: it is written where it is granted, and else ends at once
  abbrev pub decide : ℕ → NameCall → Nodes → Reply → Turn → Turn
  decide k call asked reply u =
      if is_grant reply
      then write (Op.Name k call) asked (Some reply) (change_of call) (enter (Entry.Name a k call reply) u)
      else finish (Op.Name k call) asked (Some reply) (enter (Entry.Name a k call reply) u)

  -- the round failed: who granted gets the lock back, and the operation waits for a retry
  abbrev pub give_up : Op → Nodes → Turn → Turn
  give_up op granted u = give_global granted (at_work (Current.Waiting op) u)

  -- the boss's grant sends the same request to the rest; r: the round before that answer
  abbrev pub ask_rest : ℕ → Bool → Letter → Round → Turn → Turn
  ask_rest c granted l r u =
      if opens c granted r then send_all n (λ x. rest r x && not (u.node.replica.told x)) l u else u

  -- c has carried out the operation, or has gone down: one node less is awaited
  abbrev pub await_less : ℕ → Current → Turn → Turn
  await_less c (Current.Writing op asked awaited reply) u =
      if awaited c
      then (if is_empty n (without_node c awaited)
      then done op asked reply u
      else at_work (Current.Writing op asked (without_node c awaited) reply) u)
      else u
  await_less c _ u = u

  -- a join by m is answered `contact_left`
  abbrev pub contact_left : ℕ → ℕ → Turn → Turn
  contact_left k m u = reply_with a k ContactLeft (enter (Entry.Join a k m ContactLeft) u)

  -- c has gone down: a join by c ends
  abbrev pub lose_contact : ℕ → Current → Turn → Turn
  lose_contact c (Current.Joining k m) u = if m == c then contact_left k m (at_work Current.Free u) else u
  lose_contact c _ u = u

  -- a join begins: the whole table goes to the contact
  abbrev pub ask_join : ℕ → ℕ → Turn → Turn
  ask_join k m u = send m (Letter.JoinAsk u.node.replica.table) (at_work (Current.Joining k m) u)

  -- the front of the queue becomes current; a join by a node that is told to have left is answered at once
  abbrev pub start_queue : List Op → Turn → Turn
  start_queue [] u = with_queue [] u
  start_queue (Op.Join k m ∷ ops) u =
      if u.node.replica.told m then start_queue ops (contact_left k m u) else ask_join k m (with_queue ops u)
  start_queue (op ∷ ops) u = ask_global op (with_queue ops u)

  -- an owed strike comes before the queue
  abbrev pub start_next : Option ℕ → Turn → Turn
  start_next (Some serial) u = ask_global (Op.Strike (record { node = a; serial = serial })) u
  start_next None u = start_queue u.node.queue u

  -- a free registrar begins the next operation
  abbrev pub start_free : Current → Turn → Turn
  start_free Current.Free u = start_next (owed a u.node.replica.table u.node.watch) u
  start_free _ u = u

  -- Start, at the end of each step
  abbrev pub start : Turn → Turn
  start u = start_free u.node.current u

  -- a refused round of the registrar begins anew
  abbrev pub retry_global : Current → Turn → Turn
  retry_global (Current.Waiting op) u = ask_global op u
  retry_global _ u = u
