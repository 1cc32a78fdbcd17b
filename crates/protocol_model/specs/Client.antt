-- The rules of clients' lock calls. n: above all nodes of the world. a: this node.
use Rattle.std.specs.Prelude.{ℕ, Bool, true, false, zero, ◌-◌, Option, Some, None, fold, if◌then◌else◌}
use Rattle.registry_model.specs.Process.{Text, Process, Nodes, without_node}
use Rattle.registry_model.specs.Call.{True, False}
use Rattle.protocol_model.specs.Round.{Round, begin, greatest, is_empty, owes, asked, answer, down, is_over, Ending, ending}
use Rattle.protocol_model.specs.Letter.{Client, Letter}
use Rattle.protocol_model.specs.Node.{LockPhase, LockCall, Target, Retries, Times, Endless, targets}
use Rattle.protocol_model.specs.Turn.{Turn, keep_call, end_call, send, send_all, reply_with}
use Rattle.protocol_model.specs.Registrar.{ask_rest}

-- no retry is left
abbrev pub is_spent : Retries → Bool
is_spent (Times zero) = true
is_spent _ = false

-- one retry is used
abbrev pub one_less : Retries → Retries
one_less (Times k) = Times (k - 1)
one_less Endless = Endless

-- the call stands so now
abbrev pub in_phase : LockPhase → LockCall → LockCall
in_phase phase c = record c { phase = phase }

module _ (n a : ℕ) where
  -- the call ends with this answer
  abbrev pub close_call : LockCall → Bool → Turn → Turn
  close_call c granted u = reply_with a c.number (if granted then True else False) (end_call c u)

  -- a round of the call begins over these nodes: the boss is asked
  abbrev pub ask_lock : LockCall → Nodes → Turn → Turn
  ask_lock c s u =
      send (greatest n s) (Letter.SetLock c.id c.holder) (keep_call (in_phase (LockPhase.Asking (begin n s)) c) u)

  -- a `set_lock` is tried, or tried again, over the members of now; where there is nobody to ask it is answered `false`
  abbrev pub try_lock : LockCall → Turn → Turn
  try_lock c u =
      if is_empty n (targets u.node.replica.members c.target)
      then close_call c false u
      else ask_lock c (targets u.node.replica.members c.target) u

  -- these get their grant of the call back
  abbrev pub give_lock : LockCall → Nodes → Turn → Turn
  give_lock c granted u = send_all n granted (Letter.GiveBack c.id c.holder false) u

  -- the round failed: the call ends where no retry is left, and else waits for one
  abbrev pub refuse_lock : LockCall → Turn → Turn
  refuse_lock c u = if is_spent c.retries then close_call c false u else keep_call (in_phase LockPhase.Waiting c) u

  -- the ending of a round of the call
  abbrev pub end_lock_by : Ending → LockCall → Turn → Turn
  end_lock_by Ending.Held c u = close_call c true u
  end_lock_by (Ending.GiveBack granted) c u = refuse_lock c (give_lock c granted u)

  -- Ending, where the round is over
  abbrev pub end_lock : LockCall → Round → Turn → Turn
  end_lock c r u = if is_over n r then end_lock_by (ending n (asked r) r) c u else u

  -- the call's round stands so now, and may be over
  abbrev pub go_on_lock : LockCall → Round → Turn → Turn
  go_on_lock c r u =
      end_lock (in_phase (LockPhase.Asking r) c) r (keep_call (in_phase (LockPhase.Asking r) c) u)

  -- f answers the call's round: the rest are asked where it is the boss's grant
  abbrev pub hear_lock_in : ℕ → Bool → LockPhase → LockCall → Turn → Turn
  hear_lock_in f granted (LockPhase.Asking r) c u =
      if owes r f
      then go_on_lock c (answer f granted r) (ask_rest n a f granted (Letter.SetLock c.id c.holder) r u)
      else u
  hear_lock_in f granted _ c u = u

  -- the same, where that process has a call
  abbrev pub hear_lock : ℕ → Bool → Option LockCall → Turn → Turn
  hear_lock f granted None u = u
  hear_lock f granted (Some c) u = hear_lock_in f granted c.phase c u

  -- f has given the lock up, or has gone down: the deletion waits for one node less
  abbrev pub owe_less_in : ℕ → LockPhase → LockCall → Turn → Turn
  owe_less_in f (LockPhase.Deleting owing) c u =
      if owing f
      then (if is_empty n (without_node f owing)
      then close_call c true u
      else keep_call (in_phase (LockPhase.Deleting (without_node f owing)) c) u)
      else u
  owe_less_in f _ c u = u

  -- the same, where that process has a call
  abbrev pub owe_less : ℕ → Option LockCall → Turn → Turn
  owe_less f None u = u
  owe_less f (Some c) u = owe_less_in f c.phase c u

  -- d has gone down: a round or a wait of the call is told
  abbrev pub lose_node_in : ℕ → LockPhase → LockCall → Turn → Turn
  lose_node_in d (LockPhase.Asking r) c u = go_on_lock c (down d r) u
  lose_node_in d phase c u = owe_less_in d phase c u

  -- all lock calls are told, by serial
  abbrev pub lose_node : ℕ → Turn → Turn
  lose_node d u = fold (λ turn c. lose_node_in d c.phase c turn) u u.node.calls

  -- a refused call uses one retry and is tried again
  abbrev pub retry_in : LockPhase → LockCall → Turn → Turn
  retry_in LockPhase.Waiting c u = try_lock (record c { retries = one_less c.retries }) u
  retry_in _ c u = u

  -- all refused calls are tried again, by serial
  abbrev pub retry_locks : Turn → Turn
  retry_locks u = fold (λ turn c. retry_in c.phase c turn) u u.node.calls

  -- a new lock call, of number k
  abbrev pub new_call : ℕ → Process → Text → Text → Target → Retries → LockCall
  new_call k p resource requester target retries = record {
    holder = p;
    number = k;
    id = Client resource requester;
    target = target;
    retries = retries;
    phase = LockPhase.Waiting;
  }

  -- these are to give the lock up, and to say so
  abbrev pub ask_back : LockCall → Nodes → Turn → Turn
  ask_back c s u =
      send_all n s (Letter.GiveBack c.id c.holder true) (keep_call (in_phase (LockPhase.Deleting s) c) u)

  -- a `del_lock` goes to the members, or to those named nodes that are members; where there are none it is answered at once
  abbrev pub delete_lock : LockCall → Turn → Turn
  delete_lock c u =
      if is_empty n (targets u.node.replica.members c.target)
      then close_call c true u
      else ask_back c (targets u.node.replica.members c.target) u
