-- Where the turn of an event answers `yes` its node writes nothing at the end.
use Rattle.std.proofs.Common.{ℕ, Bool, true, false, ◌≡◌, ◌==◌, ◌+◌, Option, Some, None, List, [], ◌∷◌, refl, ◌∙◌, subst, ap, ◌++◌}
use Rattle.std.specs.Prelude.{◌&&◌, not, if◌then◌else◌, is_some}
use Rattle.std.specs.List.{list_any}
use Rattle.registry_model.specs.Process.{Process, is_process, Nodes, at}
use Rattle.registry_model.specs.Table.{get}
use Rattle.registry_model.specs.Call.{Look, Whereis, RegisteredNames, NoticesOf, Reply, Yes, Joined, NotMember, Pid, is_reply, is_grant, reply_to, change_of, pid_or_undefined, seen_in}
use Rattle.registry_model.specs.Settlement.{settle}
use Rattle.registry_model.specs.History.{Entry}
use Rattle.registry_model.specs.Registry.{Replica}
use Rattle.protocol_model.specs.Round.{Round, owes, asked, answer, down, is_over, Ending, ending, opens, rest, is_empty}
use Rattle.protocol_model.specs.Letter.{Global, Letter, is_down}
use Rattle.protocol_model.specs.LockTable.{is_free_for}
use Rattle.protocol_model.specs.Watch.{is_live, next_serial}
use Rattle.protocol_model.specs.Node.{Op, Current, LockCall, Times, call_of}
use Rattle.protocol_model.specs.Event.{Call, Event}
use Rattle.protocol_model.specs.Turn.{Turn, begun, with_replica, at_work, enter, send, send_all, reply_with, count_call}
use Rattle.protocol_model.specs.Registrar.{registrar, start, ask_rest, await_less, finish, done, write, decide, lose_contact, contact_left, retry_global}
use Rattle.protocol_model.specs.Deciding.{admit, held, end_by, go_on, hear_answer, lose}
use Rattle.protocol_model.specs.Client.{new_call, hear_lock, owe_less, lose_node, retry_locks}
use Rattle.protocol_model.specs.Calling.{die, kill, call, queued}
use Rattle.protocol_model.specs.Reading.{admitted, welcomed, judge, refused_join, welcome, told_of, lose_current, bereave, read, receive}
use Rattle.protocol_model.specs.Answers.{answer_to}
use Rattle.protocol_model.specs.World.{Opening, World, WorldEvent, At, Deliver, join_number, heard, turn_of}
use Rattle.headline.proofs.Turns.{is_yes, begins, Tame, push_none, tame_same, tame_none, tame_idle, tame_start, same_try, same_delete, same_hear, same_owe, same_lose_all, same_retry_all}

-- no look-up is answered `yes`
pub seen_in-yes : (v : Replica) (look : Look) → is_reply (seen_in v look) Yes ≡ false
seen_in-yes v RegisteredNames = refl
seen_in-yes v (NoticesOf p) = refl
seen_in-yes v (Whereis x) = go (get x v.table)
  where
    go : (p : Option Process) → is_reply (pid_or_undefined p) Yes ≡ false
    go None = refl
    go (Some p) = refl

-- nothing is answered yet, and nothing has begun to hold
pub record Fresh (u : Turn) : Type 0 where
  pub answers : u.answers ≡ []
  pub none : list_any begins u.entries ≡ false

module _ (n a : ℕ) (number : ℕ → ℕ) where
  -- who is killed is answered nothing
  kill-answers : (ps : List Process) (u : Turn) → (kill n a ps u).answers ≡ u.answers
  kill-answers [] u = refl
  kill-answers (p ∷ ps) u = go (is_live a u.node.watch p) (kill-answers ps (die n a p u)) (kill-answers ps u)
    where
      go : (b : Bool) → (kill n a ps (die n a p u)).answers ≡ u.answers → (kill n a ps u).answers ≡ u.answers
          → (kill n a ps (if b then die n a p u else u)).answers ≡ u.answers
      go true dies lives = dies
      go false dies lives = lives

  kill-entries : (ps : List Process) (u : Turn) → (kill n a ps u).entries ≡ u.entries
  kill-entries [] u = refl
  kill-entries (p ∷ ps) u = go (is_live a u.node.watch p) (kill-entries ps (die n a p u)) (kill-entries ps u)
    where
      go : (b : Bool) → (kill n a ps (die n a p u)).entries ≡ u.entries → (kill n a ps u).entries ≡ u.entries
          → (kill n a ps (if b then die n a p u else u)).entries ≡ u.entries
      go true dies lives = dies
      go false dies lives = lives

  tame_held : (op : Op) (asked : Nodes) (u : Turn) → Fresh u → Tame (held n a number op asked u)
  tame_held (Op.Name k c) asked u e = go (reply_to u.node.replica.members u.node.replica.table c)
    where
      go : (r : Reply) → Tame (decide n a k c asked r u)
      go r = by_grant (is_grant r) refl
        where
          by_grant : (b : Bool) → is_grant r ≡ b
              → Tame (if b then write n a (Op.Name k c) asked (Some r) (change_of c)
              (enter (Entry.Name a k c r) u) else finish n a (Op.Name k c) asked (Some r)
              (enter (Entry.Name a k c r) u))
          by_grant true g = tame_none (write n a (Op.Name k c) asked (Some r) (change_of c)
              (enter (Entry.Name a k c r) u)) e.answers
          by_grant false g = tame_idle (finish n a (Op.Name k c) asked (Some r) (enter (Entry.Name a k c r) u)) refl
              (push_none begins u.entries (Entry.Name a k c r)
              (ap (λ (b : Bool). is_some (if b then Some a else None)) g) ∙ e.none)
  tame_held (Op.Strike p) asked u e = tame_none (held n a number (Op.Strike p) asked u) e.answers
  tame_held (Op.Admission j pairs) asked u e = go (u.node.replica.told j)
    where
      go : (b : Bool) → Tame (if b then finish n a (Op.Admission j pairs) asked None u else admit n a number j pairs
          asked (settle u.node.replica.table pairs) u)
      go true = tame_none (finish n a (Op.Admission j pairs) asked None u) e.answers
      go false = tame_none (admit n a number j pairs asked (settle u.node.replica.table pairs) u) e.answers
  tame_held (Op.Join k m) asked u e = tame_none u e.answers

  tame_go_on : (op : Op) (r : Round) (u : Turn) → Fresh u → Tame (go_on n a number op r u)
  tame_go_on op r u e = go (is_over n r)
    where
      v : Turn
      v = at_work (Current.Asking op r) u

      by_ending : (x : Ending) → Tame (end_by n a number x op (asked r) v)
      by_ending Ending.Held = tame_held op (asked r) v (record { answers = e.answers; none = e.none })
      by_ending (Ending.GiveBack granted) = tame_none (end_by n a number (Ending.GiveBack granted) op (asked r) v)
          e.answers

      go : (b : Bool) → Tame (if b then end_by n a number (ending n v.node.replica.members r) op (asked r) v else v)
      go true = by_ending (ending n v.node.replica.members r)
      go false = tame_none v e.answers

  tame_hear_answer : (f : ℕ) (granted : Bool) (c : Current) (u : Turn) → Fresh u
      → Tame (hear_answer n a number f granted c u)
  tame_hear_answer f granted (Current.Asking op r) u e = go (owes r f)
    where
      l : Letter
      l = Letter.SetLock (Global a) (registrar a)

      asks : (b : Bool) → Fresh (if b then send_all n (λ x. rest r x && not (u.node.replica.told x)) l u else u)
      asks true = record { answers = e.answers; none = e.none }
      asks false = e

      go : (b : Bool) → Tame (if b then go_on n a number op (answer f granted r) (ask_rest n a f granted l r u) else u)
      go true = tame_go_on op (answer f granted r) (ask_rest n a f granted l r u) (asks (opens f granted r))
      go false = tame_none u e.answers
  tame_hear_answer f granted Current.Free u e = tame_none u e.answers
  tame_hear_answer f granted (Current.Waiting op) u e = tame_none u e.answers
  tame_hear_answer f granted (Current.Writing op asked awaited reply) u e = tame_none u e.answers
  tame_hear_answer f granted (Current.Joining k m) u e = tame_none u e.answers

  tame_done : (op : Op) (asked : Nodes) (reply : Option Reply) (u : Turn) → Fresh u → Tame (done n a op asked reply u)
  tame_done op asked reply u e = tame_idle (done n a op asked reply u) refl (go op reply)
    where
      over : list_any begins (u.entries ++ Entry.Done a ∷ []) ≡ false
      over = push_none begins u.entries (Entry.Done a) refl ∙ e.none

      go : (op : Op) (reply : Option Reply) → list_any begins (done n a op asked reply u).entries ≡ false
      go (Op.Name k c) (Some r) = over
      go (Op.Name k c) None = over
      go (Op.Strike p) reply = over
      go (Op.Join k m) reply = over
      go (Op.Admission j pairs) reply = over

  tame_await : (f : ℕ) (c : Current) (u : Turn) → Fresh u → Tame (await_less n a f c u)
  tame_await f (Current.Writing op asked awaited reply) u e = go (awaited f) (is_empty n (at awaited f false))
    where
      go : (b x : Bool) → Tame (if b then (if x then done n a op asked reply u else at_work
          (Current.Writing op asked (at awaited f false) reply) u) else u)
      go true true = tame_done op asked reply u e
      go true false = tame_none (at_work (Current.Writing op asked (at awaited f false) reply) u) e.answers
      go false x = tame_none u e.answers
  tame_await f Current.Free u e = tame_none u e.answers
  tame_await f (Current.Asking op r) u e = tame_none u e.answers
  tame_await f (Current.Waiting op) u e = tame_none u e.answers
  tame_await f (Current.Joining k m) u e = tame_none u e.answers

  tame_lose : (d : ℕ) (c : Current) (u : Turn) → Fresh u → Tame (lose n a number d c u)
  tame_lose d (Current.Asking op r) u e = tame_go_on op (down d r) u e
  tame_lose d (Current.Writing op asked awaited reply) u e = tame_await d (Current.Writing op asked awaited reply) u e
  tame_lose d Current.Free u e = tame_none u e.answers
  tame_lose d (Current.Waiting op) u e = tame_none u e.answers
  tame_lose d (Current.Joining k m) u e = tame_none u e.answers

  tame_bereave : (d : ℕ) (u : Turn) → Fresh u → Tame (bereave n a number d u)
  tame_bereave d u e = tame_same x (lose_node n a d x) (same_lose_all n a d x.node.calls x) (go v.node.current)
    where
      v : Turn
      v = told_of n a number d u

      fresh : Fresh v
      fresh = record { answers = e.answers; none = push_none begins u.entries (Entry.Told a d) refl ∙ e.none }

      x : Turn
      x = lose_current n a number d (lose_contact n a d v.node.current v)

      left : (k m : ℕ) → Turn
      left k m = contact_left n a k m (at_work Current.Free v)

      stays : Tame (lose_current n a number d v)
      stays = tame_lose d v.node.current v fresh

      go : (c : Current) → Tame (lose_current n a number d (lose_contact n a d c v))
      go (Current.Joining k m) = ends (m == d)
        where
          ends : (b : Bool) → Tame (lose_current n a number d (if b then left k m else v))
          ends true = tame_idle (left k m) refl
              (push_none begins v.entries (Entry.Join a k m Reply.ContactLeft) refl ∙ fresh.none)
          ends false = stays
      go Current.Free = stays
      go (Current.Asking op r) = stays
      go (Current.Waiting op) = stays
      go (Current.Writing op asked awaited reply) = stays

  tame_read : (f : ℕ) (l : Letter) (u : Turn) → Fresh u → Tame (read n a number f l u)
  tame_read f (Letter.SetLock id p) u e = go (is_free_for id p u.node.locks)
    where
      go : (b : Bool) → Tame (judge n a number f id p b u)
      go true = tame_none (judge n a number f id p true u) e.answers
      go false = tame_none (judge n a number f id p false u) e.answers
  tame_read f (Letter.LockAnswer id p granted) u e = go (is_process p (registrar a))
    where
      at_call : (c : Option LockCall) → Tame (hear_lock n a f granted c u)
      at_call None = tame_none u e.answers
      at_call (Some c) = tame_same u (hear_lock n a f granted (Some c) u) (same_hear n a f granted c.phase c u)
          (tame_none u e.answers)

      go : (b : Bool) → Tame (if b then hear_answer n a number f granted u.node.current u else hear_lock n a f granted
          (call_of p u.node.calls) u)
      go true = tame_hear_answer f granted u.node.current u e
      go false = at_call (call_of p u.node.calls)
  tame_read f (Letter.GiveBack id p true) u e = tame_none (read n a number f (Letter.GiveBack id p true) u) e.answers
  tame_read f (Letter.GiveBack id p false) u e = tame_none (read n a number f (Letter.GiveBack id p false) u) e.answers
  tame_read f (Letter.GivenBack p) u e = go (call_of p u.node.calls)
    where
      go : (c : Option LockCall) → Tame (owe_less n a f c u)
      go None = tame_none u e.answers
      go (Some c) = tame_same u (owe_less n a f (Some c) u) (same_owe n a f c.phase c u) (tame_none u e.answers)
  tame_read f (Letter.ReleaseOf p) u e = tame_none (read n a number f (Letter.ReleaseOf p) u) e.answers
  tame_read f (Letter.Apply change) u e = tame_none (read n a number f (Letter.Apply change) u) e.answers
  tame_read f Letter.Applied u e = tame_await f u.node.current u e
  tame_read f (Letter.JoinAsk pairs) u e = go u.node.replica.joined
    where
      go : (b : Bool) → Tame (if b then queued n a (Op.Admission f pairs) u else send f Letter.JoinRefused
          (enter (Entry.Join f (number f) a NotMember) u))
      go true = tame_none (queued n a (Op.Admission f pairs) u) e.answers
      go false = tame_none (send f Letter.JoinRefused (enter (Entry.Join f (number f) a NotMember) u)) e.answers
  tame_read f Letter.JoinRefused u e = go u.node.current
    where
      go : (c : Current) → Tame (refused_join n a number f c u)
      go (Current.Joining k m) = ends (m == f)
        where
          ends : (b : Bool) → Tame (if b then reply_with a k NotMember (at_work Current.Free u) else u)
          ends true = tame_idle (reply_with a k NotMember (at_work Current.Free u)) refl e.none
          ends false = tame_none u e.answers
      go Current.Free = tame_none u e.answers
      go (Current.Asking op r) = tame_none u e.answers
      go (Current.Waiting op) = tame_none u e.answers
      go (Current.Writing op asked awaited reply) = tame_none u e.answers
  tame_read f (Letter.Admit i settled) u e =
      tame_none (read n a number f (Letter.Admit i settled) u)
      (kill-answers settled.fate.kills (with_replica (admitted a i settled) u) ∙ e.answers)
  tame_read f (Letter.Welcome members pairs told fate) u e = go u.node.current
    where
      v : Turn
      v = kill n a fate.kills (with_replica (welcomed a members pairs told fate) u)

      go : (c : Current) → Tame (welcome n a number f members pairs told fate c u)
      go (Current.Joining k m) = ends (m == f)
        where
          ends : (b : Bool) → Tame (if b then send f Letter.Applied
              (reply_with a k Joined (at_work Current.Free v)) else u)
          ends true = tame_idle (send f Letter.Applied (reply_with a k Joined (at_work Current.Free v))) refl
              (ap (list_any begins) (kill-entries fate.kills (with_replica (welcomed a members pairs told fate) u)) ∙ e.none)
          ends false = tame_none u e.answers
      go Current.Free = tame_none u e.answers
      go (Current.Asking op r) = tame_none u e.answers
      go (Current.Waiting op) = tame_none u e.answers
      go (Current.Writing op asked awaited reply) = tame_none u e.answers
  tame_read f Letter.Down u e = tame_bereave f u e

  tame_receive : (f : ℕ) (l : Letter) (u : Turn) → Fresh u → Tame (receive n a number f l u)
  tame_receive f l u e = go (u.node.replica.told f && not (is_down l))
    where
      go : (b : Bool) → Tame (start n a (if b then u else read n a number f l u))
      go true = tame_start n a u (tame_none u e.answers)
      go false = tame_start n a (read n a number f l u) (tame_read f l u e)

  pub tame_heard : (f : ℕ) (ls : List Letter) (w : World) → number ≡ join_number w → Tame (heard n a w f ls)
  tame_heard f [] w e = tame_none (begun (w.node a)) refl
  tame_heard f (l ∷ ls) w e = subst (λ (g : ℕ → ℕ). Tame (receive n a g f l (begun (w.node a)))) e
      (tame_receive f l (begun (w.node a)) (record { answers = refl; none = refl }))

  -- what a call answers
  pub tame_call : (k : ℕ) (c : Call) (u : Turn) → Fresh u → Tame (call n a k c u)
  tame_call k Call.Spawn u e = tame_same u (call n a k Call.Spawn u) (record {
    yes = push_none is_yes u.answers (answer_to a 0 (Pid (record { node = a; serial = next_serial u.node.watch })))
        refl;
    current = refl;
    entries = refl;
  }) (tame_none u e.answers)
  tame_call k (Call.LookUp look) u e = tame_same u (call n a k (Call.LookUp look) u) (record {
    yes = push_none is_yes u.answers (answer_to a 0 (seen_in u.node.replica look))
        (seen_in-yes u.node.replica look);
    current = refl;
    entries = push_none begins u.entries (Entry.Read a look (seen_in u.node.replica look)) refl;
  }) (tame_none u e.answers)
  tame_call k (Call.OnName c) u e = tame_none (call n a k (Call.OnName c) u) e.answers
  tame_call k (Call.SetLock p r q target retries) u e =
      tame_same (count_call u) (call n a k (Call.SetLock p r q target retries) u)
      (same_try n a (new_call n a k p r q target retries) (count_call u)) (tame_none (count_call u) e.answers)
  tame_call k (Call.DelLock p r q target) u e =
      tame_same (count_call u) (call n a k (Call.DelLock p r q target) u)
      (same_delete n a (new_call n a k p r q target (Times 0)) (count_call u)) (tame_none (count_call u) e.answers)
  tame_call k (Call.JoinBy m) u e = tame_none (call n a k (Call.JoinBy m) u) e.answers

  -- a retry
  pub tame_retry : (c : Current) (u : Turn) → Fresh u → Tame (retry_locks n a (retry_global n a c u))
  tame_retry c u e = tame_same (retry_global n a c u) (retry_locks n a (retry_global n a c u))
      (same_retry_all n a (retry_global n a c u).node.calls (retry_global n a c u))
      (tame_none (retry_global n a c u) (go c))
    where
      go : (c : Current) → (retry_global n a c u).answers ≡ []
      go (Current.Waiting op) = e.answers
      go Current.Free = e.answers
      go (Current.Asking op r) = e.answers
      go (Current.Writing op asked awaited reply) = e.answers
      go (Current.Joining k m) = e.answers

-- the turn of every event does so
pub turn_tame : (o : Opening) (w : World) (e : WorldEvent) → Tame (turn_of o w e)
turn_tame o w (At a (Event.Calling c)) =
    tame_start o.bound a (call o.bound a ((w.node a).last_call + 1) c (begun (w.node a)))
    (tame_call o.bound a (join_number w) ((w.node a).last_call + 1) c (begun (w.node a))
    (record { answers = refl; none = refl }))
turn_tame o w (At a Event.Retry) =
    tame_start o.bound a (retry_locks o.bound a (retry_global o.bound a (w.node a).current (begun (w.node a))))
    (tame_retry o.bound a (join_number w) (w.node a).current (begun (w.node a))
    (record { answers = refl; none = refl }))
turn_tame o w (At a (Event.Exiting p)) =
    tame_start o.bound a (die o.bound a p (enter (Entry.Exit p) (begun (w.node a))))
    (tame_none (die o.bound a p (enter (Entry.Exit p) (begun (w.node a)))) refl)
turn_tame o w (At a Event.Leave) = tame_none (turn_of o w (At a Event.Leave)) refl
turn_tame o w (Deliver f t) = tame_heard o.bound t (join_number w) f (w.links.queue f t) w refl
