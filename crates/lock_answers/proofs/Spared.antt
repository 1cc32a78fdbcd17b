-- What a letter does to the living: one that kills nobody leaves the watch of its node, and one that kills answers no
-- lock call. So by a letter that answers a lock call nobody dies.
use Rattle.std.proofs.Common.{ℕ, Bool, true, false, ◌==◌, ◌≡◌, Option, Some, None, List, [], ◌∷◌, refl, ap, ◌∙◌}
use Rattle.std.specs.Prelude.{not, ◌&&◌, Contains, fold, if◌then◌else◌}
use Rattle.std.specs.List.{list_any}
use Rattle.registry_model.specs.Process.{Process, is_process, Nodes, at}
use Rattle.registry_model.specs.Settlement.{settle}
use Rattle.registry_model.specs.Call.{Reply, Joined, NotMember, True, is_reply, is_grant, reply_to, change_of}
use Rattle.registry_model.specs.History.{Entry}
use Rattle.registry_model.proofs.Legality.{is_reply-true}
use Rattle.protocol_model.specs.Round.{Round, owes, asked, answer, down, is_over, Ending, ending, opens, rest, is_empty}
use Rattle.protocol_model.specs.Letter.{Global, Letter, is_down}
use Rattle.protocol_model.specs.LockTable.{is_free_for}
use Rattle.protocol_model.specs.Watch.{is_live}
use Rattle.protocol_model.specs.Node.{Op, Current, LockPhase, LockCall, call_of}
use Rattle.protocol_model.specs.Event.{Answer}
use Rattle.protocol_model.specs.Turn.{Turn, begun, with_replica, at_work, keep_call, enter, send, send_all, reply_with}
use Rattle.protocol_model.specs.Registrar.{registrar, start, ask_rest, await_less, finish, done, write, decide, lose_contact, contact_left}
use Rattle.protocol_model.specs.Deciding.{admit, held, end_by, go_on, hear_answer, lose}
use Rattle.protocol_model.specs.Client.{in_phase, close_call, give_lock, is_spent, end_lock_by, go_on_lock, hear_lock, hear_lock_in, owe_less, owe_less_in, lose_node_in}
use Rattle.protocol_model.specs.Calling.{die, kill, queued}
use Rattle.protocol_model.specs.Reading.{admitted, welcomed, judge, refused_join, welcome, told_of, lose_current, lose_join, bereave, read, receive}
use Rattle.protocol_model.specs.Answers.{answer_to}
use Rattle.protocol_model.specs.World.{Opening, World, Deliver, join_number, heard, turn_of}
use Rattle.moves.proofs.Indices.{both}
use Rattle.leftovers.proofs.Doomed.{start-watch}
use Rattle.leftovers.proofs.Turns.{push_none}
use Rattle.leftovers.proofs.Answering.{is_true, any_true}
use Rattle.protocol_model.proofs.Finding.{found_any, any_found}
use Rattle.lock_answers.proofs.Besides.{start_adds}
use Rattle.lock_answers.proofs.Verdicts.{is_verdict}

-- it answers a lock call
abbrev pub is_lock_answer : Answer → Bool
is_lock_answer s = is_verdict s.reply

-- by this letter nobody dies
abbrev spares : Letter → Bool
spares (Letter.Admit j settled) = false
spares (Letter.Welcome members pairs told fate) = false
spares _ = true

-- the watch is as it was
abbrev Watches : Turn → Turn → Type 0
Watches u v = v.node.watch ≡ u.node.watch

module _ (n a : ℕ) (number : ℕ → ℕ) where
  watch_rest : (f : ℕ) (granted : Bool) (l : Letter) (r : Round) (u : Turn) → Watches u (ask_rest n a f granted l r u)
  watch_rest f granted l r u = go (opens f granted r)
    where
      go : (b : Bool) → Watches u (if b then send_all n (λ x. rest r x && not (u.node.replica.told x)) l u else u)
      go true = refl
      go false = refl

  -- the registrar
  watch_finish : (op : Op) (asked : Nodes) (reply : Option Reply) (u : Turn) → Watches u (finish n a op asked reply u)
  watch_finish (Op.Name k call) asked (Some r) u = refl
  watch_finish (Op.Name k call) asked None u = refl
  watch_finish (Op.Strike p) asked reply u = refl
  watch_finish (Op.Join k m) asked reply u = refl
  watch_finish (Op.Admission j pairs) asked reply u = refl

  watch_held : (op : Op) (asked : Nodes) (u : Turn) → Watches u (held n a number op asked u)
  watch_held (Op.Name k call) asked u = go (reply_to u.node.replica.members u.node.replica.table call)
    where
      go : (r : Reply) → Watches u (decide n a k call asked r u)
      go r = by_grant (is_grant r)
        where
          by_grant : (b : Bool) → Watches u (if b
              then write n a (Op.Name k call) asked (Some r) (change_of call) (enter (Entry.Name a k call r) u)
              else finish n a (Op.Name k call) asked (Some r) (enter (Entry.Name a k call r) u))
          by_grant true = refl
          by_grant false = refl
  watch_held (Op.Strike p) asked u = refl
  watch_held (Op.Join k m) asked u = refl
  watch_held (Op.Admission j pairs) asked u = go (u.node.replica.told j)
    where
      go : (b : Bool) → Watches u (if b then finish n a (Op.Admission j pairs) asked None u
          else admit n a number j pairs asked (settle u.node.replica.table pairs) u)
      go true = refl
      go false = refl

  watch_go_on : (op : Op) (r : Round) (u : Turn) → Watches u (go_on n a number op r u)
  watch_go_on op r u = go (is_over n r)
    where
      v : Turn
      v = at_work (Current.Asking op r) u

      by_ending : (x : Ending) → Watches u (end_by n a number x op (asked r) v)
      by_ending Ending.Held = watch_held op (asked r) v
      by_ending (Ending.GiveBack granted) = refl

      go : (b : Bool) → Watches u (if b then end_by n a number (ending n v.node.replica.members r) op (asked r) v
          else v)
      go true = by_ending (ending n v.node.replica.members r)
      go false = refl

  watch_hear_answer : (f : ℕ) (granted : Bool) (c : Current) (u : Turn)
      → Watches u (hear_answer n a number f granted c u)
  watch_hear_answer f granted (Current.Asking op r) u = go (owes r f)
    where
      v : Turn
      v = ask_rest n a f granted (Letter.SetLock (Global a) (registrar a)) r u

      go : (b : Bool) → Watches u (if b then go_on n a number op (answer f granted r) v else u)
      go true = watch_go_on op (answer f granted r) v
          ∙ watch_rest f granted (Letter.SetLock (Global a) (registrar a)) r u
      go false = refl
  watch_hear_answer f granted _ u = refl

  watch_await : (f : ℕ) (c : Current) (u : Turn) → Watches u (await_less n a f c u)
  watch_await f (Current.Writing op asked awaited reply) u = go (awaited f) (is_empty n (at awaited f false))
    where
      go : (b x : Bool) → Watches u (if b then (if x then done n a op asked reply u else at_work
          (Current.Writing op asked (at awaited f false) reply) u) else u)
      go true true = watch_finish op asked reply (enter (Entry.Done a) u)
      go true false = refl
      go false x = refl
  watch_await f _ u = refl

  watch_lose : (d : ℕ) (c : Current) (u : Turn) → Watches u (lose n a number d c u)
  watch_lose d (Current.Asking op r) u = watch_go_on op (down d r) u
  watch_lose d (Current.Writing op asked awaited reply) u =
      watch_await d (Current.Writing op asked awaited reply) u
  watch_lose d Current.Free u = refl
  watch_lose d (Current.Waiting op) u = refl
  watch_lose d (Current.Joining k m) u = refl

  -- clients' lock calls
  watch_end_by : (x : Ending) (c : LockCall) (u : Turn) → Watches u (end_lock_by n a x c u)
  watch_end_by Ending.Held c u = refl
  watch_end_by (Ending.GiveBack granted) c u = go (is_spent c.retries)
    where
      go : (b : Bool) → Watches u (if b then close_call n a c false (give_lock n a c granted u)
          else keep_call (in_phase LockPhase.Waiting c) (give_lock n a c granted u))
      go true = refl
      go false = refl

  watch_go_on_lock : (c : LockCall) (r : Round) (u : Turn) → Watches u (go_on_lock n a c r u)
  watch_go_on_lock c r u = go (is_over n r)
    where
      d : LockCall
      d = in_phase (LockPhase.Asking r) c

      go : (b : Bool) → Watches u (if b then end_lock_by n a (ending n (asked r) r) d (keep_call d u)
          else keep_call d u)
      go true = watch_end_by (ending n (asked r) r) d (keep_call d u)
      go false = refl

  watch_hear_lock : (f : ℕ) (granted : Bool) (phase : LockPhase) (c : LockCall) (u : Turn)
      → Watches u (hear_lock_in n a f granted phase c u)
  watch_hear_lock f granted (LockPhase.Asking r) c u = go (owes r f)
    where
      v : Turn
      v = ask_rest n a f granted (Letter.SetLock c.id c.holder) r u

      go : (b : Bool) → Watches u (if b then go_on_lock n a c (answer f granted r) v else u)
      go true = watch_go_on_lock c (answer f granted r) v
          ∙ watch_rest f granted (Letter.SetLock c.id c.holder) r u
      go false = refl
  watch_hear_lock f granted LockPhase.Waiting c u = refl
  watch_hear_lock f granted (LockPhase.Deleting owing) c u = refl

  watch_owe_less : (f : ℕ) (phase : LockPhase) (c : LockCall) (u : Turn) → Watches u (owe_less_in n a f phase c u)
  watch_owe_less f (LockPhase.Deleting owing) c u = go (owing f) (is_empty n (at owing f false))
    where
      go : (b x : Bool) → Watches u (if b then (if x then close_call n a c true u else keep_call
          (in_phase (LockPhase.Deleting (at owing f false)) c) u) else u)
      go true true = refl
      go true false = refl
      go false x = refl
  watch_owe_less f LockPhase.Waiting c u = refl
  watch_owe_less f (LockPhase.Asking r) c u = refl

  watch_lose_in : (d : ℕ) (phase : LockPhase) (c : LockCall) (u : Turn) → Watches u (lose_node_in n a d phase c u)
  watch_lose_in d (LockPhase.Asking r) c u = watch_go_on_lock c (down d r) u
  watch_lose_in d LockPhase.Waiting c u = refl
  watch_lose_in d (LockPhase.Deleting owing) c u = watch_owe_less d (LockPhase.Deleting owing) c u

  watch_lose_all : (d : ℕ) (cs : List LockCall) (u : Turn)
      → Watches u (fold (λ v c. lose_node_in n a d c.phase c v) u cs)
  watch_lose_all d [] u = refl
  watch_lose_all d (c ∷ cs) u = watch_lose_all d cs (lose_node_in n a d c.phase c u) ∙ watch_lose_in d c.phase c u

  -- a node goes down
  watch_bereave : (d : ℕ) (u : Turn) → Watches u (bereave n a number d u)
  watch_bereave d u = watch_lose_all d x.node.calls x ∙ watch_lose d v.node.current v ∙ contact z.node.current
    where
      z : Turn
      z = told_of n a number d u

      v : Turn
      v = lose_join n a number d z

      x : Turn
      x = lose_current n a number d v

      contact : (c : Current) → Watches u (lose_contact n a d c z)
      contact (Current.Joining k m) = go (m == d)
        where
          go : (b : Bool) → Watches u (if b then contact_left n a k m (at_work Current.Free z) else z)
          go true = refl
          go false = refl
      contact _ = refl

  watch_read : (f : ℕ) (l : Letter) (u : Turn) → spares l ≡ true → Watches u (read n a number f l u)
  watch_read f (Letter.SetLock id p) u h = go (is_free_for id p u.node.locks)
    where
      go : (b : Bool) → Watches u (judge n a number f id p b u)
      go true = refl
      go false = refl
  watch_read f (Letter.LockAnswer id p granted) u h = go (is_process p (registrar a))
    where
      at_call : (c : Option LockCall) → Watches u (hear_lock n a f granted c u)
      at_call None = refl
      at_call (Some c) = watch_hear_lock f granted c.phase c u

      go : (b : Bool) → Watches u (if b then hear_answer n a number f granted u.node.current u
          else hear_lock n a f granted (call_of p u.node.calls) u)
      go true = watch_hear_answer f granted u.node.current u
      go false = at_call (call_of p u.node.calls)
  watch_read f (Letter.GiveBack id p true) u h = refl
  watch_read f (Letter.GiveBack id p false) u h = refl
  watch_read f (Letter.GivenBack p) u h = go (call_of p u.node.calls)
    where
      go : (c : Option LockCall) → Watches u (owe_less n a f c u)
      go None = refl
      go (Some c) = watch_owe_less f c.phase c u
  watch_read f (Letter.ReleaseOf p) u h = refl
  watch_read f (Letter.Apply change) u h = refl
  watch_read f Letter.Applied u h = watch_await f u.node.current u
  watch_read f (Letter.JoinAsk pairs) u h = go u.node.replica.joined
    where
      go : (b : Bool) → Watches u (if b then queued n a (Op.Admission f pairs) u else send f Letter.JoinRefused
          (enter (Entry.Join f (number f) a NotMember) u))
      go true = refl
      go false = refl
  watch_read f Letter.JoinRefused u h = go u.node.current
    where
      go : (c : Current) → Watches u (refused_join n a number f c u)
      go (Current.Joining k m) = ends (m == f)
        where
          ends : (b : Bool) → Watches u (if b then reply_with a k NotMember (at_work Current.Free u) else u)
          ends true = refl
          ends false = refl
      go _ = refl
  watch_read f (Letter.Admit j settled) u h = cc
  watch_read f (Letter.Welcome members pairs told fate) u h = cc
  watch_read f Letter.Down u h = watch_bereave f u

  -- a letter by which nobody dies leaves the watch
  spared : (f : ℕ) (l : Letter) (u : Turn) → spares l ≡ true
      → (receive n a number f l u).node.watch ≡ u.node.watch
  spared f l u h = go (u.node.replica.told f && not (is_down l))
    where
      go : (b : Bool) → Watches u (start n a (if b then u else read n a number f l u))
      go true = start-watch n a u
      go false = start-watch n a (read n a number f l u) ∙ watch_read f l u h

  -- who is killed is answered nothing
  kill-answers : (ps : List Process) (u : Turn) → (kill n a ps u).answers ≡ u.answers
  kill-answers [] u = refl
  kill-answers (p ∷ ps) u = go (is_live a u.node.watch p) (kill-answers ps)
    where
      go : (b : Bool) → ((v : Turn) → (kill n a ps v).answers ≡ v.answers)
          → (kill n a ps (if b then die n a p u else u)).answers ≡ u.answers
      go true more = more (die n a p u)
      go false more = more u

  read_silent : (f : ℕ) (l : Letter) (u : Turn) → spares l ≡ false → list_any is_lock_answer u.answers ≡ false
      → list_any is_lock_answer (read n a number f l u).answers ≡ false
  read_silent f (Letter.Admit j settled) u h e =
      ap (list_any is_lock_answer) (kill-answers settled.fate.kills (with_replica (admitted a j settled) u)) ∙ e
  read_silent f (Letter.Welcome members pairs told fate) u h e = go u.node.current
    where
      v : Turn
      v = kill n a fate.kills (with_replica (welcomed a members pairs told fate) u)

      go : (c : Current)
          → list_any is_lock_answer (welcome n a number f members pairs told fate c u).answers ≡ false
      go (Current.Joining k i) = ends (i == f)
        where
          ends : (t : Bool) → list_any is_lock_answer (if t then send f Letter.Applied
              (reply_with a k Joined (at_work Current.Free v)) else u).answers ≡ false
          ends true = push_none is_lock_answer v.answers (answer_to a k Joined) refl
              ∙ ap (list_any is_lock_answer) (kill-answers fate.kills (with_replica (welcomed a members pairs told fate) u)) ∙ e
          ends false = e
      go _ = e
  read_silent f _ u h e = cc

  -- a letter by which somebody may die answers no lock call
  killing_silent : (f : ℕ) (l : Letter) (u : Turn) → spares l ≡ false → list_any is_lock_answer u.answers ≡ false
      → list_any is_lock_answer (receive n a number f l u).answers ≡ false
  killing_silent f l u h e = go (u.node.replica.told f && not (is_down l))
    where
      go : (t : Bool) → list_any is_lock_answer (start n a (if t then u else read n a number f l u)).answers ≡ false
      go true = start_adds is_lock_answer (λ b k. refl) n a u ∙ e
      go false = start_adds is_lock_answer (λ b k. refl) n a (read n a number f l u) ∙ read_silent f l u h e

-- so a letter answers no lock call, or nobody dies by it
pub letter_watch : (o : Opening) (w : World) (f t : ℕ)
    → list_any is_lock_answer (turn_of o w (Deliver f t)).answers ≡ true
    → (turn_of o w (Deliver f t)).node.watch ≡ (w.node t).watch
letter_watch o w f t = go (w.links.queue f t)
  where
    go : (ls : List Letter) → list_any is_lock_answer (heard o.bound t w f ls).answers ≡ true
        → (heard o.bound t w f ls).node.watch ≡ (w.node t).watch
    go [] k = refl
    go (l ∷ ls) k = by (spares l) refl
      where
        by : (b : Bool) → spares l ≡ b → (heard o.bound t w f (l ∷ ls)).node.watch ≡ (w.node t).watch
        by true s = spared o.bound t (join_number w) f l (begun (w.node t)) s
        by false s = cc (killing_silent o.bound t (join_number w) f l (begun (w.node t)) s refl, k)

-- what answers a call `true` answers a lock call
pub true_lock : (b m : ℕ) (ss : List Answer) → any_true b m ss ≡ true → list_any is_lock_answer ss ≡ true
true_lock b m ss h =
    let one : (s : Answer) × Contains ss s × (is_true b m s ≡ true) = any_found (is_true b m) ss h in
    found_any is_lock_answer ss one.0 one.1 (ap is_verdict (is_reply-true one.0.reply True
    (both ((one.0.node == b) && (one.0.number == m)) (is_reply one.0.reply True) one.2).1))
