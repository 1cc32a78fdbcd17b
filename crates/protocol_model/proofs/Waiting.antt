-- What a registrar is at behind an event: an operation waits there only behind its own round.
use mathlib.Core.Logic.{◌⊎◌}
use Rattle.std.proofs.Common.{ℕ, Bool, true, false, ◌==◌, ◌≡◌, Option, Some, None, List, [], ◌∷◌, refl, sym, ap, subst, ◌∙◌, inl, inr}
use Rattle.std.specs.Prelude.{not, ◌&&◌, fold, is_none, if◌then◌else◌}
use Rattle.std.proofs.lemmas.Bool.{eqb-true}
use Rattle.registry_model.specs.Process.{Process, is_process, Nodes, without_node, at}
use Rattle.registry_model.specs.Call.{is_grant, reply_to}
use Rattle.protocol_model.specs.Round.{Round, is_empty, owes, opens, answer, asked, is_over, down, Ending, ending}
use Rattle.protocol_model.specs.Letter.{Global, Letter, is_down}
use Rattle.protocol_model.specs.LockTable.{is_free_for}
use Rattle.protocol_model.specs.Watch.{is_live, owed}
use Rattle.protocol_model.specs.Node.{Node, Op, Current, LockPhase, LockCall, Times, call_of, targets}
use Rattle.protocol_model.specs.Event.{Call, Event}
use Rattle.protocol_model.specs.Turn.{Turn, begun, at_work, count_call}
use Rattle.protocol_model.specs.Registrar.{registrar, done, ask_rest, await_less, contact_left, lose_contact, start_queue, start_next, start_free, start, retry_global}
use Rattle.protocol_model.specs.Deciding.{held, end_by, go_on, hear_answer, lose}
use Rattle.protocol_model.specs.Client.{is_spent, one_less, try_lock, end_lock_by, go_on_lock, hear_lock_in, hear_lock, owe_less_in, owe_less, lose_node_in, lose_node, retry_in, retry_locks, new_call, delete_lock}
use Rattle.protocol_model.specs.Calling.{die, kill, call, event}
use Rattle.protocol_model.specs.Reading.{refused_join, welcome, told_of, lose_join, lose_current, bereave, read, receive}
use Rattle.protocol_model.specs.World.{Opening, in_world, World, WorldEvent, At, Deliver, place, join_number, heard, refusal, turn_of, accepted}
use Rattle.protocol_model.specs.Quiet.{WaitsBehindARound}

-- the operation waits there, or has a round there
abbrev Had : Current → Op → Type 0
Had c op = (c ≡ Current.Waiting op) ⊎ ((round : Round) × (c ≡ Current.Asking op round))

-- what waits behind c had waited there, or had a round there
abbrev Keeps : Current → Current → Type 0
Keeps c d = (op : Op) → d ≡ Current.Waiting op → Had c op

-- nothing waits
abbrev Rests : Current → Type 0
Rests c = (op : Op) → c ≡ Current.Waiting op → ⊥

kept : (c d : Current) → d ≡ c → Keeps c d
kept c d e op h = inl (sym e ∙ h)

rested : (c d : Current) → Rests d → Keeps c d
rested c d r op h = absurd (r op h)

-- a choice of two turns, of which both say so
either : (P : Current → Type 0) (b : Bool) (u v : Turn) → P u.node.current → P v.node.current
    → P (if b then u else v).node.current
either P true u v p q = p
either P false u v p q = q

-- the registrar is at c
abbrev IsAt : Current → Current → Type 0
IsAt c d = d ≡ c

module _ (n a : ℕ) where
  -- Start
  started_queue : (ops : List Op) (u : Turn) → Rests u.node.current → Rests (start_queue n a ops u).node.current
  started_queue [] u r = r
  started_queue (Op.Join k m ∷ ops) u r =
      either Rests (u.node.replica.told m) _ _ (started_queue ops (contact_left n a k m u) r) (λ op e. cc e)
  started_queue (Op.Name k c ∷ ops) u r = λ op e. cc e
  started_queue (Op.Strike p ∷ ops) u r = λ op e. cc e
  started_queue (Op.Admission j ps ∷ ops) u r = λ op e. cc e

  started_next : (s : Option ℕ) (u : Turn) → Rests u.node.current → Rests (start_next n a s u).node.current
  started_next (Some serial) u r = λ op e. cc e
  started_next None u r = started_queue u.node.queue u r

  started_free : (c : Current) (u : Turn) → u.node.current ≡ c → (op : Op)
      → (start_free n a c u).node.current ≡ Current.Waiting op → u.node.current ≡ Current.Waiting op
  started_free Current.Free u e op h =
      absurd (started_next (owed a u.node.replica.table u.node.watch) u (λ o i. cc (e, i)) op h)
  started_free (Current.Asking x r) u e op h = h
  started_free (Current.Waiting x) u e op h = h
  started_free (Current.Writing x s t r) u e op h = h
  started_free (Current.Joining k m) u e op h = h

  started : (c : Current) (u : Turn) → Keeps c u.node.current → Keeps c (start n a u).node.current
  started c u k op h = k op (started_free u.node.current u refl op h)

  -- clients' lock calls leave the registrar as it is
  tried : (c : LockCall) (u : Turn) → (try_lock n a c u).node.current ≡ u.node.current
  tried c u = either (IsAt u.node.current) (is_empty n (targets u.node.replica.members c.target)) _ _ refl refl

  deleted : (c : LockCall) (u : Turn) → (delete_lock n a c u).node.current ≡ u.node.current
  deleted c u = either (IsAt u.node.current) (is_empty n (targets u.node.replica.members c.target)) _ _ refl refl

  ended_lock : (e : Ending) (c : LockCall) (u : Turn) → (end_lock_by n a e c u).node.current ≡ u.node.current
  ended_lock Ending.Held c u = refl
  ended_lock (Ending.GiveBack granted) c u = either (IsAt u.node.current) (is_spent c.retries) _ _ refl refl

  went_on_lock : (c : LockCall) (r : Round) (u : Turn) → (go_on_lock n a c r u).node.current ≡ u.node.current
  went_on_lock c r u = either (IsAt u.node.current) (is_over n r) _ _ (ended_lock (ending n (asked r) r) _ _) refl

  rest_asked : (f : ℕ) (granted : Bool) (l : Letter) (r : Round) (u : Turn)
      → (ask_rest n a f granted l r u).node.current ≡ u.node.current
  rest_asked f granted l r u = either (IsAt u.node.current) (opens f granted r) _ _ refl refl

  heard_lock : (f : ℕ) (granted : Bool) (c : Option LockCall) (u : Turn)
      → (hear_lock n a f granted c u).node.current ≡ u.node.current
  heard_lock f granted None u = refl
  heard_lock f granted (Some c) u = go c.phase
    where
      go : (phase : LockPhase) → (hear_lock_in n a f granted phase c u).node.current ≡ u.node.current
      go (LockPhase.Asking r) = either (IsAt u.node.current) (owes r f) _ _
          (went_on_lock c (answer f granted r) _ ∙ rest_asked f granted _ r u) refl
      go LockPhase.Waiting = refl
      go (LockPhase.Deleting owing) = refl

  owed_less_in : (f : ℕ) (phase : LockPhase) (c : LockCall) (u : Turn)
      → (owe_less_in n a f phase c u).node.current ≡ u.node.current
  owed_less_in f (LockPhase.Deleting owing) c u = either (IsAt u.node.current) (owing f) _ _
      (either (IsAt u.node.current) _ _ _ refl refl) refl
  owed_less_in f (LockPhase.Asking r) c u = refl
  owed_less_in f LockPhase.Waiting c u = refl

  owed_less : (f : ℕ) (c : Option LockCall) (u : Turn) → (owe_less n a f c u).node.current ≡ u.node.current
  owed_less f None u = refl
  owed_less f (Some c) u = owed_less_in f c.phase c u

  lost_in : (d : ℕ) (phase : LockPhase) (c : LockCall) (u : Turn)
      → (lose_node_in n a d phase c u).node.current ≡ u.node.current
  lost_in d (LockPhase.Asking r) c u = went_on_lock c (down d r) u
  lost_in d LockPhase.Waiting c u = refl
  lost_in d (LockPhase.Deleting owing) c u = owed_less_in d (LockPhase.Deleting owing) c u

  retried_in : (phase : LockPhase) (c : LockCall) (u : Turn) → (retry_in n a phase c u).node.current ≡ u.node.current
  retried_in LockPhase.Waiting c u = tried (record c { retries = one_less c.retries }) u
  retried_in (LockPhase.Asking r) c u = refl
  retried_in (LockPhase.Deleting owing) c u = refl

  -- what leaves the registrar as it is for one does so for all
  for_all : {X : Type 0} (step : Turn → X → Turn) → ((x : X) (u : Turn) → (step u x).node.current ≡ u.node.current)
      → (xs : List X) (u : Turn) → (fold step u xs).node.current ≡ u.node.current
  for_all step one [] u = refl
  for_all step one (x ∷ xs) u = for_all step one xs (step u x) ∙ one x u

  lost_all : (d : ℕ) (u : Turn) → (lose_node n a d u).node.current ≡ u.node.current
  lost_all d u = for_all (λ turn c. lose_node_in n a d c.phase c turn) (λ c v. lost_in d c.phase c v) u.node.calls u

  retried_all : (u : Turn) → (retry_locks n a u).node.current ≡ u.node.current
  retried_all u = for_all (λ turn c. retry_in n a c.phase c turn) (λ c v. retried_in c.phase c v) u.node.calls u

  -- what an event does
  called : (k : ℕ) (c : Call) (u : Turn) → (call n a k c u).node.current ≡ u.node.current
  called k Call.Spawn u = refl
  called k (Call.LookUp look) u = refl
  called k (Call.OnName c) u = refl
  called k (Call.SetLock p r q target retries) u = tried (new_call n a k p r q target retries) (count_call u)
  called k (Call.DelLock p r q target) u = deleted (new_call n a k p r q target (Times 0)) (count_call u)
  called k (Call.JoinBy m) u = refl

  retried : (c : Current) (u : Turn) → u.node.current ≡ c → Keeps u.node.current (retry_global n a c u).node.current
  retried (Current.Waiting op) u e = rested u.node.current _ (λ o h. cc h)
  retried Current.Free u e = kept u.node.current _ refl
  retried (Current.Asking op r) u e = kept u.node.current _ refl
  retried (Current.Writing op s t r) u e = kept u.node.current _ refl
  retried (Current.Joining k m) u e = kept u.node.current _ refl

  by_event : (world : Nodes) (e : Event) (u : Turn) → Keeps u.node.current (event n a world e u).node.current
  by_event world (Event.Calling c) u = started u.node.current _ (kept u.node.current _ (called _ c u))
  by_event world Event.Retry u = started u.node.current _
      (λ op h. retried u.node.current u refl op (sym (retried_all (retry_global n a u.node.current u)) ∙ h))
  by_event world (Event.Exiting p) u = started u.node.current _ (kept u.node.current _ refl)
  by_event world Event.Leave u = kept u.node.current _ refl

  -- the registrar waits for one node less
  awaited_less : (c : ℕ) (now : Current) (u : Turn) → u.node.current ≡ now
      → Keeps u.node.current (await_less n a c now u).node.current
  awaited_less c (Current.Writing op s t r) u e = either (Keeps u.node.current) (t c) _ _
      (either (Keeps u.node.current) (is_empty n (without_node c t))
      (done n a op s r u) (at_work (Current.Writing op s (without_node c t) r) u)
      (rested u.node.current Current.Free (λ o h. cc h))
      (rested u.node.current (Current.Writing op s (without_node c t) r) (λ o h. cc h)))
      (kept u.node.current _ refl)
  awaited_less c Current.Free u e = kept u.node.current _ refl
  awaited_less c (Current.Asking op r) u e = kept u.node.current _ refl
  awaited_less c (Current.Waiting op) u e = kept u.node.current _ refl
  awaited_less c (Current.Joining k m) u e = kept u.node.current _ refl

  -- a join by a node that is gone ends, and else nothing changes
  contact_lost : (c : ℕ) (now : Current) (u : Turn) →
      ((lose_contact n a c now u).node.current ≡ u.node.current) ⊎ ((lose_contact n a c now u).node.current ≡ Current.Free)
  contact_lost c (Current.Joining k m) u =
      either (λ d. (d ≡ u.node.current) ⊎ (d ≡ Current.Free)) (m == c) _ _ (inr refl) (inl refl)
  contact_lost c Current.Free u = inl refl
  contact_lost c (Current.Asking op r) u = inl refl
  contact_lost c (Current.Waiting op) u = inl refl
  contact_lost c (Current.Writing op s t r) u = inl refl

  module _ (number : ℕ → ℕ) where
    -- an operation that is decided doesn't wait
    decided : (op : Op) (s : Nodes) (u : Turn) → Rests u.node.current → Rests (held n a number op s u).node.current
    decided (Op.Name k c) s u r =
        either Rests (is_grant (reply_to u.node.replica.members u.node.replica.table c)) _ _ (λ o h. cc h) (λ o h. cc h)
    decided (Op.Strike p) s u r = λ o h. cc h
    decided (Op.Admission j ps) s u r = either Rests (u.node.replica.told j) _ _ (λ o h. cc h) (λ o h. cc h)
    decided (Op.Join k m) s u r = r

    -- behind a round of an operation none but that waits
    abbrev Alone : Op → Current → Type 0
    Alone x c = (op : Op) → c ≡ Current.Waiting op → x ≡ op

    ended : (e : Ending) (x : Op) (s : Nodes) (u : Turn) → Rests u.node.current
        → Alone x (end_by n a number e x s u).node.current
    ended Ending.Held x s u r op h = absurd (decided x s u r op h)
    ended (Ending.GiveBack granted) x s u r op h = cc h

    went_on : (x : Op) (r : Round) (u : Turn) → Alone x (go_on n a number x r u).node.current
    went_on x r u = either (Alone x) (is_over n r) _ _
        (ended (ending n u.node.replica.members r) x (asked r) (at_work (Current.Asking x r) u) (λ o h. cc h))
        (λ op h. cc h)

    had : (x : Op) (r : Round) (c d : Current) → c ≡ Current.Asking x r → Alone x d → Keeps c d
    had x r c d e alone op h = inr (r, e ∙ ap (λ (y : Op). Current.Asking y r) (alone op h))

    heard_answer : (f : ℕ) (granted : Bool) (now : Current) (u : Turn) → u.node.current ≡ now
        → Keeps u.node.current (hear_answer n a number f granted now u).node.current
    heard_answer f granted (Current.Asking x r) u e = either (Keeps u.node.current) (owes r f) _ _
        (had x r u.node.current _ e (went_on x (answer f granted r)
        (ask_rest n a f granted (Letter.SetLock (Global a) (registrar a)) r u))) (kept u.node.current _ refl)
    heard_answer f granted Current.Free u e = kept u.node.current _ refl
    heard_answer f granted (Current.Waiting op) u e = kept u.node.current _ refl
    heard_answer f granted (Current.Writing op s t r) u e = kept u.node.current _ refl
    heard_answer f granted (Current.Joining k m) u e = kept u.node.current _ refl

    lost : (d : ℕ) (now : Current) (u : Turn) → u.node.current ≡ now
        → Keeps u.node.current (lose n a number d now u).node.current
    lost d (Current.Asking x r) u e = had x r u.node.current _ e (went_on x (down d r) u)
    lost d Current.Free u e = kept u.node.current _ refl
    lost d (Current.Waiting op) u e = kept u.node.current _ refl
    lost d (Current.Writing op s t r) u e = awaited_less d (Current.Writing op s t r) u e
    lost d (Current.Joining k m) u e = kept u.node.current _ refl

    bereft_of : (d : ℕ) (u : Turn) → Keeps u.node.current (bereave n a number d u).node.current
    bereft_of d u op h =
        let v : Turn = lose_join n a number d (told_of n a number d u) in
        let waits : (lose_current n a number d v).node.current ≡ Current.Waiting op =
        sym (lost_all d (lose_current n a number d v)) ∙ h in
        elim (contact_lost d u.node.current (told_of n a number d u)) [
          | inl same ↦ subst (λ (c : Current). Had c op) same (lost d v.node.current v refl op waits)
          | inr free ↦ absurd (no op (subst (λ (c : Current). Had c op) free (lost d v.node.current v refl op waits)))
        ]
      where
        no : (op : Op) → Had Current.Free op → ⊥
        no op (inl e) = cc e
        no op (inr e) = cc (e.1)

    refused : (f : ℕ) (now : Current) (u : Turn) → Keeps u.node.current (refused_join n a number f now u).node.current
    refused f (Current.Joining k m) u = either (Keeps u.node.current) (m == f) _ _
        (rested u.node.current _ (λ o h. cc h)) (kept u.node.current _ refl)
    refused f Current.Free u = kept u.node.current _ refl
    refused f (Current.Asking op r) u = kept u.node.current _ refl
    refused f (Current.Waiting op) u = kept u.node.current _ refl
    refused f (Current.Writing op s t r) u = kept u.node.current _ refl

    killed : (ps : List Process) (u : Turn) → (kill n a ps u).node.current ≡ u.node.current
    killed ps u = for_all (λ turn p. if is_live a turn.node.watch p then die n a p turn else turn)
        (λ p v. either (IsAt v.node.current) (is_live a v.node.watch p) _ _ refl refl) ps u

    by_letter : (f : ℕ) (l : Letter) (u : Turn) → Keeps u.node.current (read n a number f l u).node.current
    by_letter f (Letter.SetLock id p) u = kept u.node.current _
        (either (IsAt u.node.current) (is_free_for id p u.node.locks) _ _ refl refl)
    by_letter f (Letter.LockAnswer id p granted) u = either (Keeps u.node.current) (is_process p (registrar a)) _ _
        (heard_answer f granted u.node.current u refl)
        (kept u.node.current _ (heard_lock f granted (call_of p u.node.calls) u))
    by_letter f (Letter.GiveBack id p ack) u = kept u.node.current _ (either (IsAt u.node.current) ack _ _ refl refl)
    by_letter f (Letter.GivenBack p) u = kept u.node.current _ (owed_less f (call_of p u.node.calls) u)
    by_letter f (Letter.ReleaseOf p) u = kept u.node.current _ refl
    by_letter f (Letter.Apply change) u = kept u.node.current _ refl
    by_letter f Letter.Applied u = awaited_less f u.node.current u refl
    by_letter f (Letter.JoinAsk pairs) u = kept u.node.current _
        (either (IsAt u.node.current) u.node.replica.joined _ _ refl refl)
    by_letter f Letter.JoinRefused u = refused f u.node.current u
    by_letter f (Letter.Admit j settled) u = kept u.node.current _ (killed settled.fate.kills _)
    by_letter f (Letter.Welcome members pairs told fate) u = go u.node.current
      where
        go : (now : Current) → Keeps u.node.current (welcome n a number f members pairs told fate now u).node.current
        go (Current.Joining k m) = either (Keeps u.node.current) (m == f) _ _
            (rested u.node.current _ (λ o h. cc h)) (kept u.node.current _ refl)
        go Current.Free = kept u.node.current _ refl
        go (Current.Asking op r) = kept u.node.current _ refl
        go (Current.Waiting op) = kept u.node.current _ refl
        go (Current.Writing op s t r) = kept u.node.current _ refl
    by_letter f Letter.Down u = bereft_of f u

    received : (f : ℕ) (l : Letter) (u : Turn) → Keeps u.node.current (receive n a number f l u).node.current
    received f l u = started u.node.current _ (either (Keeps u.node.current) (u.node.replica.told f && not (is_down l)) _ _
        (kept u.node.current _ refl) (by_letter f l u))

-- what an event makes of the node at its place
by_turn : (o : Opening) (w : World) (e : WorldEvent) → Keeps (w.node (place e)).current (turn_of o w e).node.current
by_turn o w (At a e) = by_event o.bound a (in_world o) e (begun (w.node a))
by_turn o w (Deliver f t) = go (w.links.queue f t)
  where
    go : (ls : List Letter) → Keeps (w.node t).current (heard o.bound t w f ls).node.current
    go [] = kept (w.node t).current _ refl
    go (l ∷ ls) = received o.bound t (join_number w) f l (begun (w.node t))

-- an accepted event changes its node alone
pub accepted-node : (o : Opening) (w : World) (e : WorldEvent)
    → (accepted o w e).node ≡ at w.node (place e) (turn_of o w e).node
accepted-node o w (Deliver f t) = refl
accepted-node o w (At a Event.Leave) = refl
accepted-node o w (At a _) = refl

pub waits_behind_a_round : WaitsBehindARound
waits_behind_a_round o w e a op h = by (is_none (refusal o w e)) h
  where
    go : (b : Bool) → (a == place e) ≡ b → (if b then (turn_of o w e).node else w.node a).current ≡ Current.Waiting op
        → Had (w.node a).current op
    go true i k = subst (λ (x : ℕ). Had (w.node x).current op) (sym (eqb-true a (place e) i)) (by_turn o w e op k)
    go false i k = inl k

    by : (b : Bool) → ((if b then accepted o w e else w).node a).current ≡ Current.Waiting op → Had (w.node a).current op
    by true k = go (a == place e) refl (sym (ap (λ (f : ℕ → Node). (f a).current) (accepted-node o w e)) ∙ k)
    by false k = inl k
