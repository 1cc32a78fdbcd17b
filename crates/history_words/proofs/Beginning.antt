-- A strike that is owed comes first: each step ends by a start, which looks for it first, and nothing else begins an operation.
use mathlib.Core.Logic.{◌⊎◌, inl, inr}
use Rattle.std.proofs.Common.{ℕ, zero, suc, Bool, true, false, ◌==◌, ◌≡◌, ◌<◌, ◌≤◌, arith, Option, Some, None, List, [], ◌∷◌, refl, sym, ap, subst, ◌∙◌}
use Rattle.std.specs.Prelude.{not, ◌&&◌, fold, is_none, if◌then◌else◌}
use Rattle.std.proofs.lemmas.Bool.{eqb-true, cases_eq}
use Rattle.registry_model.specs.Process.{Process, is_process, Nodes, without_node}
use Rattle.registry_model.specs.Registry.{process_of}
use Rattle.registry_model.specs.Call.{is_grant, reply_to}
use Rattle.protocol_model.specs.Round.{Round, greatest, is_empty, owes, opens, answer, asked, is_over, down, Ending, ending}
use Rattle.protocol_model.specs.Letter.{Global, Letter, is_down}
use Rattle.protocol_model.specs.LockTable.{is_free_for}
use Rattle.protocol_model.specs.Watch.{is_live, owed}
use Rattle.protocol_model.specs.Node.{Node, Op, Current, LockPhase, LockCall, Times, call_of, targets}
use Rattle.protocol_model.specs.Event.{Call, Event}
use Rattle.protocol_model.specs.Turn.{Turn, begun, at_work, count_call, with_queue}
use Rattle.protocol_model.specs.Registrar.{registrar, done, ask_rest, ask_join, await_less, contact_left, lose_contact, start_queue, start_next, start_free, start, retry_global}
use Rattle.protocol_model.specs.Deciding.{held, end_by, go_on, hear_answer, lose}
use Rattle.protocol_model.specs.Client.{is_spent, one_less, try_lock, end_lock_by, go_on_lock, hear_lock_in, hear_lock, owe_less_in, owe_less, lose_node_in, lose_node, retry_in, retry_locks, new_call, delete_lock}
use Rattle.protocol_model.specs.Calling.{die, kill, call, event}
use Rattle.protocol_model.specs.Reading.{refused_join, welcome, told_of, lose_join, lose_current, bereave, read, receive}
use Rattle.protocol_model.specs.World.{Opening, in_world, World, WorldEvent, At, Deliver, place, join_number, heard, refusal, turn_of, accepted}
use Rattle.protocol_model.proofs.Waiting.{accepted-node}
use Rattle.creations.proofs.Indices.{greatest_in}
use Rattle.creations.specs.Clauses.{world}
use Rattle.history_words.specs.Beginning.{TellsTheGreatest, BeginsOperation, StrikesComeFirst}

-- none of a set is greater than the greatest
most : (n : ℕ) (s : Nodes) (c : ℕ) → c < n → s c ≡ true → c ≤ greatest n s
most zero s c l e = absurd (omega arith)
most (suc n) s c l e = go (s n) refl (λ below. most n s c below e)
  where
    go : (b : Bool) → s n ≡ b → (c < n → c ≤ greatest n s) → c ≤ (if b then n else greatest n s)
    go true q more = omega arith
    go false q more = elim (cases_eq c n) [
      | inl same ↦ absurd (cc (ap s same, e, q))
      | inr ne ↦ more (omega (arith, ne))
    ]

pub tells_the_greatest : TellsTheGreatest
tells_the_greatest n s c l e = (greatest_in n s c l e, most n s c l e)

-- the operation waits there, or has a round there
abbrev Had : Current → Op → Type 0
Had c op = (c ≡ Current.Waiting op) ⊎ ((round : Round) × (c ≡ Current.Asking op round))

-- what has a round behind c had waited there, or had a round there
abbrev Keeps : Current → Current → Type 0
Keeps c d = (op : Op) (r : Round) → d ≡ Current.Asking op r → Had c op

-- nothing has a round
abbrev Rests : Current → Type 0
Rests c = (op : Op) (r : Round) → c ≡ Current.Asking op r → ⊥

kept : (c d : Current) → d ≡ c → Keeps c d
kept c d e op r h = inr (r, sym e ∙ h)

rested : (c d : Current) → Rests d → Keeps c d
rested c d q op r h = absurd (q op r h)

-- a choice of two turns, of which both say so
either : (P : Current → Type 0) (b : Bool) (u v : Turn) → P u.node.current → P v.node.current
    → P (if b then u else v).node.current
either P true u v p q = p
either P false u v p q = q

-- the registrar is at c
abbrev IsAt : Current → Current → Type 0
IsAt c d = d ≡ c

module _ (n a : ℕ) where
  -- the strike that is owed at the end of a turn
  abbrev owed_at : Turn → Option ℕ
  owed_at u = owed a u.node.replica.table u.node.watch

  -- where a strike is owed then, the operation is that one
  abbrev IsFirst : Op → Turn → Type 0
  IsFirst op u = (serial : ℕ) → owed_at u ≡ Some serial → op ≡ Op.Strike (process_of a serial)

  -- Start: what is begun from the queue changes nothing of what is owed
  queue_owes : (ops : List Op) (u : Turn) → owed_at (start_queue n a ops u) ≡ owed_at u
  queue_owes [] u = refl
  queue_owes (Op.Join k m ∷ ops) u = go (u.node.replica.told m) (queue_owes ops (contact_left n a k m u))
    where
      go : (b : Bool) → owed_at (start_queue n a ops (contact_left n a k m u)) ≡ owed_at u
          → owed_at (if b then start_queue n a ops (contact_left n a k m u) else ask_join n a k m (with_queue ops u)) ≡ owed_at u
      go true more = more
      go false more = refl
  queue_owes (Op.Name k c ∷ ops) u = refl
  queue_owes (Op.Strike p ∷ ops) u = refl
  queue_owes (Op.Admission j ps ∷ ops) u = refl

  next_first : (s : Option ℕ) (u : Turn) → owed_at u ≡ s → (op : Op) (r : Round)
      → (start_next n a s u).node.current ≡ Current.Asking op r → IsFirst op (start_next n a s u)
  next_first (Some t) u e op r h = λ serial i.
      let same : Some t ≡ Some serial = sym e ∙ i in
      let number : t ≡ serial = cc same in
      let begun_is : Op.Strike (process_of a t) ≡ op = cc h in
      sym begun_is ∙ ap (λ (x : ℕ). Op.Strike (process_of a x)) number
  next_first None u e op r h = λ serial i. absurd (cc (i, queue_owes u.node.queue u, e))

  free_first : (c : Current) (u : Turn) → u.node.current ≡ c → (op : Op) (r : Round)
      → (start_free n a c u).node.current ≡ Current.Asking op r
      → (u.node.current ≡ Current.Asking op r) ⊎ IsFirst op (start_free n a c u)
  free_first Current.Free u e op r h = inr (next_first (owed_at u) u refl op r h)
  free_first (Current.Asking x t) u e op r h = inl h
  free_first (Current.Waiting x) u e op r h = inl h
  free_first (Current.Writing x s t y) u e op r h = inl h
  free_first (Current.Joining k m) u e op r h = inl h

  -- what a turn that begins at c comes to: what has a round had one or waited, or a strike that is owed is first
  abbrev Comes : Current → Turn → Type 0
  Comes c u = (op : Op) (r : Round) → u.node.current ≡ Current.Asking op r → Had c op ⊎ IsFirst op u

  started : (c : Current) (u : Turn) → Keeps c u.node.current → Comes c (start n a u)
  started c u k op r h = elim (free_first u.node.current u refl op r h) [
    | inl q ↦ inl (k op r q)
    | inr q ↦ inr q
  ]

  -- clients' lock calls leave the registrar as it is
  tried : (c : LockCall) (u : Turn) → (try_lock n a c u).node.current ≡ u.node.current
  tried c u = either (IsAt u.node.current) (is_empty n (targets u.node.replica.members c.target)) _ _ refl refl

  deleted : (c : LockCall) (u : Turn) → (delete_lock n a c u).node.current ≡ u.node.current
  deleted c u = either (IsAt u.node.current) (is_empty n (targets u.node.replica.members c.target)) _ _ refl refl

  ended_lock : (e : Ending) (c : LockCall) (u : Turn) → (end_lock_by n a e c u).node.current ≡ u.node.current
  ended_lock Ending.Held c u = refl
  ended_lock (Ending.GiveBack granted) c u = either (IsAt u.node.current) (is_spent c.retries) _ _ refl refl

  went_on_lock : (c : LockCall) (r : Round) (u : Turn) → (go_on_lock n a c r u).node.current ≡ u.node.current
  went_on_lock c r u = either (IsAt u.node.current) (is_over n r) _ _ (ended_lock (ending n (asked r) r) _ _) refl

  rest_asked : (f : ℕ) (granted : Bool) (l : Letter) (r : Round) (u : Turn)
      → (ask_rest n a f granted l r u).node.current ≡ u.node.current
  rest_asked f granted l r u = either (IsAt u.node.current) (opens f granted r) _ _ refl refl

  heard_lock : (f : ℕ) (granted : Bool) (c : Option LockCall) (u : Turn)
      → (hear_lock n a f granted c u).node.current ≡ u.node.current
  heard_lock f granted None u = refl
  heard_lock f granted (Some c) u = go c.phase
    where
      go : (phase : LockPhase) → (hear_lock_in n a f granted phase c u).node.current ≡ u.node.current
      go (LockPhase.Asking r) = either (IsAt u.node.current) (owes r f) _ _
          (went_on_lock c (answer f granted r) _ ∙ rest_asked f granted _ r u) refl
      go LockPhase.Waiting = refl
      go (LockPhase.Deleting owing) = refl

  owed_less_in : (f : ℕ) (phase : LockPhase) (c : LockCall) (u : Turn)
      → (owe_less_in n a f phase c u).node.current ≡ u.node.current
  owed_less_in f (LockPhase.Deleting owing) c u = either (IsAt u.node.current) (owing f) _ _
      (either (IsAt u.node.current) _ _ _ refl refl) refl
  owed_less_in f (LockPhase.Asking r) c u = refl
  owed_less_in f LockPhase.Waiting c u = refl

  owed_less : (f : ℕ) (c : Option LockCall) (u : Turn) → (owe_less n a f c u).node.current ≡ u.node.current
  owed_less f None u = refl
  owed_less f (Some c) u = owed_less_in f c.phase c u

  lost_in : (d : ℕ) (phase : LockPhase) (c : LockCall) (u : Turn)
      → (lose_node_in n a d phase c u).node.current ≡ u.node.current
  lost_in d (LockPhase.Asking r) c u = went_on_lock c (down d r) u
  lost_in d LockPhase.Waiting c u = refl
  lost_in d (LockPhase.Deleting owing) c u = owed_less_in d (LockPhase.Deleting owing) c u

  retried_in : (phase : LockPhase) (c : LockCall) (u : Turn) → (retry_in n a phase c u).node.current ≡ u.node.current
  retried_in LockPhase.Waiting c u = tried (record c { retries = one_less c.retries }) u
  retried_in (LockPhase.Asking r) c u = refl
  retried_in (LockPhase.Deleting owing) c u = refl

  -- what leaves the registrar as it is for one does so for all
  for_all : {X : Type 0} (step : Turn → X → Turn) → ((x : X) (u : Turn) → (step u x).node.current ≡ u.node.current)
      → (xs : List X) (u : Turn) → (fold step u xs).node.current ≡ u.node.current
  for_all step one [] u = refl
  for_all step one (x ∷ xs) u = for_all step one xs (step u x) ∙ one x u

  lost_all : (d : ℕ) (u : Turn) → (lose_node n a d u).node.current ≡ u.node.current
  lost_all d u = for_all (λ turn c. lose_node_in n a d c.phase c turn) (λ c v. lost_in d c.phase c v) u.node.calls u

  retried_all : (u : Turn) → (retry_locks n a u).node.current ≡ u.node.current
  retried_all u = for_all (λ turn c. retry_in n a c.phase c turn) (λ c v. retried_in c.phase c v) u.node.calls u

  -- what an event does
  called : (k : ℕ) (c : Call) (u : Turn) → (call n a k c u).node.current ≡ u.node.current
  called k Call.Spawn u = refl
  called k (Call.LookUp look) u = refl
  called k (Call.OnName c) u = refl
  called k (Call.SetLock p r q target retries) u = tried (new_call n a k p r q target retries) (count_call u)
  called k (Call.DelLock p r q target) u = deleted (new_call n a k p r q target (Times 0)) (count_call u)
  called k (Call.JoinBy m) u = refl

  retried : (c : Current) (u : Turn) → u.node.current ≡ c → Keeps u.node.current (retry_global n a c u).node.current
  retried (Current.Waiting x) u e = λ op r h. inl (e ∙ (let same : x ≡ op = cc h in ap (λ (y : Op). Current.Waiting y) same))
  retried Current.Free u e = kept u.node.current _ refl
  retried (Current.Asking op r) u e = kept u.node.current _ refl
  retried (Current.Writing op s t r) u e = kept u.node.current _ refl
  retried (Current.Joining k m) u e = kept u.node.current _ refl

  by_event : (inside : Nodes) (e : Event) (u : Turn) → Comes u.node.current (event n a inside e u)
  by_event inside (Event.Calling c) u = started u.node.current _ (kept u.node.current _ (called _ c u))
  by_event inside Event.Retry u = started u.node.current _
      (λ op r h. retried u.node.current u refl op r (sym (retried_all (retry_global n a u.node.current u)) ∙ h))
  by_event inside (Event.Exiting p) u = started u.node.current _ (kept u.node.current _ refl)
  by_event inside Event.Leave u = λ op r h. inl (kept u.node.current _ refl op r h)

  -- the registrar waits for one node less
  awaited_less : (c : ℕ) (now : Current) (u : Turn) → u.node.current ≡ now
      → Keeps u.node.current (await_less n a c now u).node.current
  awaited_less c (Current.Writing op s t r) u e = either (Keeps u.node.current) (t c) _ _
      (either (Keeps u.node.current) (is_empty n (without_node c t))
      (done n a op s r u) (at_work (Current.Writing op s (without_node c t) r) u)
      (rested u.node.current Current.Free (λ o r h. cc h))
      (rested u.node.current (Current.Writing op s (without_node c t) r) (λ o r h. cc h)))
      (kept u.node.current _ refl)
  awaited_less c Current.Free u e = kept u.node.current _ refl
  awaited_less c (Current.Asking op r) u e = kept u.node.current _ refl
  awaited_less c (Current.Waiting op) u e = kept u.node.current _ refl
  awaited_less c (Current.Joining k m) u e = kept u.node.current _ refl

  -- a join by a node that is gone ends, and else nothing changes
  contact_lost : (c : ℕ) (now : Current) (u : Turn) →
      ((lose_contact n a c now u).node.current ≡ u.node.current) ⊎ ((lose_contact n a c now u).node.current ≡ Current.Free)
  contact_lost c (Current.Joining k m) u =
      either (λ d. (d ≡ u.node.current) ⊎ (d ≡ Current.Free)) (m == c) _ _ (inr refl) (inl refl)
  contact_lost c Current.Free u = inl refl
  contact_lost c (Current.Asking op r) u = inl refl
  contact_lost c (Current.Waiting op) u = inl refl
  contact_lost c (Current.Writing op s t r) u = inl refl

  module _ (number : ℕ → ℕ) where
    -- behind a round of an operation none but that has one
    abbrev Alone : Op → Current → Type 0
    Alone x c = (op : Op) (r : Round) → c ≡ Current.Asking op r → x ≡ op

    decided : (x : Op) (s : Nodes) (u : Turn) → Alone x u.node.current → Alone x (held n a number x s u).node.current
    decided (Op.Name k c) s u q = either (Alone (Op.Name k c))
        (is_grant (reply_to u.node.replica.members u.node.replica.table c)) _ _ (λ o r h. cc h) (λ o r h. cc h)
    decided (Op.Strike p) s u q = λ o r h. cc h
    decided (Op.Admission j ps) s u q =
        either (Alone (Op.Admission j ps)) (u.node.replica.told j) _ _ (λ o r h. cc h) (λ o r h. cc h)
    decided (Op.Join k m) s u q = q

    ended : (e : Ending) (x : Op) (s : Nodes) (u : Turn) → Alone x u.node.current
        → Alone x (end_by n a number e x s u).node.current
    ended Ending.Held x s u q = decided x s u q
    ended (Ending.GiveBack granted) x s u q = λ op r h. cc h

    went_on : (x : Op) (r : Round) (u : Turn) → Alone x (go_on n a number x r u).node.current
    went_on x r u = either (Alone x) (is_over n r) _ _
        (ended (ending n u.node.replica.members r) x (asked r) (at_work (Current.Asking x r) u) (λ o t h. cc h))
        (λ op t h. cc h)

    had : (x : Op) (r : Round) (c d : Current) → c ≡ Current.Asking x r → Alone x d → Keeps c d
    had x r c d e alone op t h = inr (r, e ∙ ap (λ (y : Op). Current.Asking y r) (alone op t h))

    heard_answer : (f : ℕ) (granted : Bool) (now : Current) (u : Turn) → u.node.current ≡ now
        → Keeps u.node.current (hear_answer n a number f granted now u).node.current
    heard_answer f granted (Current.Asking x r) u e = either (Keeps u.node.current) (owes r f) _ _
        (had x r u.node.current _ e (went_on x (answer f granted r)
        (ask_rest n a f granted (Letter.SetLock (Global a) (registrar a)) r u))) (kept u.node.current _ refl)
    heard_answer f granted Current.Free u e = kept u.node.current _ refl
    heard_answer f granted (Current.Waiting op) u e = kept u.node.current _ refl
    heard_answer f granted (Current.Writing op s t r) u e = kept u.node.current _ refl
    heard_answer f granted (Current.Joining k m) u e = kept u.node.current _ refl

    lost : (d : ℕ) (now : Current) (u : Turn) → u.node.current ≡ now
        → Keeps u.node.current (lose n a number d now u).node.current
    lost d (Current.Asking x r) u e = had x r u.node.current _ e (went_on x (down d r) u)
    lost d Current.Free u e = kept u.node.current _ refl
    lost d (Current.Waiting op) u e = kept u.node.current _ refl
    lost d (Current.Writing op s t r) u e = awaited_less d (Current.Writing op s t r) u e
    lost d (Current.Joining k m) u e = kept u.node.current _ refl

    bereft_of : (d : ℕ) (u : Turn) → Keeps u.node.current (bereave n a number d u).node.current
    bereft_of d u op r h =
        let v : Turn = lose_join n a number d (told_of n a number d u) in
        let asks : (lose_current n a number d v).node.current ≡ Current.Asking op r =
        sym (lost_all d (lose_current n a number d v)) ∙ h in
        elim (contact_lost d u.node.current (told_of n a number d u)) [
          | inl same ↦ subst (λ (c : Current). Had c op) same (lost d v.node.current v refl op r asks)
          | inr free ↦ absurd (no op (subst (λ (c : Current). Had c op) free (lost d v.node.current v refl op r asks)))
        ]
      where
        no : (op : Op) → Had Current.Free op → ⊥
        no op (inl e) = cc e
        no op (inr e) = cc (e.1)

    refused : (f : ℕ) (now : Current) (u : Turn) → Keeps u.node.current (refused_join n a number f now u).node.current
    refused f (Current.Joining k m) u = either (Keeps u.node.current) (m == f) _ _
        (rested u.node.current _ (λ o r h. cc h)) (kept u.node.current _ refl)
    refused f Current.Free u = kept u.node.current _ refl
    refused f (Current.Asking op r) u = kept u.node.current _ refl
    refused f (Current.Waiting op) u = kept u.node.current _ refl
    refused f (Current.Writing op s t r) u = kept u.node.current _ refl

    killed : (ps : List Process) (u : Turn) → (kill n a ps u).node.current ≡ u.node.current
    killed ps u = for_all (λ turn p. if is_live a turn.node.watch p then die n a p turn else turn)
        (λ p v. either (IsAt v.node.current) (is_live a v.node.watch p) _ _ refl refl) ps u

    by_letter : (f : ℕ) (l : Letter) (u : Turn) → Keeps u.node.current (read n a number f l u).node.current
    by_letter f (Letter.SetLock id p) u = kept u.node.current _
        (either (IsAt u.node.current) (is_free_for id p u.node.locks) _ _ refl refl)
    by_letter f (Letter.LockAnswer id p granted) u = either (Keeps u.node.current) (is_process p (registrar a)) _ _
        (heard_answer f granted u.node.current u refl)
        (kept u.node.current _ (heard_lock f granted (call_of p u.node.calls) u))
    by_letter f (Letter.GiveBack id p ack) u = kept u.node.current _ (either (IsAt u.node.current) ack _ _ refl refl)
    by_letter f (Letter.GivenBack p) u = kept u.node.current _ (owed_less f (call_of p u.node.calls) u)
    by_letter f (Letter.ReleaseOf p) u = kept u.node.current _ refl
    by_letter f (Letter.Apply change) u = kept u.node.current _ refl
    by_letter f Letter.Applied u = awaited_less f u.node.current u refl
    by_letter f (Letter.JoinAsk pairs) u = kept u.node.current _
        (either (IsAt u.node.current) u.node.replica.joined _ _ refl refl)
    by_letter f Letter.JoinRefused u = refused f u.node.current u
    by_letter f (Letter.Admit j settled) u = kept u.node.current _ (killed settled.fate.kills _)
    by_letter f (Letter.Welcome members pairs told fate) u = go u.node.current
      where
        go : (now : Current) → Keeps u.node.current (welcome n a number f members pairs told fate now u).node.current
        go (Current.Joining k m) = either (Keeps u.node.current) (m == f) _ _
            (rested u.node.current _ (λ o r h. cc h)) (kept u.node.current _ refl)
        go Current.Free = kept u.node.current _ refl
        go (Current.Asking op r) = kept u.node.current _ refl
        go (Current.Waiting op) = kept u.node.current _ refl
        go (Current.Writing op s t r) = kept u.node.current _ refl
    by_letter f Letter.Down u = bereft_of f u

    received : (f : ℕ) (l : Letter) (u : Turn) → Comes u.node.current (receive n a number f l u)
    received f l u = started u.node.current _ (either (Keeps u.node.current) (u.node.replica.told f && not (is_down l)) _ _
        (kept u.node.current _ refl) (by_letter f l u))

-- what an event makes of the node at its place
by_turn : (o : Opening) (w : World) (e : WorldEvent) → Comes o.bound (place e) (w.node (place e)).current (turn_of o w e)
by_turn o w (At a e) = by_event o.bound a (in_world o) e (begun (w.node a))
by_turn o w (Deliver f t) = go (w.links.queue f t)
  where
    go : (ls : List Letter) → Comes o.bound t (w.node t).current (heard o.bound t w f ls)
    go [] = λ op r h. inl (kept (w.node t).current _ refl op r h)
    go (l ∷ ls) = received o.bound t (join_number w) f l (begun (w.node t))

-- what a node begins is the strike that is owed
abbrev StrikesFirst : ℕ → Node → Node → Type 0
StrikesFirst a before behind = (serial : ℕ) (op : Op) → BeginsOperation before behind op
    → owed a behind.replica.table behind.watch ≡ Some serial → op ≡ Op.Strike (process_of a serial)

-- a node that stays begins nothing
stays_first : (a : ℕ) (v : Node) → StrikesFirst a v v
stays_first a v serial op B i = absurd (B.asked B.round B.asks)

turn_first : (o : Opening) (w : World) (e : WorldEvent) → StrikesFirst (place e) (w.node (place e)) (turn_of o w e).node
turn_first o w e serial op B i = elim (by_turn o w e op B.round B.asks) [
  | inl had ↦ absurd (none had)
  | inr first ↦ first serial i
]
  where
    none : Had (w.node (place e)).current op → ⊥
    none (inl q) = B.waited q
    none (inr q) = B.asked q.0 q.1

pub strikes_come_first : StrikesComeFirst
strikes_come_first o es e a serial op = by (is_none (refusal o w e)) serial op
  where
    w : World
    w = world o es

    go : (b : Bool) → (a == place e) ≡ b → StrikesFirst a (w.node a) (if b then (turn_of o w e).node else w.node a)
    go true i = subst (λ (x : ℕ). StrikesFirst x (w.node x) (turn_of o w e).node) (sym (eqb-true a (place e) i)) (turn_first o w e)
    go false i = stays_first a (w.node a)

    by : (b : Bool) → StrikesFirst a (w.node a) ((if b then accepted o w e else w).node a)
    by true = subst (λ (f : ℕ → Node). StrikesFirst a (w.node a) (f a)) (sym (accepted-node o w e)) (go (a == place e) refl)
    by false = stays_first a (w.node a)
