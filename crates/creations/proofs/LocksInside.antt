-- The rules of lock calls, at a node of a set, know of nodes of this set alone.
use Rattle.std.proofs.Common.{ℕ, Bool, true, false, ◌==◌, ◌≡◌, List, [], ◌∷◌, refl}
use Rattle.std.specs.Prelude.{◌&&◌, not, if◌then◌else◌, All, fold}
use Rattle.std.specs.List.{list_any}
use Rattle.std.proofs.lemmas.List.Elements.{All-filter, All-head, All-tail}
use Rattle.registry_model.specs.Process.{Nodes, is_process, without_node}
use Rattle.protocol_model.specs.Letter.{Letter}
use Rattle.protocol_model.specs.Node.{LockCall, LockPhase, Target, put_call, drop_call, targets}
use Rattle.protocol_model.specs.Round.{Round, begin, greatest, asked, granted, rest, owes, opens, answer, down, is_over, is_empty, Ending, is_held}
use Rattle.protocol_model.specs.Turn.{Turn, keep_call, send_all}
use Rattle.protocol_model.specs.Registrar.{ask_rest}
use Rattle.protocol_model.specs.Client.{is_spent, one_less, in_phase, close_call, ask_lock, try_lock, give_lock, refuse_lock, end_lock, end_lock_by, go_on_lock, hear_lock_in, ask_back, delete_lock, owe_less_in, lose_node_in, retry_in}
use Rattle.creations.proofs.Inside.{AreIn, IsLetterIn, IsPhaseIn, IsCallIn, IsInside, first_of, one_less_in, greatest_is_in, begin_asks, granted_in, answer_asks, down_asks, put_call_in, calls_are, sends, sends_all}

-- the node is of the set, and so is the least of all
pub record Ground (S : Nodes) (a : ℕ) : Type 0 where
  pub here : S a ≡ true
  pub least : S 0 ≡ true

-- the nodes that a call asks are members
pub targets_in : (S known : Nodes) (t : Target) → AreIn S known → AreIn S (targets known t)
targets_in S known Target.All of = of
targets_in S known (Target.Named names) of =
    λ c e. of c (first_of (known c) (list_any (λ nodes. list_any (λ m. m == c) nodes) names) e)

module _ (n : ℕ) {a : ℕ} {S : Nodes} (G : Ground S a) where
  -- the boss's grant opens a round
  pub asks_rest : (c : ℕ) (g : Bool) (l : Letter) (r : Round) (u : Turn) → IsLetterIn S l
      → AreIn S (asked r) → IsInside S u → IsInside S (ask_rest n a c g l r u)
  asks_rest c g l r u fit of W = go (opens c g r)
    where
      others : Nodes
      others x = rest r x && not (u.node.replica.told x)

      go : (b : Bool) → IsInside S (if b then send_all n others l u else u)
      go true = sends_all W n others l
          (λ x e. of x (first_of (asked r x) (not (x == r.boss)) (first_of (rest r x) (not (u.node.replica.told x)) e))) fit
      go false = W

  -- a lock call ends
  closes : (c : LockCall) (g : Bool) (u : Turn) → IsInside S u → IsInside S (close_call n a c g u)
  closes c g u W = calls_are W (drop_call c.holder u.node.calls)
      (All-filter (λ d. not (is_process d.holder c.holder)) (IsCallIn S) u.node.calls W.called)

  -- a lock call stands so now
  puts : (c : LockCall) (phase : LockPhase) (u : Turn) → S c.holder.node ≡ true → IsPhaseIn S phase → IsInside S u
      → IsInside S (keep_call (in_phase phase c) u)
  puts c phase u home of W = calls_are W (put_call (in_phase phase c) u.node.calls)
      (put_call_in S (in_phase phase c) u.node.calls (record { phase = of; holder = home }) W.called)

  -- a `set_lock` is tried
  pub tries : (c : LockCall) (u : Turn) → S c.holder.node ≡ true → IsInside S u → IsInside S (try_lock n a c u)
  tries c u home W = go (is_empty n s)
    where
      s : Nodes
      s = targets u.node.replica.members c.target

      of : AreIn S s
      of = targets_in S u.node.replica.members c.target W.members

      go : (b : Bool) → IsInside S (if b then close_call n a c false u else ask_lock n a c s u)
      go true = closes c false u W
      go false =
          sends (puts c (LockPhase.Asking (begin n s)) u home (begin_asks S n s of) W)
          (greatest n s) (Letter.SetLock c.id c.holder) (greatest_is_in S n s G.least of) home

  refuses_lock : (c : LockCall) (u : Turn) → S c.holder.node ≡ true → IsInside S u → IsInside S (refuse_lock n a c u)
  refuses_lock c u home W = go (is_spent c.retries)
    where
      go : (b : Bool)
          → IsInside S (if b then close_call n a c false u else keep_call (in_phase LockPhase.Waiting c) u)
      go true = closes c false u W
      go false = puts c LockPhase.Waiting u home tt W

  ends_lock : (c : LockCall) (r : Round) (u : Turn) → S c.holder.node ≡ true → AreIn S (asked r) → IsInside S u
      → IsInside S (end_lock n a c r u)
  ends_lock c r u home of W = go (is_over n r) (is_held n (asked r) r)
    where
      go : (b d : Bool) → IsInside S (if b
          then end_lock_by n a (if d then Ending.Held else Ending.GiveBack (granted r)) c u else u)
      go true true = closes c true u W
      go true false =
          refuses_lock c (give_lock n a c (granted r) u) home
          (sends_all W n (granted r) (Letter.GiveBack c.id c.holder false) (granted_in S r of) tt)
      go false d = W

  pub hears_lock : (f : ℕ) (g : Bool) (phase : LockPhase) (c : LockCall) (u : Turn) → S c.holder.node ≡ true
      → IsPhaseIn S phase → IsInside S u → IsInside S (hear_lock_in n a f g phase c u)
  hears_lock f g (LockPhase.Asking r) c u home of W = go (owes r f) refl
    where
      letter : Letter
      letter = Letter.SetLock c.id c.holder

      r2 : Round
      r2 = answer f g r

      go : (b : Bool) → owes r f ≡ b
          → IsInside S (if b then go_on_lock n a c r2 (ask_rest n a f g letter r u) else u)
      go true owed =
          ends_lock (in_phase (LockPhase.Asking r2) c) r2
          (keep_call (in_phase (LockPhase.Asking r2) c) (ask_rest n a f g letter r u)) home (answer_asks S r f g of owed)
          (puts c (LockPhase.Asking r2) (ask_rest n a f g letter r u) home (answer_asks S r f g of owed)
          (asks_rest f g letter r u home of W))
      go false owed = W
  hears_lock f g LockPhase.Waiting c u home of W = W
  hears_lock f g (LockPhase.Deleting owing) c u home of W = W

  -- a `del_lock` goes out
  pub deletes : (c : LockCall) (u : Turn) → S c.holder.node ≡ true → IsInside S u → IsInside S (delete_lock n a c u)
  deletes c u home W = go (is_empty n s)
    where
      s : Nodes
      s = targets u.node.replica.members c.target

      of : AreIn S s
      of = targets_in S u.node.replica.members c.target W.members

      go : (b : Bool) → IsInside S (if b then close_call n a c true u else ask_back n a c s u)
      go true = closes c true u W
      go false = sends_all (puts c (LockPhase.Deleting s) u home of W) n s (Letter.GiveBack c.id c.holder true) of tt

  pub owes_less : (f : ℕ) (phase : LockPhase) (c : LockCall) (u : Turn) → S c.holder.node ≡ true → IsPhaseIn S phase
      → IsInside S u → IsInside S (owe_less_in n a f phase c u)
  owes_less f (LockPhase.Deleting owing) c u home of W = go (owing f) (is_empty n less)
    where
      less : Nodes
      less = without_node f owing

      go : (b d : Bool) → IsInside S (if b
          then (if d then close_call n a c true u else keep_call (in_phase (LockPhase.Deleting less) c) u) else u)
      go true true = closes c true u W
      go true false = puts c (LockPhase.Deleting less) u home (one_less_in S owing f of) W
      go false d = W
  owes_less f (LockPhase.Asking r) c u home of W = W
  owes_less f LockPhase.Waiting c u home of W = W

  -- refused calls are tried again
  retries_call : (phase : LockPhase) (c : LockCall) (u : Turn) → S c.holder.node ≡ true → IsInside S u
      → IsInside S (retry_in n a phase c u)
  retries_call LockPhase.Waiting c u home W = tries (record c { retries = one_less c.retries }) u home W
  retries_call (LockPhase.Asking r) c u home W = W
  retries_call (LockPhase.Deleting owing) c u home W = W

  pub retries_calls : (cs : List LockCall) (u : Turn) → All (IsCallIn S) cs → IsInside S u
      → IsInside S (fold (λ x c. retry_in n a c.phase c x) u cs)
  retries_calls [] u of W = W
  retries_calls (c ∷ cs) u of W = retries_calls cs (retry_in n a c.phase c u) (All-tail (IsCallIn S) c cs of)
      (retries_call c.phase c u (All-head (IsCallIn S) c cs of).holder W)

  -- the lock calls are told that d has gone down
  loses_call : (d : ℕ) (phase : LockPhase) (c : LockCall) (u : Turn) → S c.holder.node ≡ true → IsPhaseIn S phase
      → IsInside S u → IsInside S (lose_node_in n a d phase c u)
  loses_call d (LockPhase.Asking r) c u home of W =
      ends_lock (in_phase (LockPhase.Asking (down d r)) c) (down d r)
      (keep_call (in_phase (LockPhase.Asking (down d r)) c) u) home (down_asks S r d of)
      (puts c (LockPhase.Asking (down d r)) u home (down_asks S r d of) W)
  loses_call d LockPhase.Waiting c u home of W = W
  loses_call d (LockPhase.Deleting owing) c u home of W = owes_less d (LockPhase.Deleting owing) c u home of W

  pub loses_calls : (d : ℕ) (cs : List LockCall) (u : Turn) → All (IsCallIn S) cs → IsInside S u
      → IsInside S (fold (λ x c. lose_node_in n a d c.phase c x) u cs)
  loses_calls d [] u of W = W
  loses_calls d (c ∷ cs) u of W =
      let call : IsCallIn S c = All-head (IsCallIn S) c cs of in
      loses_calls d cs (lose_node_in n a d c.phase c u) (All-tail (IsCallIn S) c cs of)
      (loses_call d c.phase c u call.holder call.phase W)
