-- The rules of lock calls send to nodes that have started.
use Rattle.std.proofs.Common.{ℕ, Bool, true, false, ◌==◌, ◌≡◌, List, [], ◌∷◌, refl}
use Rattle.std.specs.Prelude.{◌&&◌, not, if◌then◌else◌, All, fold}
use Rattle.std.specs.List.{list_any}
use Rattle.std.proofs.lemmas.List.Elements.{All-filter, All-head, All-tail}
use Rattle.registry_model.specs.Process.{Nodes, is_process, without_node}
use Rattle.protocol_model.specs.Letter.{Letter as AnyLetter}
use Rattle.protocol_model.specs.Node.{LockCall, LockPhase, Target, put_call, drop_call, targets}
use Rattle.protocol_model.specs.Round.{Round, begin, greatest, asked, granted, rest, owes, opens, answer, down, is_over, is_empty, Ending, is_held}
use Rattle.protocol_model.specs.Turn.{Turn, keep_call, send_all}
use Rattle.protocol_model.specs.Registrar.{ask_rest}
use Rattle.protocol_model.specs.Client.{is_spent, one_less, in_phase, close_call, ask_lock, try_lock, give_lock, refuse_lock, end_lock, end_lock_by, go_on_lock, hear_lock_in, ask_back, delete_lock, owe_less_in, lose_node_in, retry_in}
use Rattle.node_core.proofs.Locking.{All-put_call}
use Rattle.node_core.proofs.Receivers.{AreOf, IsFit, IsPhaseOf, IsCallOf, IsWithin, first, one_less_of, greatest-of, begun_of, granted_of, answered_of, down_of, keeps, sends, sends_all}

-- the nodes that a call asks are members
targets-of : (world known : Nodes) (t : Target) → AreOf world known → AreOf world (targets known t)
targets-of world known Target.All of = of
targets-of world known (Target.Named names) of =
    λ c e. of c (first (known c) (list_any (λ nodes. list_any (λ m. m == c) nodes) names) e)

module _ {n a : ℕ} {world : Nodes} where
  -- the boss's grant opens a round
  pub asks_rest : (c : ℕ) (g : Bool) (l : AnyLetter) (r : Round) (u : Turn) → ((x : ℕ) → IsFit a world x l)
      → AreOf world (asked r) → IsWithin n a world u → IsWithin n a world (ask_rest n a c g l r u)
  asks_rest c g l r u fit of W = go (opens c g r)
    where
      others : Nodes
      others x = rest r x && not (u.node.replica.told x)

      go : (b : Bool) → IsWithin n a world (if b then send_all n others l u else u)
      go true = sends_all W others l
          (λ x e. (
            of x (first (asked r x) (not (x == r.boss)) (first (rest r x) (not (u.node.replica.told x)) e)),
            fit x,
          ))
      go false = W

  -- a lock call ends
  closes : (c : LockCall) (g : Bool) (u : Turn) → IsWithin n a world u → IsWithin n a world (close_call n a c g u)
  closes c g u W = keeps W (drop_call c.holder u.node.calls)
      (All-filter (λ d. not (is_process d.holder c.holder)) (IsCallOf world) u.node.calls W.calls)

  -- a lock call stands so now
  puts : (c : LockCall) (u : Turn) → IsCallOf world c → IsWithin n a world u → IsWithin n a world (keep_call c u)
  puts c u of W = keeps W (put_call c u.node.calls) (All-put_call (IsCallOf world) c u.node.calls of W.calls)

  -- a `set_lock` is tried
  pub tries : (c : LockCall) (u : Turn) → IsWithin n a world u → IsWithin n a world (try_lock n a c u)
  tries c u W = go (is_empty n s) refl
    where
      s : Nodes
      s = targets u.node.replica.members c.target

      of : AreOf world s
      of = targets-of world u.node.replica.members c.target W.members

      go : (b : Bool) → is_empty n s ≡ b
          → IsWithin n a world (if b then close_call n a c false u else ask_lock n a c s u)
      go true e = closes c false u W
      go false e =
          sends (puts (in_phase (LockPhase.Asking (begin n s)) c) u (λ x f. of x (begun_of n s x f)) W)
          (greatest n s) (AnyLetter.SetLock c.id c.holder) (of (greatest n s) (greatest-of n s e)) tt

  refuses_lock : (c : LockCall) (u : Turn) → IsWithin n a world u → IsWithin n a world (refuse_lock n a c u)
  refuses_lock c u W = go (is_spent c.retries)
    where
      go : (b : Bool)
          → IsWithin n a world (if b then close_call n a c false u else keep_call (in_phase LockPhase.Waiting c) u)
      go true = closes c false u W
      go false = puts (in_phase LockPhase.Waiting c) u tt W

  ends_lock : (c : LockCall) (r : Round) (u : Turn) → AreOf world (asked r) → IsWithin n a world u
      → IsWithin n a world (end_lock n a c r u)
  ends_lock c r u of W = go (is_over n r) (is_held n (asked r) r)
    where
      go : (b d : Bool) → IsWithin n a world (if b
          then end_lock_by n a (if d then Ending.Held else Ending.GiveBack (granted r)) c u else u)
      go true true = closes c true u W
      go true false =
          refuses_lock c (give_lock n a c (granted r) u)
          (sends_all W (granted r) (AnyLetter.GiveBack c.id c.holder false) (λ x e. (of x (granted_of r x e), tt)))
      go false d = W

  pub hears_lock : (f : ℕ) (g : Bool) (phase : LockPhase) (c : LockCall) (u : Turn) → IsPhaseOf world phase
      → IsWithin n a world u → IsWithin n a world (hear_lock_in n a f g phase c u)
  hears_lock f g (LockPhase.Asking r) c u of W = go (owes r f) refl
    where
      letter : AnyLetter
      letter = AnyLetter.SetLock c.id c.holder

      r2 : Round
      r2 = answer f g r

      asked_now : owes r f ≡ true → AreOf world (asked r2)
      asked_now owed x e = of x (answered_of r f g owed x e)

      go : (b : Bool) → owes r f ≡ b
          → IsWithin n a world (if b then go_on_lock n a c r2 (ask_rest n a f g letter r u) else u)
      go true owed =
          ends_lock (in_phase (LockPhase.Asking r2) c) r2
          (keep_call (in_phase (LockPhase.Asking r2) c) (ask_rest n a f g letter r u)) (asked_now owed)
          (puts (in_phase (LockPhase.Asking r2) c) (ask_rest n a f g letter r u) (asked_now owed)
          (asks_rest f g letter r u (λ x. tt) of W))
      go false owed = W
  hears_lock f g LockPhase.Waiting c u of W = W
  hears_lock f g (LockPhase.Deleting owing) c u of W = W

  -- a `del_lock` goes out
  pub deletes : (c : LockCall) (u : Turn) → IsWithin n a world u → IsWithin n a world (delete_lock n a c u)
  deletes c u W = go (is_empty n s)
    where
      s : Nodes
      s = targets u.node.replica.members c.target

      of : AreOf world s
      of = targets-of world u.node.replica.members c.target W.members

      go : (b : Bool) → IsWithin n a world (if b then close_call n a c true u else ask_back n a c s u)
      go true = closes c true u W
      go false = sends_all (puts (in_phase (LockPhase.Deleting s) c) u of W) s
          (AnyLetter.GiveBack c.id c.holder true) (λ x e. (of x e, tt))

  pub owes_less : (f : ℕ) (phase : LockPhase) (c : LockCall) (u : Turn) → IsPhaseOf world phase
      → IsWithin n a world u → IsWithin n a world (owe_less_in n a f phase c u)
  owes_less f (LockPhase.Deleting owing) c u of W = go (owing f) (is_empty n less)
    where
      less : Nodes
      less = without_node f owing

      go : (b d : Bool) → IsWithin n a world (if b
          then (if d then close_call n a c true u else keep_call (in_phase (LockPhase.Deleting less) c) u) else u)
      go true true = closes c true u W
      go true false = puts (in_phase (LockPhase.Deleting less) c) u (one_less_of world owing f of) W
      go false d = W
  owes_less f (LockPhase.Asking r) c u of W = W
  owes_less f LockPhase.Waiting c u of W = W

  -- a refused call is tried again
  retries_call : (phase : LockPhase) (c : LockCall) (u : Turn) → IsWithin n a world u
      → IsWithin n a world (retry_in n a phase c u)
  retries_call LockPhase.Waiting c u W = tries (record c { retries = one_less c.retries }) u W
  retries_call (LockPhase.Asking r) c u W = W
  retries_call (LockPhase.Deleting owing) c u W = W

  pub retries_calls : (cs : List LockCall) (u : Turn) → IsWithin n a world u
      → IsWithin n a world (fold (λ x c. retry_in n a c.phase c x) u cs)
  retries_calls [] u W = W
  retries_calls (c ∷ cs) u W = retries_calls cs (retry_in n a c.phase c u) (retries_call c.phase c u W)

  -- a lock call is told
  loses_call : (d : ℕ) (phase : LockPhase) (c : LockCall) (u : Turn) → IsPhaseOf world phase → IsWithin n a world u
      → IsWithin n a world (lose_node_in n a d phase c u)
  loses_call d (LockPhase.Asking r) c u of W =
      ends_lock (in_phase (LockPhase.Asking (down d r)) c) (down d r)
      (keep_call (in_phase (LockPhase.Asking (down d r)) c) u) (λ x e. of x (down_of r d x e))
      (puts (in_phase (LockPhase.Asking (down d r)) c) u (λ x e. of x (down_of r d x e)) W)
  loses_call d LockPhase.Waiting c u of W = W
  loses_call d (LockPhase.Deleting owing) c u of W = owes_less d (LockPhase.Deleting owing) c u of W

  pub loses_calls : (d : ℕ) (cs : List LockCall) (u : Turn) → All (IsCallOf world) cs → IsWithin n a world u
      → IsWithin n a world (fold (λ x c. lose_node_in n a d c.phase c x) u cs)
  loses_calls d [] u of W = W
  loses_calls d (c ∷ cs) u of W = loses_calls d cs (lose_node_in n a d c.phase c u) (All-tail (IsCallOf world) c cs of)
      (loses_call d c.phase c u (All-head (IsCallOf world) c cs of) W)
