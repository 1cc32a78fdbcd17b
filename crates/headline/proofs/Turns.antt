-- In the turn of a node that answers `yes` nothing begins to hold, and it writes nothing at its end, part by part.
use Rattle.std.proofs.Common.{ℕ, Bool, true, false, ◌≡◌, Option, Some, None, List, [], ◌∷◌, ◌++◌, refl, sym, ap, ◌∙◌}
use Rattle.std.specs.Prelude.{◌&&◌, ◌||◌, not, fold, is_some, if◌then◌else◌}
use Rattle.registry_model.specs.History.{Entry, granted_to}
use Rattle.std.specs.List.{list_any}
use Rattle.std.proofs.lemmas.List.Folds.{list_any-append}
use Rattle.std.proofs.Math.Bool.{and-false}
use Rattle.registry_model.specs.Process.{at}
use Rattle.registry_model.specs.Call.{Reply, Yes, True, False, is_reply}
use Rattle.protocol_model.specs.Round.{Round, owes, asked, answer, down, is_over, Ending, ending, opens, rest, is_empty}
use Rattle.protocol_model.specs.Letter.{Letter}
use Rattle.protocol_model.specs.Watch.{owed}
use Rattle.protocol_model.specs.Node.{Op, Current, LockPhase, LockCall, targets, is_writing}
use Rattle.protocol_model.specs.Event.{Answer}
use Rattle.protocol_model.specs.Turn.{Turn, with_queue, keep_call, send_all}
use Rattle.protocol_model.specs.Registrar.{start, start_free, start_next, start_queue, ask_rest, contact_left, ask_join}
use Rattle.protocol_model.specs.Client.{is_spent, in_phase, one_less, close_call, ask_lock, try_lock, give_lock, refuse_lock, end_lock_by, go_on_lock, hear_lock_in, owe_less_in, lose_node_in, retry_in, ask_back, delete_lock}
use Rattle.protocol_model.specs.Answers.{answer_to}

abbrev pub is_yes : Answer → Bool
is_yes s = is_reply s.reply Yes

-- with this entry an operation begins to hold
abbrev pub begins : Entry → Bool
begins e = is_some (granted_to e)

-- an operation begins to hold, or is being written
abbrev pub is_busy : Turn → Bool
is_busy u = is_writing u.node.current || list_any begins u.entries

-- where `yes` is answered nothing begins to hold, and the node writes nothing at the end
abbrev pub Tame : Turn → Type 0
Tame u = (list_any is_yes u.answers && is_busy u) ≡ false

-- the registrar is at the same, no more `yes` is answered, and nothing more begins to hold
pub record Same (u v : Turn) : Type 0 where
  pub yes : list_any is_yes v.answers ≡ list_any is_yes u.answers
  pub current : v.node.current ≡ u.node.current
  pub entries : list_any begins v.entries ≡ list_any begins u.entries

pub same_itself : (u : Turn) → Same u u
same_itself u = record { yes = refl; current = refl; entries = refl }

pub same_then : (u v x : Turn) → Same u v → Same v x → Same u x
same_then u v x S T = record { yes = T.yes ∙ S.yes; current = T.current ∙ S.current; entries = T.entries ∙ S.entries }

-- one item more that doesn't pass
pub push_none : {A : Type 0} (test : A → Bool) (ss : List A) (s : A) → test s ≡ false
    → list_any test (ss ++ s ∷ []) ≡ list_any test ss
push_none {A} test ss s e = list_any-append test ss (s ∷ []) ∙ ap (λ (b : Bool). list_any test ss || (b || false)) e
    ∙ go (list_any test ss)
  where
    go : (b : Bool) → (b || (false || false)) ≡ b
    go true = refl
    go false = refl

pub tame_same : (u v : Turn) → Same u v → Tame u → Tame v
tame_same u v S T = ap (λ (b : Bool). b && is_busy v) S.yes
    ∙ ap (λ (c : Current). list_any is_yes u.answers && (is_writing c || list_any begins v.entries)) S.current
    ∙ ap (λ (b : Bool). list_any is_yes u.answers && (is_writing u.node.current || b)) S.entries ∙ T

-- a turn that answered nothing
pub tame_none : (u : Turn) → u.answers ≡ [] → Tame u
tame_none u e = ap (λ (ss : List Answer). list_any is_yes ss && is_busy u) e

-- a turn that writes nothing, in which nothing begins to hold
pub tame_idle : (u : Turn) → is_writing u.node.current ≡ false → list_any begins u.entries ≡ false → Tame u
tame_idle u idle none = ap (λ (b : Bool). list_any is_yes u.answers && (b || list_any begins u.entries)) idle
    ∙ ap (λ (b : Bool). list_any is_yes u.answers && (false || b)) none ∙ and-false (list_any is_yes u.answers)

module _ (n a : ℕ) where
  -- the end of a step begins what is next: it answers `contact_left`, or nothing
  start_queue_adds : (ops : List Op) (u : Turn) → list_any is_yes (start_queue n a ops u).answers
      ≡ list_any is_yes u.answers
  start_queue_adds [] u = refl
  start_queue_adds (Op.Join k m ∷ ops) u = go (u.node.replica.told m) (start_queue_adds ops (contact_left n a k m u))
    where
      go : (b : Bool) → list_any is_yes (start_queue n a ops (contact_left n a k m u)).answers ≡ list_any is_yes
          (contact_left n a k m u).answers
          → list_any is_yes (if b then start_queue n a ops (contact_left n a k m u) else ask_join n a k m
          (with_queue ops u)).answers ≡ list_any is_yes u.answers
      go true more = more ∙ push_none is_yes u.answers (answer_to a k Reply.ContactLeft) refl
      go false more = refl
  start_queue_adds (Op.Name k c ∷ ops) u = refl
  start_queue_adds (Op.Strike p ∷ ops) u = refl
  start_queue_adds (Op.Admission j pairs ∷ ops) u = refl

  start_adds : (u : Turn) → list_any is_yes (start n a u).answers ≡ list_any is_yes u.answers
  start_adds u = go u.node.current
    where
      next : (s : Option ℕ) → list_any is_yes (start_next n a s u).answers ≡ list_any is_yes u.answers
      next (Some serial) = refl
      next None = start_queue_adds u.node.queue u

      go : (c : Current) → list_any is_yes (start_free n a c u).answers ≡ list_any is_yes u.answers
      go Current.Free = next (owed a u.node.replica.table u.node.watch)
      go (Current.Asking op r) = refl
      go (Current.Waiting op) = refl
      go (Current.Writing op asked awaited reply) = refl
      go (Current.Joining k m) = refl

  -- nothing begins to hold
  start_queue_enters : (ops : List Op) (u : Turn) → list_any begins (start_queue n a ops u).entries
      ≡ list_any begins u.entries
  start_queue_enters [] u = refl
  start_queue_enters (Op.Join k m ∷ ops) u = go (u.node.replica.told m)
      (start_queue_enters ops (contact_left n a k m u))
    where
      go : (b : Bool) → list_any begins (start_queue n a ops (contact_left n a k m u)).entries ≡ list_any begins
          (contact_left n a k m u).entries
          → list_any begins (if b then start_queue n a ops (contact_left n a k m u) else ask_join n a k m
          (with_queue ops u)).entries ≡ list_any begins u.entries
      go true more = more ∙ push_none begins u.entries (Entry.Join a k m Reply.ContactLeft) refl
      go false more = refl
  start_queue_enters (Op.Name k c ∷ ops) u = refl
  start_queue_enters (Op.Strike p ∷ ops) u = refl
  start_queue_enters (Op.Admission j pairs ∷ ops) u = refl

  start_enters : (u : Turn) → list_any begins (start n a u).entries ≡ list_any begins u.entries
  start_enters u = go u.node.current
    where
      next : (s : Option ℕ) → list_any begins (start_next n a s u).entries ≡ list_any begins u.entries
      next (Some serial) = refl
      next None = start_queue_enters u.node.queue u

      go : (c : Current) → list_any begins (start_free n a c u).entries ≡ list_any begins u.entries
      go Current.Free = next (owed a u.node.replica.table u.node.watch)
      go (Current.Asking op r) = refl
      go (Current.Waiting op) = refl
      go (Current.Writing op asked awaited reply) = refl
      go (Current.Joining k m) = refl

  -- and writes nothing that wasn't written before
  start_queue_idle : (ops : List Op) (u : Turn) → u.node.current ≡ Current.Free
      → is_writing (start_queue n a ops u).node.current ≡ false
  start_queue_idle [] u e = ap is_writing e
  start_queue_idle (Op.Join k m ∷ ops) u e = go (u.node.replica.told m)
      (start_queue_idle ops (contact_left n a k m u) e)
    where
      go : (b : Bool) → is_writing (start_queue n a ops (contact_left n a k m u)).node.current ≡ false
          → is_writing (if b then start_queue n a ops (contact_left n a k m u) else ask_join n a k m
          (with_queue ops u)).node.current ≡ false
      go true more = more
      go false more = refl
  start_queue_idle (Op.Name k c ∷ ops) u e = refl
  start_queue_idle (Op.Strike p ∷ ops) u e = refl
  start_queue_idle (Op.Admission j pairs ∷ ops) u e = refl

  start_writes : (u : Turn) → is_writing (start n a u).node.current ≡ is_writing u.node.current
  start_writes u = go u.node.current refl
    where
      next : u.node.current ≡ Current.Free → (s : Option ℕ) → is_writing (start_next n a s u).node.current ≡ false
      next e (Some serial) = refl
      next e None = start_queue_idle u.node.queue u e

      go : (c : Current) → u.node.current ≡ c → is_writing (start_free n a c u).node.current ≡ is_writing u.node.current
      go Current.Free e = next e (owed a u.node.replica.table u.node.watch) ∙ sym (ap is_writing e)
      go (Current.Asking op r) e = refl
      go (Current.Waiting op) e = refl
      go (Current.Writing op asked awaited reply) e = refl
      go (Current.Joining k m) e = refl

  pub tame_start : (u : Turn) → Tame u → Tame (start n a u)
  tame_start u T = ap (λ (b : Bool). b && is_busy (start n a u)) (start_adds u)
      ∙ ap (λ (b : Bool). list_any is_yes u.answers && (b || list_any begins (start n a u).entries)) (start_writes u)
      ∙ ap (λ (b : Bool). list_any is_yes u.answers && (is_writing u.node.current || b)) (start_enters u) ∙ T

  -- lock calls answer `true` and `false`
  same_close : (c : LockCall) (granted : Bool) (u : Turn) → Same u (close_call n a c granted u)
  same_close c true u = record {
    yes = push_none is_yes u.answers (answer_to a c.number True) refl;
    current = refl;
    entries = refl;
  }
  same_close c false u = record {
    yes = push_none is_yes u.answers (answer_to a c.number False) refl;
    current = refl;
    entries = refl;
  }

  pub same_try : (c : LockCall) (u : Turn) → Same u (try_lock n a c u)
  same_try c u = go (is_empty n (targets u.node.replica.members c.target))
    where
      go : (b : Bool) → Same u (if b then close_call n a c false u else ask_lock n a c
          (targets u.node.replica.members c.target) u)
      go true = same_close c false u
      go false = record { yes = refl; current = refl; entries = refl }

  pub same_delete : (c : LockCall) (u : Turn) → Same u (delete_lock n a c u)
  same_delete c u = go (is_empty n (targets u.node.replica.members c.target))
    where
      go : (b : Bool) → Same u (if b then close_call n a c true u else ask_back n a c
          (targets u.node.replica.members c.target) u)
      go true = same_close c true u
      go false = record { yes = refl; current = refl; entries = refl }

  same_refuse : (c : LockCall) (u : Turn) → Same u (refuse_lock n a c u)
  same_refuse c u = go (is_spent c.retries)
    where
      go : (b : Bool) → Same u (if b then close_call n a c false u else keep_call (in_phase LockPhase.Waiting c) u)
      go true = same_close c false u
      go false = record { yes = refl; current = refl; entries = refl }

  same_end_by : (e : Ending) (c : LockCall) (u : Turn) → Same u (end_lock_by n a e c u)
  same_end_by Ending.Held c u = same_close c true u
  same_end_by (Ending.GiveBack granted) c u = same_then u (give_lock n a c granted u) _
      (record { yes = refl; current = refl; entries = refl })
      (same_refuse c (give_lock n a c granted u))

  same_go_on : (c : LockCall) (r : Round) (u : Turn) → Same u (go_on_lock n a c r u)
  same_go_on c r u = go (is_over n r)
    where
      d : LockCall
      d = in_phase (LockPhase.Asking r) c

      kept : Same u (keep_call d u)
      kept = record { yes = refl; current = refl; entries = refl }

      go : (b : Bool) → Same u (if b then end_lock_by n a (ending n (asked r) r) d (keep_call d u) else keep_call d u)
      go true = same_then u (keep_call d u) _ kept (same_end_by (ending n (asked r) r) d (keep_call d u))
      go false = kept

  pub same_rest : (f : ℕ) (granted : Bool) (l : Letter) (r : Round) (u : Turn) → Same u (ask_rest n a f granted l r u)
  same_rest f granted l r u = go (opens f granted r)
    where
      go : (b : Bool) → Same u (if b then send_all n (λ x. rest r x && not (u.node.replica.told x)) l u else u)
      go true = record { yes = refl; current = refl; entries = refl }
      go false = same_itself u

  pub same_hear : (f : ℕ) (granted : Bool) (phase : LockPhase) (c : LockCall) (u : Turn)
      → Same u (hear_lock_in n a f granted phase c u)
  same_hear f granted (LockPhase.Asking r) c u = go (owes r f)
    where
      v : Turn
      v = ask_rest n a f granted (Letter.SetLock c.id c.holder) r u

      go : (b : Bool) → Same u (if b then go_on_lock n a c (answer f granted r) v else u)
      go true = same_then u v _ (same_rest f granted (Letter.SetLock c.id c.holder) r u)
          (same_go_on c (answer f granted r) v)
      go false = same_itself u
  same_hear f granted LockPhase.Waiting c u = same_itself u
  same_hear f granted (LockPhase.Deleting owing) c u = same_itself u

  pub same_owe : (f : ℕ) (phase : LockPhase) (c : LockCall) (u : Turn) → Same u (owe_less_in n a f phase c u)
  same_owe f (LockPhase.Deleting owing) c u = go (owing f) (is_empty n (at owing f false))
    where
      go : (b e : Bool) → Same u (if
          b then (if e then close_call n a c true u else keep_call
          (in_phase (LockPhase.Deleting (at owing f false)) c) u) else u)
      go true true = same_close c true u
      go true false = record { yes = refl; current = refl; entries = refl }
      go false e = same_itself u
  same_owe f LockPhase.Waiting c u = same_itself u
  same_owe f (LockPhase.Asking r) c u = same_itself u

  same_lose_in : (d : ℕ) (phase : LockPhase) (c : LockCall) (u : Turn) → Same u (lose_node_in n a d phase c u)
  same_lose_in d (LockPhase.Asking r) c u = same_go_on c (down d r) u
  same_lose_in d LockPhase.Waiting c u = same_itself u
  same_lose_in d (LockPhase.Deleting owing) c u = same_owe d (LockPhase.Deleting owing) c u

  pub same_lose_all : (d : ℕ) (cs : List LockCall) (u : Turn)
      → Same u (fold (λ w c. lose_node_in n a d c.phase c w) u cs)
  same_lose_all d [] u = same_itself u
  same_lose_all d (c ∷ cs) u =
      same_then u (lose_node_in n a d c.phase c u) _ (same_lose_in d c.phase c u)
      (same_lose_all d cs (lose_node_in n a d c.phase c u))

  same_retry_in : (phase : LockPhase) (c : LockCall) (u : Turn) → Same u (retry_in n a phase c u)
  same_retry_in LockPhase.Waiting c u = same_try (record c { retries = one_less c.retries }) u
  same_retry_in (LockPhase.Asking r) c u = same_itself u
  same_retry_in (LockPhase.Deleting owing) c u = same_itself u

  pub same_retry_all : (cs : List LockCall) (u : Turn) → Same u (fold (λ w c. retry_in n a c.phase c w) u cs)
  same_retry_all [] u = same_itself u
  same_retry_all (c ∷ cs) u =
      same_then u (retry_in n a c.phase c u) _ (same_retry_in c.phase c u)
      (same_retry_all cs (retry_in n a c.phase c u))
