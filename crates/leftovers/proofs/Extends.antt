-- Parts of a step that only add: entries by which nobody dies, and letters.
use Rattle.std.proofs.Common.{ℕ, Bool, true, false, ◌==◌, ◌≡◌, Option, Some, None, List, [], ◌∷◌, ◌++◌, refl, sym, ap, ◌∙◌}
use Rattle.std.specs.Prelude.{not, ◌&&◌, ◌||◌, fold, map, if◌then◌else◌}
use Rattle.std.specs.List.{list_any, list_all}
use Rattle.std.proofs.lemmas.List.{append-nil, append_assoc}
use Rattle.registry_model.specs.Process.{Process, is_process, Nodes, nodes_of, at}
use Rattle.registry_model.specs.Call.{Joined, ContactLeft, Reply}
use Rattle.registry_model.specs.History.{Entry}
use Rattle.protocol_model.specs.Round.{Round, is_empty, asked, owes, opens, rest, answer, down, is_over, Ending, Held, GiveBack, ending}
use Rattle.protocol_model.specs.Letter.{Letter}
use Rattle.protocol_model.specs.Watch.{is_live, owed}
use Rattle.protocol_model.specs.Node.{Op, Current, LockPhase, LockCall, targets}
use Rattle.protocol_model.specs.Turn.{Turn, Send, at_work, with_queue, keep_call, send, send_all, enter, sent_to}
use Rattle.protocol_model.specs.Registrar.{ask_global, finish, done, ask_rest, await_less, contact_left, lose_contact, ask_join, start_queue, start_next, start_free, start, retry_global}
use Rattle.protocol_model.specs.Client.{is_spent, in_phase, close_call, ask_lock, try_lock, give_lock, end_lock_by, go_on_lock, hear_lock_in, hear_lock, owe_less_in, owe_less, lose_node_in, retry_in, delete_lock, ask_back, one_less}
use Rattle.protocol_model.specs.Calling.{die, kill}
use Rattle.headline.proofs.Indices.{both}
use Rattle.headline.proofs.Rules.{kills_in}
use Rattle.headline.proofs.Sends.{sent_to-append}

-- somebody dies by this entry
abbrev pub is_deadly : Entry → Bool
is_deadly (Entry.Join j k m Joined) = true
is_deadly (Entry.Exit p) = true
is_deadly _ = false

abbrev pub are_harmless : List Entry → Bool
are_harmless es = list_all (λ e. not (is_deadly e)) es

-- p dies by this letter, and by one of these
abbrev pub kills_by : Process → Letter → Bool
kills_by p l = list_any (is_process p) (kills_in l)

abbrev pub has_kill : Process → List Letter → Bool
has_kill p ls = list_any (kills_by p) ls

pub kill_more : (p : Process) (xs ys : List Letter) → has_kill p xs ≡ true → has_kill p (xs ++ ys) ≡ true
kill_more p [] ys h = cc
kill_more p (x ∷ xs) ys h = go (kills_by p x) h (kill_more p xs ys)
  where
    go : (b : Bool) → (b || has_kill p xs) ≡ true → (has_kill p xs ≡ true → has_kill p (xs ++ ys) ≡ true)
        → (b || has_kill p (xs ++ ys)) ≡ true
    go true k more = refl
    go false k more = more k

pub kill_later : (p : Process) (xs ys : List Letter) → has_kill p ys ≡ true → has_kill p (xs ++ ys) ≡ true
kill_later p [] ys h = h
kill_later p (x ∷ xs) ys h = go (kills_by p x) (kill_later p xs ys h)
  where
    go : (b : Bool) → has_kill p (xs ++ ys) ≡ true → (b || has_kill p (xs ++ ys)) ≡ true
    go true k = refl
    go false k = k

-- v adds to u
pub record Adds (u v : Turn) : Type 0 where
  pub more : List Entry
  pub entries : v.entries ≡ u.entries ++ more
  pub harmless : are_harmless more ≡ true
  pub kills : (p : Process) (x : ℕ) → has_kill p (sent_to x u.sends) ≡ true → has_kill p (sent_to x v.sends) ≡ true

pub harmless_append : (xs ys : List Entry) → are_harmless xs ≡ true → are_harmless ys ≡ true
    → are_harmless (xs ++ ys) ≡ true
harmless_append [] ys h k = k
harmless_append (x ∷ xs) ys h k =
    let parts : (not (is_deadly x) ≡ true) × (are_harmless xs ≡ true) = both (not (is_deadly x)) (are_harmless xs) h in
    rw (parts.0, harmless_append xs ys parts.1 k) refl

pub adds_none : (u : Turn) → Adds u u
adds_none u = record { more = []; entries = sym (append-nil u.entries); harmless = refl; kills = λ p x h. h }

pub adds_then : (u v z : Turn) → Adds u v → Adds v z → Adds u z
adds_then u v z f g = record {
  more = f.more ++ g.more;
  entries = g.entries ∙ ap (λ (es : List Entry). es ++ g.more) f.entries ∙ append_assoc u.entries f.more g.more;
  harmless = harmless_append f.more g.more f.harmless g.harmless;
  kills = λ p x h. g.kills p x (f.kills p x h);
}

-- the same entries and letters
pub adds_same : (u v : Turn) → v.entries ≡ u.entries → v.sends ≡ u.sends → Adds u v
adds_same u v e s = record {
  more = [];
  entries = e ∙ sym (append-nil u.entries);
  harmless = refl;
  kills = λ p x h. ap (λ (ss : List Send). has_kill p (sent_to x ss)) s ∙ h;
}

-- and more letters
pub adds_sends : (u v : Turn) (ss : List Send) → v.entries ≡ u.entries → v.sends ≡ u.sends ++ ss → Adds u v
adds_sends u v ss e s = record {
  more = [];
  entries = e ∙ sym (append-nil u.entries);
  harmless = refl;
  kills = λ p x h. ap (λ (ts : List Send). has_kill p (sent_to x ts)) s
      ∙ ap (has_kill p) (sent_to-append x u.sends ss) ∙ kill_more p (sent_to x u.sends) (sent_to x ss) h;
}

-- or an entry more
pub adds_entry : (u v : Turn) (d : Entry) → is_deadly d ≡ false → v.entries ≡ u.entries ++ d ∷ []
    → v.sends ≡ u.sends → Adds u v
adds_entry u v d quiet e s = record {
  more = d ∷ [];
  entries = e;
  harmless = rw quiet refl;
  kills = λ p x h. ap (λ (ss : List Send). has_kill p (sent_to x ss)) s ∙ h;
}

module _ (n a : ℕ) where
  pub add_send : (c : ℕ) (l : Letter) (u : Turn) → Adds u (send c l u)
  add_send c l u = adds_sends u (send c l u) (record { to = c; letter = l } ∷ []) refl refl

  pub add_send_all : (s : Nodes) (l : Letter) (u : Turn) → Adds u (send_all n s l u)
  add_send_all s l u = adds_sends u (send_all n s l u) (map (λ c. record { to = c; letter = l }) (nodes_of n s)) refl refl

  pub add_ask_global : (op : Op) (u : Turn) → Adds u (ask_global n a op u)
  add_ask_global op u = adds_sends u (ask_global n a op u) (_ ∷ []) refl refl

  -- Start
  add_queue : (ops : List Op) (u : Turn) → Adds u (start_queue n a ops u)
  add_queue [] u = adds_same u (start_queue n a [] u) refl refl
  add_queue (Op.Join k m ∷ ops) u = go (u.node.replica.told m) (add_queue ops (contact_left n a k m u))
    where
      go : (t : Bool) → Adds (contact_left n a k m u) (start_queue n a ops (contact_left n a k m u))
          → Adds u (if t then start_queue n a ops (contact_left n a k m u) else ask_join n a k m (with_queue ops u))
      go true more = adds_then u (contact_left n a k m u) (start_queue n a ops (contact_left n a k m u))
          (adds_entry u (contact_left n a k m u) (Entry.Join a k m ContactLeft) refl refl refl) more
      go false more = adds_sends u (ask_join n a k m (with_queue ops u)) (_ ∷ []) refl refl
  add_queue (Op.Name k c ∷ ops) u = adds_sends u (ask_global n a (Op.Name k c) (with_queue ops u)) (_ ∷ []) refl refl
  add_queue (Op.Strike p ∷ ops) u = adds_sends u (ask_global n a (Op.Strike p) (with_queue ops u)) (_ ∷ []) refl refl
  add_queue (Op.Admission j pairs ∷ ops) u =
      adds_sends u (ask_global n a (Op.Admission j pairs) (with_queue ops u)) (_ ∷ []) refl refl

  pub add_start : (u : Turn) → Adds u (start n a u)
  add_start u = go u.node.current
    where
      next : (s : Option ℕ) → Adds u (start_next n a s u)
      next (Some serial) = add_ask_global (Op.Strike (record { node = a; serial = serial })) u
      next None = add_queue u.node.queue u

      go : (c : Current) → Adds u (start_free n a c u)
      go Current.Free = next (owed a u.node.replica.table u.node.watch)
      go _ = adds_none u

  -- the registrar
  pub add_finish : (op : Op) (s : Nodes) (reply : Option Reply) (u : Turn) → Adds u (finish n a op s reply u)
  add_finish (Op.Name k c) s (Some r) u = adds_sends u (finish n a (Op.Name k c) s (Some r) u) _ refl refl
  add_finish (Op.Name k c) s None u = adds_sends u (finish n a (Op.Name k c) s None u) _ refl refl
  add_finish op s reply u = adds_sends u (finish n a op s reply u) _ refl refl

  pub add_ask_rest : (f : ℕ) (g : Bool) (l : Letter) (r : Round) (u : Turn) → Adds u (ask_rest n a f g l r u)
  add_ask_rest f g l r u = go (opens f g r)
    where
      go : (b : Bool) → Adds u (if b then send_all n (λ x. rest r x && not (u.node.replica.told x)) l u else u)
      go true = add_send_all (λ x. rest r x && not (u.node.replica.told x)) l u
      go false = adds_none u

  pub add_await_less : (d : ℕ) (c : Current) (u : Turn) → Adds u (await_less n a d c u)
  add_await_less d (Current.Writing op s awaited reply) u = go (awaited d) (is_empty n (at awaited d false))
    where
      go : (b c : Bool) → Adds u (if b then (if c then done n a op s reply u
          else at_work (Current.Writing op s (at awaited d false) reply) u) else u)
      go true true = adds_then u (enter (Entry.Done a) u) (done n a op s reply u)
          (adds_entry u (enter (Entry.Done a) u) (Entry.Done a) refl refl refl)
          (add_finish op s reply (enter (Entry.Done a) u))
      go true false = adds_same u (at_work (Current.Writing op s (at awaited d false) reply) u) refl refl
      go false c = adds_none u
  add_await_less d _ u = adds_none u

  pub add_lose_contact : (d : ℕ) (c : Current) (u : Turn) → Adds u (lose_contact n a d c u)
  add_lose_contact d (Current.Joining k m) u = go (m == d)
    where
      go : (b : Bool) → Adds u (if b then contact_left n a k m (at_work Current.Free u) else u)
      go true = adds_entry u (contact_left n a k m (at_work Current.Free u)) (Entry.Join a k m ContactLeft) refl refl refl
      go false = adds_none u
  add_lose_contact d _ u = adds_none u

  pub add_retry : (c : Current) (u : Turn) → Adds u (retry_global n a c u)
  add_retry (Current.Waiting op) u = add_ask_global op u
  add_retry _ u = adds_none u

  -- clients' lock calls
  add_go_on_lock : (c : LockCall) (r : Round) (u : Turn) → Adds u (go_on_lock n a c r u)
  add_go_on_lock c r u = go (is_over n r)
    where
      d : LockCall
      d = in_phase (LockPhase.Asking r) c

      refused : (granted : Nodes) (b : Bool) → Adds u (if b then close_call n a d false
          (give_lock n a d granted (keep_call d u)) else keep_call (in_phase LockPhase.Waiting d)
          (give_lock n a d granted (keep_call d u)))
      refused granted true = adds_sends u (close_call n a d false (give_lock n a d granted (keep_call d u))) _ refl refl
      refused granted false = adds_sends u (keep_call (in_phase LockPhase.Waiting d)
          (give_lock n a d granted (keep_call d u))) _ refl refl

      ends : (x : Ending) → Adds u (end_lock_by n a x d (keep_call d u))
      ends Held = adds_same u (close_call n a d true (keep_call d u)) refl refl
      ends (GiveBack granted) = refused granted (is_spent c.retries)

      go : (b : Bool) → Adds u (if b then end_lock_by n a (ending n (asked r) r) d (keep_call d u) else keep_call d u)
      go true = ends (ending n (asked r) r)
      go false = adds_same u (keep_call d u) refl refl

  add_owe_in : (d : ℕ) (ph : LockPhase) (c : LockCall) (u : Turn) → Adds u (owe_less_in n a d ph c u)
  add_owe_in d (LockPhase.Deleting owing) c u = go (owing d) (is_empty n (at owing d false))
    where
      go : (b s : Bool) → Adds u (if b then (if s then close_call n a c true u
          else keep_call (in_phase (LockPhase.Deleting (at owing d false)) c) u) else u)
      go true true = adds_same u (close_call n a c true u) refl refl
      go true false = adds_same u (keep_call (in_phase (LockPhase.Deleting (at owing d false)) c) u) refl refl
      go false s = adds_none u
  add_owe_in d _ c u = adds_none u

  pub add_owe : (d : ℕ) (x : Option LockCall) (u : Turn) → Adds u (owe_less n a d x u)
  add_owe d None u = adds_none u
  add_owe d (Some c) u = add_owe_in d c.phase c u

  pub add_hear_lock : (f : ℕ) (g : Bool) (x : Option LockCall) (u : Turn) → Adds u (hear_lock n a f g x u)
  add_hear_lock f g None u = adds_none u
  add_hear_lock f g (Some c) u = phase c.phase
    where
      phase : (ph : LockPhase) → Adds u (hear_lock_in n a f g ph c u)
      phase (LockPhase.Asking r) = go (owes r f)
        where
          l : Letter
          l = Letter.SetLock c.id c.holder

          go : (b : Bool) → Adds u (if b then go_on_lock n a c (answer f g r)
              (ask_rest n a f g (Letter.SetLock c.id c.holder) r u) else u)
          go true = adds_then u (ask_rest n a f g l r u) (go_on_lock n a c (answer f g r) (ask_rest n a f g l r u))
              (add_ask_rest f g l r u) (add_go_on_lock c (answer f g r) (ask_rest n a f g l r u))
          go false = adds_none u
      phase _ = adds_none u

  add_lose_in : (d : ℕ) (ph : LockPhase) (c : LockCall) (u : Turn) → Adds u (lose_node_in n a d ph c u)
  add_lose_in d (LockPhase.Asking r) c u = add_go_on_lock c (down d r) u
  add_lose_in d (LockPhase.Deleting owing) c u = add_owe_in d (LockPhase.Deleting owing) c u
  add_lose_in d LockPhase.Waiting c u = adds_none u

  pub add_lose_all : (d : ℕ) (cs : List LockCall) (u : Turn)
      → Adds u (fold (λ turn c. lose_node_in n a d c.phase c turn) u cs)
  add_lose_all d [] u = adds_none u
  add_lose_all d (c ∷ cs) u = adds_then u (lose_node_in n a d c.phase c u)
      (fold (λ turn c. lose_node_in n a d c.phase c turn) (lose_node_in n a d c.phase c u) cs)
      (add_lose_in d c.phase c u) (add_lose_all d cs (lose_node_in n a d c.phase c u))

  pub add_try : (c : LockCall) (u : Turn) → Adds u (try_lock n a c u)
  add_try c u = go (is_empty n (targets u.node.replica.members c.target))
    where
      go : (b : Bool) → Adds u (if b then close_call n a c false u
          else ask_lock n a c (targets u.node.replica.members c.target) u)
      go true = adds_same u (close_call n a c false u) refl refl
      go false = adds_sends u (ask_lock n a c (targets u.node.replica.members c.target) u) (_ ∷ []) refl refl

  pub add_delete : (c : LockCall) (u : Turn) → Adds u (delete_lock n a c u)
  add_delete c u = go (is_empty n (targets u.node.replica.members c.target))
    where
      go : (b : Bool) → Adds u (if b then close_call n a c true u
          else ask_back n a c (targets u.node.replica.members c.target) u)
      go true = adds_same u (close_call n a c true u) refl refl
      go false = adds_sends u (ask_back n a c (targets u.node.replica.members c.target) u) _ refl refl

  add_retry_in : (ph : LockPhase) (c : LockCall) (u : Turn) → Adds u (retry_in n a ph c u)
  add_retry_in LockPhase.Waiting c u = add_try (record c { retries = one_less c.retries }) u
  add_retry_in _ c u = adds_none u

  pub add_retry_all : (cs : List LockCall) (u : Turn) → Adds u (fold (λ turn c. retry_in n a c.phase c turn) u cs)
  add_retry_all [] u = adds_none u
  add_retry_all (c ∷ cs) u = adds_then u (retry_in n a c.phase c u)
      (fold (λ turn c. retry_in n a c.phase c turn) (retry_in n a c.phase c u) cs)
      (add_retry_in c.phase c u) (add_retry_all cs (retry_in n a c.phase c u))

  -- deaths
  pub add_die : (p : Process) (u : Turn) → Adds u (die n a p u)
  add_die p u = adds_sends u (die n a p u) _ refl refl

  pub add_kill : (ps : List Process) (u : Turn) → Adds u (kill n a ps u)
  add_kill [] u = adds_none u
  add_kill (p ∷ ps) u = go (is_live a u.node.watch p) (add_kill ps)
    where
      go : (b : Bool) → ((z : Turn) → Adds z (kill n a ps z)) → Adds u (kill n a ps (if b then die n a p u else u))
      go true more = adds_then u (die n a p u) (kill n a ps (die n a p u)) (add_die p u) (more (die n a p u))
      go false more = more u
