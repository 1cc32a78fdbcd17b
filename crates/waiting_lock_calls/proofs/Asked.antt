-- Who is asked for clients' locks behind a retry in a quiet world: nobody but those whom the calls of the retried node ask.
-- w: the quiet world; a: the node.
use Rattle.std.proofs.Common.{ℕ, Bool, true, false, ◌==◌, ◌≡◌, ◌<◌, Option, Some, None, List, [], ◌∷◌, ◌++◌, refl, sym, ap, subst, ◌∙◌}
use Rattle.std.specs.Prelude.{Contains, fold, if◌then◌else◌}
use Rattle.std.specs.List.{list_all}
use Rattle.registry_model.specs.Process.{Process, Nodes}
use Rattle.registry_model.proofs.Lists.{Contains-front, Contains-behind}
use Rattle.protocol_model.specs.Letter.{Id, Letter, Global}
use Rattle.protocol_model.specs.Round.{is_empty, greatest}
use Rattle.protocol_model.specs.Watch.{owed}
use Rattle.protocol_model.specs.Node.{Op, Current, LockPhase, LockCall, Retries, targets}
use Rattle.protocol_model.specs.Turn.{Turn, Send, begun, with_queue, sent_to}
use Rattle.protocol_model.specs.Registrar.{registrar, ask_join, contact_left, start_queue, start_next, start_free, start, retry_global}
use Rattle.protocol_model.specs.Client.{one_less, close_call, ask_lock, try_lock, retry_in, retry_locks}
use Rattle.protocol_model.specs.World.{World}
use Rattle.getting_through.proofs.Indices.{both, some_of, greatest_in}
use Rattle.getting_through.proofs.Invariants.{Each}
use Rattle.getting_through.proofs.Sends.{sent_to-append}
use Rattle.getting_through.proofs.Base.{each-one, each-append}
use Rattle.getting_through.proofs.Requests.{is_apart}
use Rattle.waiting_lock_calls.specs.Retried.{asks}

module _ (w : World) (a : ℕ) where
  -- a call that waits at a asks node t for this lock
  abbrev pub IsAsked : ℕ → Id → Type 0
  IsAsked t id = (d : LockCall) × Contains (w.node a).calls d × (d.id ≡ id) × (asks w a d t ≡ true)

  -- a letter to t asks for a client's lock only where such a call does
  abbrev pub Asks : ℕ → Letter → Type 0
  Asks t (Letter.SetLock id q) = (q.serial == 0) ≡ false → IsAsked t id
  Asks t l = Unit {0}

  -- letters apart from clients' locks
  pub each_apart : (t : ℕ) (ls : List Letter) → list_all is_apart ls ≡ true → Each (Asks t) ls
  each_apart t [] h = tt
  each_apart t (l ∷ ls) h = let parts : (is_apart l ≡ true) × (list_all is_apart ls ≡ true) =
      both (is_apart l) (list_all is_apart ls) h in
      (one l parts.0, each_apart t ls parts.1)
    where
      one : (l : Letter) → is_apart l ≡ true → Asks t l
      one (Letter.SetLock id q) i = λ ne. cc (i, ne)
      one l i = tt

  module _ (n : ℕ) where
    -- by its first letter such a call asks its boss
    abbrev pub AsksBoss : ℕ → Id → Process → Type 0
    AsksBoss t id q = (d : LockCall) × Contains (w.node a).calls d × (d.id ≡ id) × (d.holder ≡ q) × (asks w a d t ≡ true)
        × (t ≡ greatest n (asks w a d))

    abbrev pub Begins : ℕ → Letter → Type 0
    Begins t (Letter.SetLock id q) = (q.serial == 0) ≡ false → AsksBoss t id q
    Begins t (Letter.LockAnswer id q g) = ⊥
    Begins t l = Unit {0}

    pub begins_asks : (t : ℕ) (l : Letter) → Begins t l → Asks t l
    begins_asks t (Letter.SetLock id q) h = λ ne. let b : AsksBoss t id q = h ne in (b.0, b.1, b.2, b.4)
    begins_asks t l h = tt

    -- a turn of a that so far only asks
    pub record Begun (u : Turn) : Type 0 where
      pub members : u.node.replica.members ≡ (w.node a).replica.members
      pub locks : u.node.locks ≡ (w.node a).locks
      pub sends : (y : ℕ) → Each (Begins y) (sent_to y u.sends)

    one_more : (ss : List Send) → ((y : ℕ) → Each (Begins y) (sent_to y ss)) → (t : ℕ) (l : Letter) → Begins t l → (y : ℕ)
        → Each (Begins y) (sent_to y (ss ++ record { to = t; letter = l } ∷ []))
    one_more ss all t l h y = subst (Each (Begins y)) (sym (sent_to-append y ss (record { to = t; letter = l } ∷ [])))
        (each-append (Begins y) (sent_to y ss) (sent_to y (record { to = t; letter = l } ∷ [])) (all y)
        (each-one (Begins y) y t l (λ i. subst (λ (x : ℕ). Begins x l) i h)))

    tried : (d : LockCall) → Contains (w.node a).calls d → (k : Retries) (u : Turn) → Begun u
        → Begun (try_lock n a (record d { retries = k }) u)
    tried d listed k u B = go (is_empty n s) refl
      where
        s : Nodes
        s = targets u.node.replica.members d.target

        asked : is_empty n s ≡ false → asks w a d (greatest n s) ≡ true
        asked e = let one : (x : ℕ) × (x < n) × (s x ≡ true) = some_of n s e in
            ap (λ (m : Nodes). targets m d.target (greatest n s)) (sym B.members) ∙ greatest_in n s one.0 one.1 one.2

        go : (b : Bool) → is_empty n s ≡ b → Begun (if b then close_call n a (record d { retries = k }) false u
            else ask_lock n a (record d { retries = k }) s u)
        go true e = record { members = B.members; locks = B.locks; sends = B.sends }
        go false e = record {
          members = B.members;
          locks = B.locks;
          sends = one_more u.sends B.sends (greatest n s) (Letter.SetLock d.id d.holder) (λ ne. (
            d,
            listed,
            refl,
            refl,
            asked e,
            ap (λ (m : Nodes). greatest n (targets m d.target)) B.members,
          ));
        }

    all_tried : (cs : List LockCall) → ((d : LockCall) → Contains cs d → Contains (w.node a).calls d) → (u : Turn) → Begun u
        → Begun (fold (λ turn d. retry_in n a d.phase d turn) u cs)
    all_tried [] listed u B = B
    all_tried (d ∷ cs) listed u B = all_tried cs (λ e i. listed e (Contains-behind d cs e i)) (retry_in n a d.phase d u)
        (go d.phase)
      where
        go : (f : LockPhase) → Begun (retry_in n a f d u)
        go LockPhase.Waiting = tried d (listed d (Contains-front d cs)) (one_less d.retries) u B
        go (LockPhase.Asking r) = B
        go (LockPhase.Deleting owing) = B

    queue_begun : (ops : List Op) (u : Turn) → Begun u → Begun (start_queue n a ops u)
    queue_begun [] u B = record { members = B.members; locks = B.locks; sends = B.sends }
    queue_begun (Op.Join k m ∷ ops) u B = go (u.node.replica.told m)
        (queue_begun ops (contact_left n a k m u) (record { members = B.members; locks = B.locks; sends = B.sends }))
      where
        go : (b : Bool) → Begun (start_queue n a ops (contact_left n a k m u))
            → Begun (if b then start_queue n a ops (contact_left n a k m u) else ask_join n a k m (with_queue ops u))
        go true C = C
        go false C = record {
          members = B.members;
          locks = B.locks;
          sends = one_more u.sends B.sends m (Letter.JoinAsk u.node.replica.table) tt;
        }
    queue_begun (op ∷ ops) u B = record {
      members = B.members;
      locks = B.locks;
      sends = one_more u.sends B.sends (greatest n u.node.replica.members) (Letter.SetLock (Global a) (registrar a)) (λ ne. cc ne);
    }

    start_begun : (u : Turn) → Begun u → Begun (start n a u)
    start_begun u B = go u.node.current
      where
        next : (s : Option ℕ) → Begun (start_next n a s u)
        next (Some s) = record {
          members = B.members;
          locks = B.locks;
          sends = one_more u.sends B.sends (greatest n u.node.replica.members) (Letter.SetLock (Global a) (registrar a))
              (λ ne. cc ne);
        }
        next None = queue_begun u.node.queue u B

        go : (x : Current) → Begun (start_free n a x u)
        go Current.Free = next (owed a u.node.replica.table u.node.watch)
        go (Current.Asking op r) = B
        go (Current.Waiting op) = B
        go (Current.Writing op s awaited reply) = B
        go (Current.Joining k m) = B

    -- what a retry makes of the node
    pub retry_begun : Begun (start n a (retry_locks n a (retry_global n a (w.node a).current (begun (w.node a)))))
    retry_begun = start_begun (retry_locks n a (retry_global n a (w.node a).current (begun (w.node a)))) (go (w.node a).current)
      where
        at_first : Begun (begun (w.node a))
        at_first = record { members = refl; locks = refl; sends = λ y. tt }

        go : (x : Current) → Begun (retry_locks n a (retry_global n a x (begun (w.node a))))
        go (Current.Waiting op) = all_tried (w.node a).calls (λ d i. i) (retry_global n a (Current.Waiting op) (begun (w.node a)))
            (record {
              members = refl;
              locks = refl;
              sends = one_more [] (λ y. tt) (greatest n (w.node a).replica.members) (Letter.SetLock (Global a) (registrar a))
                  (λ ne. cc ne);
            })
        go Current.Free = all_tried (w.node a).calls (λ d i. i) (begun (w.node a)) at_first
        go (Current.Asking op r) = all_tried (w.node a).calls (λ d i. i) (begun (w.node a)) at_first
        go (Current.Writing op s awaited reply) = all_tried (w.node a).calls (λ d i. i) (begun (w.node a)) at_first
        go (Current.Joining k m) = all_tried (w.node a).calls (λ d i. i) (begun (w.node a)) at_first
