-- A process dies, or a node leaves: its processes count for nothing more.
use Rattle.std.proofs.Common.{ℕ, Bool, true, false, ◌==◌, ◌≡◌, None, List, [], ◌∷◌, ◌++◌, refl, sym, ap, ◌∙◌}
use Rattle.std.specs.Prelude.{not, ◌&&◌, ◌||◌, nat_lt, if◌then◌else◌}
use Rattle.std.specs.List.{list_any}
use Rattle.std.proofs.lemmas.List.Folds.{list_any-append}
use Rattle.std.proofs.lemmas.Bool.{eqb-true, eq-eqb}
use Rattle.std.proofs.Math.Bool.{or-true}
use Rattle.registry_model.specs.Process.{Process, Nodes, at}
use Rattle.registry_model.specs.History.{Entry}
use Rattle.protocol_model.specs.Letter.{Id, Letter}
use Rattle.protocol_model.specs.Watch.{is_dead}
use Rattle.protocol_model.specs.Node.{Node}
use Rattle.protocol_model.specs.Event.{Event}
use Rattle.protocol_model.specs.Turn.{Turn}
use Rattle.protocol_model.specs.World.{Opening, in_world, World, left, At, leaver_closed_out}
use Rattle.moves.proofs.Rules.{Exits, Leaves, die_to}
use Rattle.moves.proofs.Invariants.{IsUp}
use Rattle.moves.proofs.Sends.{sent_to-all}
use Rattle.client_locks.proofs.Ids.{is_process_self}
use Rattle.client_locks.proofs.Calls.{call_of-drop}
use Rattle.client_locks.proofs.Sessions.{view, live_along}
use Rattle.client_locks.proofs.Mail.{asks, echoes, turned, all_named}
use Rattle.protocol_model.specs.LockTable.{count}
use Rattle.client_locks.proofs.Clients.{Numbers, lives, live_parts, call_at, Holding, Clients, node_here}
use Rattle.client_locks.proofs.Turns.{acted, hears_nothing}
use Rattle.client_locks.proofs.Serving.{ask_release}
use Rattle.client_locks.proofs.Numbers.{num_by, none_if}
use Rattle.client_locks.proofs.LockRules.{rounded_none}

-- one dead more
dead_other : (xs : List ℕ) (k s : ℕ) → (s == k) ≡ false → list_any (λ d. d == s) (xs ++ k ∷ []) ≡ list_any
    (λ d. d == s) xs
dead_other xs k s ne = list_any-append (λ d. d == s) xs (k ∷ []) ∙ go (list_any (λ d. d == s) xs) (k == s) swapped
  where
    case : (b : Bool) → (k == s) ≡ b → b ≡ false
    case false e = refl
    case true e = absurd (cc (eq-eqb s k (sym (eqb-true k s e)), ne))

    swapped : (k == s) ≡ false
    swapped = case (k == s) refl

    go : (b c : Bool) → c ≡ false → (b || (c || false)) ≡ b
    go true c e = refl
    go false c e = rw e refl

pub dead_now : (xs : List ℕ) (s : ℕ) → list_any (λ d. d == s) (xs ++ s ∷ []) ≡ true
dead_now xs s = list_any-append (λ d. d == s) xs (s ∷ []) ∙ rw (eq-eqb s s refl) (or-true (list_any (λ d. d == s) xs))

module _ (o : Opening) (a : ℕ) (w : World) (num : Numbers) (C : Clients o w num) where
  -- a process of this node dies
  pub dies : (q : Process) (receivers : Nodes) (es : List Entry) → q.node ≡ a
      → Clients o (turned a None (die_to o.bound receivers q (record
      { node = w.node a; sends = []; entries = es; answers = [] })) w) (num_by a (Exits q) w num)
  dies q receivers es home = acted o a None u w num fewer C tt q None (Letter.ReleaseOf q)
      (λ y. nat_lt y o.bound && receivers y) home
      (record {
        calls = λ p. call_of-drop p q (w.node a).calls;
        dead = λ s ne. dead_other (w.node a).watch.dead q.serial s ne;
        locks = refl;
        sent = sent_to-all o.bound receivers (Letter.ReleaseOf q);
      })
      (ask_release q) (hears_nothing a q) rounded_none
      (λ p id x ne. ap (λ (b : Bool). none_if b (num p id x)) ne)
      (λ h. (refl, λ id x. ap (λ (b : Bool). none_if b (num q id x)) (is_process_self q)))
      (λ x up h downs2 e. absurd (cc (gone, (live_parts o (turned a None u w) q h).alive)))
    where
      u : Turn
      u = die_to o.bound receivers q (record { node = w.node a; sends = []; entries = es; answers = [] })

      fewer : Numbers
      fewer = num_by a (Exits q) w num

      gone : is_dead (at w.node a u.node q.node).watch q.serial ≡ true
      gone = ap (λ (v : Node). is_dead v.watch q.serial) (node_here w a u q.node home)
          ∙ dead_now (w.node a).watch.dead q.serial

  -- the node is closed out
  pub leaver_closes : Clients o (leaver_closed_out (At a Event.Leave) w) (num_by a Leaves w num)
  leaver_closes = record {
    tables = C.tables;
    named = λ f n. named_if f n (n == a);
    rounds = C.rounds;
    callers = λ p h up. let k : ((p.node == a) ≡ false) × (left w p.node ≡ false) = stays p.node up in C.callers p
        (sym (same p k.0) ∙ h) k.1;
    strangers = λ p id x h. strange p id x (p.node == a) refl h;
    sessions = λ p x h up. goes_on p x h up;
  }
    where
      named_if : (f n : ℕ) (b : Bool) → all_named f n (if b then [] else w.links.queue f n) ≡ true
      named_if f n true = refl
      named_if f n false = C.named f n

      -- a node that still runs is another one
      stays : (c : ℕ) → at (left w) a true c ≡ false → ((c == a) ≡ false) × (left w c ≡ false)
      stays c h = go (c == a) refl h
        where
          go : (b : Bool) → (c == a) ≡ b → (if b then true else left w c) ≡ false
              → ((c == a) ≡ false) × (left w c ≡ false)
          go true e h = cc
          go false e h = (e, h)

      same : (p : Process) → (p.node == a) ≡ false → lives o (leaver_closed_out (At a Event.Leave) w) p ≡ lives o w p
      same p e = ap (λ (b : Bool). in_world o p.node && (not (if b then true else left w p.node) &&
          (not (p.serial == 0) && not (is_dead (w.node p.node).watch p.serial)))) e

      strange : (p : Process) (id : Id) (x : ℕ) (b : Bool) → (p.node == a) ≡ b
          → lives o (leaver_closed_out (At a Event.Leave) w) p ≡ false → none_if b (num p id x) ≡ 0
      strange p id x true e h = refl
      strange p id x false e h = C.strangers p id x (sym (same p e) ∙ h)

      goes_on : (p : Process) (x : ℕ) → lives o (leaver_closed_out (At a Event.Leave) w) p ≡ true
          → IsUp o (leaver_closed_out (At a Event.Leave) w) x
          → Holding (leaver_closed_out (At a Event.Leave) w) (num_by a Leaves w num) p x
      goes_on p x h up =
          let kp : ((p.node == a) ≡ false) × (left w p.node ≡ false) = stays p.node
          (live_parts o (leaver_closed_out (At a Event.Leave) w) p h).up in
          let kx : ((x == a) ≡ false) × (left w x ≡ false) = stays x up.1 in
          live_along (view (call_at w p) x) (view (call_at w p) x)
          (asks p (w.links.queue p.node x)) (asks p (if x == a then [] else w.links.queue p.node x))
          (echoes p (w.links.queue x p.node)) (echoes p (if p.node == a then [] else w.links.queue x p.node))
          (λ id. count id p (w.node x).locks) (λ id. count id p (w.node x).locks)
          (λ id. num p id x) (λ id. none_if (p.node == a) (num p id x))
          refl
          (ap (λ (b : Bool). asks p (if b then [] else w.links.queue p.node x)) kx.0)
          (ap (λ (b : Bool). echoes p (if b then [] else w.links.queue x p.node)) kp.0)
          (λ id. refl)
          (λ id. ap (λ (b : Bool). none_if b (num p id x)) kp.0)
          (C.sessions p x (sym (same p kp.0) ∙ h) (up.0, kx.1))
