-- Each event keeps that who is dead in the registry is dead at its running node, or is still to die by a letter.
use mathlib.Core.Logic.{◌⊎◌}
use Rattle.std.proofs.Common.{ℕ, Bool, true, false, ◌==◌, ◌≡◌, List, [], ◌∷◌, ◌++◌, refl, sym, ap, ◌∙◌, subst, inl, inr, drop}
use Rattle.std.specs.Prelude.{not, ◌&&◌, ◌||◌, if◌then◌else◌}
use Rattle.std.proofs.lemmas.Bool.{eq-eqb, eqb-true}
use Rattle.std.proofs.lemmas.List.{append-nil}
use Rattle.registry_model.specs.Process.{Process, is_process}
use Rattle.registry_model.specs.Call.{Joined, NotMember, ContactLeft}
use Rattle.registry_model.specs.History.{Entry, registry_of}
use Rattle.registry_model.proofs.Updates.{at_same}
use Rattle.protocol_model.specs.Round.{Round, owes, answer, down, opens, rest}
use Rattle.protocol_model.specs.Letter.{Letter, Global, is_down}
use Rattle.protocol_model.specs.Links.{Links, posted, taken}
use Rattle.protocol_model.specs.LockTable.{is_free_for}
use Rattle.protocol_model.specs.Watch.{Watch, is_dead}
use Rattle.protocol_model.specs.Node.{Node, Op, Current, call_of}
use Rattle.protocol_model.specs.Event.{Event}
use Rattle.protocol_model.specs.Turn.{Turn, begun, with_replica, send, enter, at_work, reply_with, sent_to, send_all}
use Rattle.protocol_model.specs.Registrar.{registrar, start, ask_rest, contact_left, lose_contact}
use Rattle.protocol_model.specs.Deciding.{hear_answer, lose, go_on}
use Rattle.protocol_model.specs.Client.{hear_lock}
use Rattle.protocol_model.specs.Calling.{kill, queued}
use Rattle.protocol_model.specs.Reading.{admitted, welcomed, judge, take_back, refused_join, welcome, told_of, bereave, read, receive}
use Rattle.protocol_model.specs.World.{Opening, in_world, in_cluster, World, left, WorldEvent, At, Deliver, join_number, turn_of, accepted}
use Rattle.headline.proofs.Indices.{both}
use Rattle.headline.proofs.Rules
use Rattle.headline.proofs.Invariants
use Rattle.headline.proofs.Invariants.{IsUp, Each, is_welcome}
use Rattle.leftovers.proofs.Grounds.{Base, replicas, heard_joins, base_keeps}
use Rattle.leftovers.proofs.RestWork.{ask_rest-node}
use Rattle.leftovers.proofs.Extends.{are_harmless, kills_by, has_kill, kill_more, Adds, adds_none, adds_then, adds_same, adds_sends, adds_entry, add_send, add_start, add_ask_rest, add_await_less, add_owe, add_hear_lock, add_lose_all, add_kill}
use Rattle.leftovers.proofs.Verdicts.{Admitted, admitted_then, Outcome, go_on_outcome}
use Rattle.leftovers.proofs.Doomed.{start-watch, kill_kills}

abbrev pub Doomed : Opening → World → Type 0
Doomed o w = (p : Process) → (p.serial == 0) ≡ false → IsUp o w p.node
    → (registry_of (in_cluster o) w.history).dead p ≡ true
    → (is_dead (w.node p.node).watch p.serial ≡ true)
    ⊎ ((x : ℕ) × (in_world o x ≡ true) × (has_kill p (w.links.queue x p.node) ≡ true))

-- letters stay where more come
posted_kill : (p : Process) (a : ℕ) (ls : ℕ → List Letter) (q : Links Letter) (x c : ℕ)
    → has_kill p (q.queue x c) ≡ true → has_kill p ((posted a ls q).queue x c) ≡ true
posted_kill p a ls q x c h = go (x == a && not (q.closed c))
  where
    go : (b : Bool) → has_kill p (if b then q.queue x c ++ ls c else q.queue x c) ≡ true
    go true = kill_more p (q.queue x c) (ls c) h
    go false = h

-- where the event ends, this letter is still there, or was the one that was read
pub kill_stays : (o : Opening) (w : World) (p : Process) (e : WorldEvent) (x c : ℕ) → left (accepted o w e) c ≡ false
    → has_kill p (w.links.queue x c) ≡ true
    → (has_kill p ((accepted o w e).links.queue x c) ≡ true)
    ⊎ ((e ≡ Deliver x c) × ((l : Letter) × (ls : List Letter) × (w.links.queue x c ≡ l ∷ ls) × (kills_by p l ≡ true)))
kill_stays o w p (At a Event.Leave) x c up h = go (c == a) refl up
  where
    go : (b : Bool) → (c == a) ≡ b → (if b then true else left w c) ≡ false
        → (has_kill p (if b then [] else (posted a (λ t. sent_to t (turn_of o w (At a Event.Leave)).sends)
        w.links).queue x c) ≡ true)
        ⊎ ((At a Event.Leave ≡ Deliver x c)
        × ((l : Letter) × (ls : List Letter) × (w.links.queue x c ≡ l ∷ ls) × (kills_by p l ≡ true)))
    go true e k = cc k
    go false e k = inl (posted_kill p a (λ t. sent_to t (turn_of o w (At a Event.Leave)).sends) w.links x c h)
kill_stays o w p (At a (Event.Calling y)) x c up h =
    inl (posted_kill p a (λ t. sent_to t (turn_of o w (At a (Event.Calling y))).sends) w.links x c h)
kill_stays o w p (At a Event.Retry) x c up h =
    inl (posted_kill p a (λ t. sent_to t (turn_of o w (At a Event.Retry)).sends) w.links x c h)
kill_stays o w p (At a (Event.Exiting y)) x c up h =
    inl (posted_kill p a (λ t. sent_to t (turn_of o w (At a (Event.Exiting y))).sends) w.links x c h)
kill_stays o w p (Deliver f t) x c up h = elim popped [
  | inl k ↦ inl (posted_kill p t (λ y. sent_to y (turn_of o w (Deliver f t)).sends) (taken f t w.links) x c k)
  | inr k ↦ inr k
]
  where
    popped : (has_kill p ((taken f t w.links).queue x c) ≡ true) ⊎ ((Deliver f t ≡ Deliver x c)
        × ((l : Letter) × (ls : List Letter) × (w.links.queue x c ≡ l ∷ ls) × (kills_by p l ≡ true)))
    popped = go (x == f && (c == t)) refl
      where
        front : (q : List Letter) → w.links.queue x c ≡ q → has_kill p q ≡ true → Deliver f t ≡ Deliver x c
            → (has_kill p (drop 1 q) ≡ true) ⊎ ((Deliver f t ≡ Deliver x c)
            × ((l : Letter) × (ls : List Letter) × (w.links.queue x c ≡ l ∷ ls) × (kills_by p l ≡ true)))
        front [] e k s = cc k
        front (l ∷ ls) e k s = by (kills_by p l) refl k
          where
            by : (b : Bool) → kills_by p l ≡ b → (b || has_kill p ls) ≡ true → (has_kill p ls ≡ true)
                ⊎ ((Deliver f t ≡ Deliver x c)
                × ((l : Letter) × (ls : List Letter) × (w.links.queue x c ≡ l ∷ ls) × (kills_by p l ≡ true)))
            by true i k = inr (s, (l, ls, e, i))
            by false i k = inl k

        go : (b : Bool) → (x == f && (c == t)) ≡ b
            → (has_kill p (if b then drop 1 (w.links.queue x c) else w.links.queue x c) ≡ true)
            ⊎ ((Deliver f t ≡ Deliver x c)
            × ((l : Letter) × (ls : List Letter) × (w.links.queue x c ≡ l ∷ ls) × (kills_by p l ≡ true)))
        go false e = inl h
        go true e =
            let parts : ((x == f) ≡ true) × ((c == t) ≡ true) = both (x == f) (c == t) e in
            front (w.links.queue x c) refl h (ap (λ (y : ℕ). Deliver y t) (sym (eqb-true x f parts.0))
            ∙ ap (λ (y : ℕ). Deliver x y) (sym (eqb-true c t parts.1)))

module _ (o : Opening) (w : World) (B : Base o w) (f t : ℕ) (up : IsUp o w t) where
  abbrev v : Node
  v = w.node t

  abbrev num : ℕ → ℕ
  num = join_number w

  -- who is to die by the letter that is read dies
  pub letter_dead : (l : Letter) (ls : List Letter) → w.links.queue f t ≡ l ∷ ls → (p : Process) → p.node ≡ t
      → (p.serial == 0) ≡ false → kills_by p l ≡ true
      → is_dead (receive o.bound t (join_number w) f l (begun (w.node t))).node.watch p.serial ≡ true
  letter_dead (Letter.Admit j settled) ls front p home client h =
      ap (λ (x : Watch). is_dead x p.serial)
      (start-watch o.bound t (if (w.node t).replica.told f && true then begun (w.node t)
      else read o.bound t (join_number w) f (Letter.Admit j settled) (begun (w.node t))))
      ∙ go ((w.node t).replica.told f) refl
    where
      sender : IsUp o w f
      sender = ((subst (Each (Invariants.IsOnItsWay o w f t)) front ((replicas o w B).notes f t up.1)).0 refl).3

      go : (b : Bool) → (w.node t).replica.told f ≡ b
          → is_dead (if b && true then begun (w.node t)
          else read o.bound t (join_number w) f (Letter.Admit j settled) (begun (w.node t))).node.watch p.serial ≡ true
      go true e = cc (B.all.proper.told_left t f up.1 e, sender.1)
      go false e = kill_kills o.bound t p home client settled.fate.kills (with_replica (admitted t j settled) (begun (w.node t))) h
  letter_dead (Letter.Welcome members pairs told fate) ls front p home client h =
      ap (λ (x : Watch). is_dead x p.serial)
      (start-watch o.bound t (if (w.node t).replica.told f && true then begun (w.node t)
      else read o.bound t (join_number w) f (Letter.Welcome members pairs told fate) (begun (w.node t))))
      ∙ go ((w.node t).replica.told f) refl
    where
      sender : IsUp o w f
      sender = ((subst (Each (Invariants.IsOnItsWay o w f t)) front ((replicas o w B).notes f t up.1)).0 refl).3

      waits : (k : ℕ) × ((w.node t).current ≡ Current.Joining k f)
      waits = (subst (Each (λ l. is_welcome l ≡ true → (k : ℕ) × ((w.node t).current ≡ Current.Joining k f))) front
          ((heard_joins o w B).welcome f t up)).0 refl

      welcomed_now : (b : Bool) → (f == f) ≡ b → is_dead (if b then send f Letter.Applied (reply_with t waits.0 Joined
          (at_work Current.Free (kill o.bound t fate.kills (with_replica (welcomed t members pairs told fate)
          (begun (w.node t)))))) else begun (w.node t)).node.watch p.serial ≡ true
      welcomed_now true e = kill_kills o.bound t p home client fate.kills
          (with_replica (welcomed t members pairs told fate) (begun (w.node t))) h
      welcomed_now false e = cc (eq-eqb f f refl, e)

      go : (b : Bool) → (w.node t).replica.told f ≡ b
          → is_dead (if b && true then begun (w.node t) else read o.bound t (join_number w) f
          (Letter.Welcome members pairs told fate) (begun (w.node t))).node.watch p.serial ≡ true
      go true e = cc (B.all.proper.told_left t f up.1 e, sender.1)
      go false e = subst (λ (c : Current). is_dead (welcome o.bound t (join_number w) f members pairs told fate c
          (begun (w.node t))).node.watch p.serial ≡ true) (sym waits.1) (welcomed_now (f == f) refl)
  letter_dead l ls front p home client h = cc h

  -- a node is let in, by a world that knows as much
  pub record Decides (z : Turn) : Type 0 where
    pub begin : Turn
    pub world : World
    pub base : Base o world
    pub runs : (x : ℕ) → left world x ≡ left w x
    pub replica : (world.node t).replica ≡ begin.node.replica
    pub history : world.history ≡ w.history ++ begin.entries
    pub harmless : are_harmless begin.entries ≡ true
    pub op : Op
    pub round : Round
    pub asks : (world.node t).current ≡ Current.Asking op round
    pub verdict : Admitted o.bound t (join_number w) op begin z

  abbrev pub Result : Turn → Type 0
  Result z = Adds (begun v) z ⊎ Decides z

  result_then : (z y : Turn) → Result z → Adds z y → Result y
  result_then z y (inl f) g = inl (adds_then (begun v) z y f g)
  result_then z y (inr D) g = inr (record {
    begin = D.begin;
    world = D.world;
    base = D.base;
    runs = D.runs;
    replica = D.replica;
    history = D.history;
    harmless = D.harmless;
    op = D.op;
    round = D.round;
    asks = D.asks;
    verdict = admitted_then o.bound t (join_number w) D.op D.begin z y D.verdict g;
  })

  -- an answer is heard
  answer_result : (g : Bool) → Result (hear_answer o.bound t (join_number w) f g v.current (begun v))
  answer_result g = go v.current refl
    where
      go : (c : Current) → v.current ≡ c → Result (hear_answer o.bound t (join_number w) f g c (begun v))
      go (Current.Asking op r) e = owing (owes r f)
        where
          l : Letter
          l = Letter.SetLock (Global t) (registrar t)

          u : Turn
          u = ask_rest o.bound t f g l r (begun v)

          entries : u.entries ≡ []
          entries = by (opens f g r)
            where
              by : (b : Bool) → (if b then send_all o.bound
                  (λ x. rest r x && not (v.replica.told x)) l (begun v)
                  else begun v).entries ≡ []
              by true = refl
              by false = refl

          owing : (b : Bool) → Result (if b then go_on o.bound t (join_number w) op (answer f g r)
              (ask_rest o.bound t f g (Letter.SetLock (Global t) (registrar t)) r (begun v)) else begun v)
          owing true = elim (go_on_outcome o.bound t (join_number w) op (answer f g r) u) [
            | inl k ↦ inl (adds_then (begun v) u (go_on o.bound t (join_number w) op (answer f g r) u)
                (add_ask_rest o.bound t f g l r (begun v)) k)
            | inr k ↦ inr (record {
              begin = u;
              world = w;
              base = B;
              runs = λ x. refl;
              replica = ap (λ (n : Node). n.replica) (sym (ask_rest-node o.bound t f g l r (begun v)));
              history = sym (ap (λ (es : List Entry). w.history ++ es) entries ∙ append-nil w.history);
              harmless = ap are_harmless entries;
              op = op;
              round = r;
              asks = e;
              verdict = k;
            })
          ]
          owing false = inl (adds_none (begun v))
      go (Current.Waiting op) e = inl (adds_none (begun v))
      go Current.Free e = inl (adds_none (begun v))
      go (Current.Joining k m) e = inl (adds_none (begun v))
      go (Current.Writing op s awaited reply) e = inl (adds_none (begun v))

  -- f has left
  down_result : (known : in_world o f ≡ true) (ls : List Letter) → w.links.queue f t ≡ Letter.Down ∷ ls
      → Result (bereave o.bound t (join_number w) f (begun v))
  down_result known ls front = all (lost v.current refl)
    where
      told : Turn
      told = told_of o.bound t (join_number w) f (begun v)

      later : World
      later = Rules.effect o t (Rules.IsTold f) w

      node_now : later.node t ≡ told.node
      node_now = at_same w.node t told.node

      base_now : Base o (Rules.effect o t (Rules.IsTold f) w)
      base_now = base_keeps o t w (Rules.IsTold f) B (record {
        inside = up.0;
        running = up.1;
        front = (known, (ls, front));
        tested = tt;
      })

      stage : Current → Turn
      stage c = lose o.bound t (join_number w) f (lose_contact o.bound t f c told).node.current
          (lose_contact o.bound t f c told)

      begins : Adds (begun v) told
      begins = adds_entry (begun v) told (Entry.Told t f) refl refl refl

      decides : (op : Op) (r : Round) (z : Turn) → v.current ≡ Current.Asking op r
          → Outcome o.bound t (join_number w) op told z → Result z
      decides op r z e (inl k) = inl (adds_then (begun v) told z begins k)
      decides op r z e (inr k) = inr (record {
        begin = told;
        world = later;
        base = base_now;
        runs = λ x. refl;
        replica = ap (λ (n : Node). n.replica) node_now;
        history = refl;
        harmless = refl;
        op = op;
        round = r;
        asks = ap (λ (n : Node). n.current) node_now ∙ e;
        verdict = k;
      })

      quiet : (z : Turn) → Adds told z → Result z
      quiet z k = inl (adds_then (begun v) told z begins k)

      same : (c : Current) → v.current ≡ c → Result (lose o.bound t (join_number w) f c told)
          → Result (lose o.bound t (join_number w) f v.current told)
      same c e k = subst (λ (x : Current). Result (lose o.bound t (join_number w) f x told)) (sym e) k

      by : (c : Current) → v.current ≡ c → Result (lose o.bound t (join_number w) f
          (lose_contact o.bound t f c told).node.current (lose_contact o.bound t f c told))
      by (Current.Asking op r) e = same (Current.Asking op r) e (decides op r
          (go_on o.bound t (join_number w) op (down f r) told) e
          (go_on_outcome o.bound t (join_number w) op (down f r) told))
      by (Current.Writing op s awaited reply) e = same (Current.Writing op s awaited reply) e
          (quiet _ (add_await_less o.bound t f (Current.Writing op s awaited reply) told))
      by (Current.Waiting op) e = same (Current.Waiting op) e (quiet told (adds_none told))
      by Current.Free e = same Current.Free e (quiet told (adds_none told))
      by (Current.Joining k m) e = contact (m == f)
        where
          contact : (b : Bool) → Result (lose o.bound t (join_number w) f
              (if b then contact_left o.bound t k m (at_work Current.Free told) else told).node.current
              (if b then contact_left o.bound t k m (at_work Current.Free told) else told))
          contact true = quiet (contact_left o.bound t k m (at_work Current.Free told)) (adds_entry told
              (contact_left o.bound t k m (at_work Current.Free told))
              (Entry.Join t k m ContactLeft) refl refl refl)
          contact false = same (Current.Joining k m) e (quiet told (adds_none told))

      lost : (c : Current) → v.current ≡ c → Result (lose o.bound t (join_number w) f
          (lose_contact o.bound t f v.current told).node.current (lose_contact o.bound t f v.current told))
      lost c e = subst (λ (x : Current). Result (lose o.bound t (join_number w) f
          (lose_contact o.bound t f x told).node.current (lose_contact o.bound t f x told))) (sym e) (by c e)

      lost_turn : Turn
      lost_turn = lose o.bound t (join_number w) f (lose_contact o.bound t f v.current told).node.current
          (lose_contact o.bound t f v.current told)

      all : Result lost_turn → Result (bereave o.bound t (join_number w) f (begun v))
      all k = result_then lost_turn (bereave o.bound t (join_number w) f (begun v)) k
          (add_lose_all o.bound t f lost_turn.node.calls lost_turn)

  -- any letter
  read_result : (known : in_world o f ≡ true) (l : Letter) (ls : List Letter) → w.links.queue f t ≡ l ∷ ls
      → Result (read o.bound t (join_number w) f l (begun v))
  read_result known (Letter.SetLock id p) ls front = go (is_free_for id p v.locks)
    where
      go : (b : Bool) → Result (judge o.bound t (join_number w) f id p b (begun v))
      go true = inl (adds_sends (begun v) (judge o.bound t (join_number w) f id p true (begun v)) (_ ∷ []) refl refl)
      go false = inl (adds_sends (begun v) (judge o.bound t (join_number w) f id p false (begun v)) (_ ∷ []) refl refl)
  read_result known (Letter.LockAnswer id p g) ls front = go (is_process p (registrar t))
    where
      go : (b : Bool) → Result (if b then hear_answer o.bound t (join_number w) f g v.current (begun v)
          else hear_lock o.bound t f g (call_of p v.calls) (begun v))
      go true = answer_result g
      go false = inl (add_hear_lock o.bound t f g (call_of p v.calls) (begun v))
  read_result known (Letter.GiveBack id p true) ls front =
      inl (adds_sends (begun v) (take_back o.bound t (join_number w) f id p true (begun v)) (_ ∷ []) refl refl)
  read_result known (Letter.GiveBack id p false) ls front =
      inl (adds_same (begun v) (take_back o.bound t (join_number w) f id p false (begun v)) refl refl)
  read_result known (Letter.GivenBack p) ls front = inl (add_owe o.bound t f (call_of p v.calls) (begun v))
  read_result known (Letter.ReleaseOf p) ls front =
      inl (adds_same (begun v) (read o.bound t (join_number w) f (Letter.ReleaseOf p) (begun v)) refl refl)
  read_result known (Letter.Apply change) ls front =
      inl (adds_sends (begun v) (read o.bound t (join_number w) f (Letter.Apply change) (begun v)) (_ ∷ []) refl refl)
  read_result known Letter.Applied ls front = inl (add_await_less o.bound t f v.current (begun v))
  read_result known (Letter.JoinAsk pairs) ls front = go v.replica.joined
    where
      go : (b : Bool) → Result (if b then queued o.bound t (Op.Admission f pairs) (begun v)
          else send f Letter.JoinRefused (enter (Entry.Join f (join_number w f) t NotMember) (begun v)))
      go true = inl (adds_same (begun v) (queued o.bound t (Op.Admission f pairs) (begun v)) refl refl)
      go false = inl (adds_then (begun v) (enter (Entry.Join f (join_number w f) t NotMember) (begun v))
          (send f Letter.JoinRefused (enter (Entry.Join f (join_number w f) t NotMember) (begun v)))
          (adds_entry (begun v) (enter (Entry.Join f (join_number w f) t NotMember) (begun v))
          (Entry.Join f (join_number w f) t NotMember) refl refl refl)
          (add_send o.bound t f Letter.JoinRefused (enter (Entry.Join f (join_number w f) t NotMember) (begun v))))
  read_result known Letter.JoinRefused ls front = go v.current
    where
      contact : (k m : ℕ) (b : Bool)
          → Result (if b then reply_with t k NotMember (at_work Current.Free (begun v)) else begun v)
      contact k m true = inl (adds_same (begun v) (reply_with t k NotMember (at_work Current.Free (begun v))) refl refl)
      contact k m false = inl (adds_none (begun v))

      go : (c : Current) → Result (refused_join o.bound t (join_number w) f c (begun v))
      go (Current.Joining k m) = contact k m (m == f)
      go _ = inl (adds_none (begun v))
  read_result known (Letter.Admit j settled) ls front = inl (adds_then (begun v)
      (kill o.bound t settled.fate.kills (with_replica (admitted t j settled) (begun v)))
      (read o.bound t (join_number w) f (Letter.Admit j settled) (begun v))
      (adds_then (begun v) (with_replica (admitted t j settled) (begun v))
      (kill o.bound t settled.fate.kills (with_replica (admitted t j settled) (begun v)))
      (adds_same (begun v) (with_replica (admitted t j settled) (begun v)) refl refl)
      (add_kill o.bound t settled.fate.kills (with_replica (admitted t j settled) (begun v))))
      (add_send o.bound t f Letter.Applied (kill o.bound t settled.fate.kills (with_replica (admitted t j settled) (begun v)))))
  read_result known (Letter.Welcome members pairs told fate) ls front = go v.current
    where
      killed : Turn
      killed = kill o.bound t fate.kills (with_replica (welcomed t members pairs told fate) (begun v))

      contact : (k m : ℕ) (b : Bool) → Result (if b then send f Letter.Applied (reply_with t k Joined
          (at_work Current.Free killed)) else begun v)
      contact k m true = inl (adds_then (begun v) killed
          (send f Letter.Applied (reply_with t k Joined (at_work Current.Free killed)))
          (adds_then (begun v) (with_replica (welcomed t members pairs told fate) (begun v)) killed
          (adds_same (begun v) (with_replica (welcomed t members pairs told fate) (begun v)) refl refl)
          (add_kill o.bound t fate.kills (with_replica (welcomed t members pairs told fate) (begun v))))
          (adds_sends killed (send f Letter.Applied (reply_with t k Joined (at_work Current.Free killed)))
          (_ ∷ []) refl refl))
      contact k m false = inl (adds_none (begun v))

      go : (c : Current) → Result (welcome o.bound t (join_number w) f members pairs told fate c (begun v))
      go (Current.Joining k m) = contact k m (m == f)
      go _ = inl (adds_none (begun v))
  read_result known Letter.Down ls front = down_result known ls front

  pub receive_result : (known : in_world o f ≡ true) (l : Letter) (ls : List Letter) → w.links.queue f t ≡ l ∷ ls
      → Result (receive o.bound t (join_number w) f l (begun v))
  receive_result known l ls front = go (v.replica.told f && not (is_down l))
    where
      by : (z : Turn) → Result z → Result (start o.bound t z)
      by z k = result_then z (start o.bound t z) k (add_start o.bound t z)

      go : (b : Bool) → Result (start o.bound t (if b then begun v else read o.bound t (join_number w) f l (begun v)))
      go true = by (begun v) (inl (adds_none (begun v)))
      go false = by (read o.bound t (join_number w) f l (begun v)) (read_result known l ls front)
