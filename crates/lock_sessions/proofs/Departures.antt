-- Each rule keeps what is known of departures, members and letters by themselves.
use Rattle.std.proofs.Common.{ℕ, Bool, true, false, ◌==◌, ◌≡◌, Option, Some, List, [], ◌∷◌, ◌++◌, refl, sym, ap, ◌∙◌, subst, inl, inr}
use Rattle.std.specs.Prelude.{not, ◌&&◌, ◌||◌, nat_lt, if◌then◌else◌}
use Rattle.std.proofs.lemmas.Bool.{cases_eq, eq-eqb, eqb-true}
use Rattle.registry_model.specs.Process.{Nodes, nodes_of, at}
use Rattle.registry_model.specs.Table.{Table, Change, StrikeOwner}
use Rattle.registry_model.specs.Call.{Reply, change_of}
use Rattle.registry_model.specs.Registry.{Replica}
use Rattle.registry_model.specs.Settlement.{Fate, Settled, with_settled, settle}
use Rattle.protocol_model.specs.Round.{asked, answer, rest, opens}
use Rattle.protocol_model.specs.Letter.{Global, Letter, is_down}
use Rattle.protocol_model.specs.LockTable.{is_free_for}
use Rattle.protocol_model.specs.Links.{Links, posted}
use Rattle.protocol_model.specs.Node.{Op, Current, LockPhase, wrote, targets}
use Rattle.protocol_model.specs.Turn.{Turn, sent_to, begun, at_work, keep_call, send_all}
use Rattle.protocol_model.specs.Registrar.{registrar, done}
use Rattle.protocol_model.specs.Client.{is_spent, in_phase, close_call, give_lock}
use Rattle.protocol_model.specs.Reading.{with_member, wrote_all, admitted, welcomed, bereft, judge, take_back}
use Rattle.protocol_model.specs.World.{Opening, in_world, in_cluster, World, left, join_number, opening_world}
use Rattle.moves.proofs.Rules.{Rule, Taken, takes, turn_by, May, effect}
use Rattle.registry_model.proofs.Updates.{by_test, at_same, at_other}
use Rattle.moves.proofs.Indices.{both}
use Rattle.moves.proofs.Writes.{IsAsideTable, wrote_all-keeps}
use Rattle.moves.proofs.Sends.{to_each, sent_to-append, sent_to-all}
use Rattle.moves.proofs.Invariants.{Each, is_down_last, IsUp, IsProper, IsProperOp, AreProperOps, IsProperCurrent, Proper}
use Rattle.lock_sessions.proofs.Base.{not_both, is_leave, others, farewell, ran_before, popped_queue, popped, after_turn, posted-here, posted-other, each-append, each-map, each-popped, each-posted, each-one, each-all, down_last-append, down_last-none, down_last-popped}

-- a letter stays proper while more nodes leave
pub proper-more : (o : Opening) (w e : World) → ((d : ℕ) → left w d ≡ true → left e d ≡ true) → (f n : ℕ) (l : Letter)
    → IsProper o w f n l → IsProper o e f n l
proper-more o w e more f n Letter.Down p = (more f p.0, p.1)
proper-more o w e more f n (Letter.Admit j settled) p = p
proper-more o w e more f n (Letter.Welcome members pairs told fate) p = (p.0, p.1, λ d h. more d (p.2 d h))
proper-more o w e more f n _ p = tt

-- one operation more at the end of a queue
ops-append : (o : Opening) (w : World) (ops : List Op) (op : Op) → AreProperOps o w ops → IsProperOp o w op
    → AreProperOps o w (ops ++ op ∷ [])
ops-append o w [] op all more = (more, tt)
ops-append o w (x ∷ ops) op all more = (all.0, ops-append o w ops op all.1 more)

module _ (o : Opening) (a : ℕ) (w : World) (I : Proper o w) (up : IsUp o w a) where
  -- node a may have this replica
  record FineReplica (v : Replica) : Type 0 where
    told : (d : ℕ) → v.told d ≡ true → left w d ≡ true
    itself : v.members a ≡ true
    inside : (c : ℕ) → v.members c ≡ true → in_world o c ≡ true

  -- node a may make this turn
  record FineTurn (u : Turn) : Type 0 where
    replica : FineReplica u.node.replica
    queue : AreProperOps o w u.node.queue
    current : IsProperCurrent o w u.node.current
    sends : (n : ℕ) → left w n ≡ false → Each (IsProper o w a n) (sent_to n u.sends)

  -- it may keep the one that it has
  own : FineReplica (w.node a).replica
  own = record {
    told = λ d h. I.told_left a d up.1 h;
    itself = I.itself a up;
    inside = λ c h. I.inside a c up.1 up.0 h;
  }

  -- while it runs it has sent no `Down`
  no_down : (n : ℕ) (l : Letter) → IsProper o w a n l → is_down l ≡ false
  no_down n Letter.Down p = absurd (not_both (left w a) p.0 up.1)
  no_down n _ p = refl

  -- a fine turn keeps all of it
  fine : (u : Turn) (t : Option Taken) → FineTurn u → Proper o (after_turn a w u t)
  fine u t F = record {
    last = λ d n. elim (cases_eq d a) [
      | inl e ↦ subst (λ (y : ℕ). is_down_last ((posted a out q).queue y n) ≡ true) (sym e) (here n (left w n) refl)
      | inr ne ↦ subst (λ (ls : List Letter). is_down_last ls ≡ true) (sym (posted-other a out q d n ne))
          (popped_last d n)
    ];
    letters = λ f n run. each-posted (IsProper o w f n) a out q f n
        (each-popped (IsProper o w f n) a t w.links.queue f n (I.letters f n run))
        (λ e. subst (λ (y : ℕ). Each (IsProper o w y n) (out n)) (sym e) (F.sends n run));
    told_left = λ n d. by_test a
        (λ n b. left w n ≡ false → (if b then u.node else w.node n).replica.told d ≡ true → left w d ≡ true)
        (λ run h. F.replica.told d h) (λ n ne run h. I.told_left n d run h) n;
    itself = by_test a (λ n b. IsUp o w n → (if b then u.node else w.node n).replica.members n ≡ true)
        (λ run. F.replica.itself) (λ n ne run. I.itself n run);
    inside = λ n c. by_test a
        (λ n b. left w n ≡ false → in_world o n ≡ true → (if b then u.node else w.node n).replica.members c ≡ true
        → in_world o c ≡ true)
        (λ run isin h. F.replica.inside c h) (λ n ne run isin h. I.inside n c run isin h) n;
    queues = by_test a (λ n b. AreProperOps o w (if b then u.node else w.node n).queue) F.queue (λ n ne. I.queues n);
    currents = by_test a (λ n b. IsProperCurrent o w (if b then u.node else w.node n).current) F.current
        (λ n ne. I.currents n);
  }
    where
      out : ℕ → List Letter
      out c = sent_to c u.sends

      q : Links Letter
      q = popped a t w.links

      popped_last : (d n : ℕ) → is_down_last (popped_queue a t w.links.queue d n) ≡ true
      popped_last d n = down_last-popped a t w.links.queue d n (I.last d n)

      here : (n : ℕ) (b : Bool) → left w n ≡ b → is_down_last ((posted a out q).queue a n) ≡ true
      here n true k = rw (eq-eqb a a refl, k) (popped_last a n)
      here n false k = subst (λ (ls : List Letter). is_down_last ls ≡ true) (sym (posted-here a out q n k))
          (down_last-append (popped_queue a t w.links.queue a n) (out n)
          (each-map (IsProper o w a n) (λ l. is_down l ≡ false) (no_down n) (popped_queue a t w.links.queue a n)
          (each-popped (IsProper o w a n) a t w.links.queue a n (I.letters a n k)))
          (down_last-none (out n) (each-map (IsProper o w a n) (λ l. is_down l ≡ false) (no_down n) (out n)
          (F.sends n k))))

  -- the same letter to all of a set, if it may go to each
  to_all : (s : Nodes) (l : Letter) → ((n : ℕ) → IsProper o w a n l) → (n : ℕ)
      → Each (IsProper o w a n) (sent_to n (to_each (nodes_of o.bound s) l))
  to_all s l p n = each-all (IsProper o w a n) o.bound s n l (λ e. p n)

  -- a letter to one
  to_one : (d : ℕ) (l : Letter) → ((n : ℕ) → d ≡ n → IsProper o w a n l) → (n : ℕ)
      → Each (IsProper o w a n) (sent_to n (record { to = d; letter = l } ∷ []))
  to_one d l p n = each-one (IsProper o w a n) n d l (p n)

  -- what is current names nodes of the world
  now : (c : Current) → (w.node a).current ≡ c → IsProperCurrent o w c
  now c e = subst (λ (x : Current). IsProperCurrent o w x) e (I.currents a)

  -- and so does the queue
  next : (ops : List Op) → (w.node a).queue ≡ ops → AreProperOps o w ops
  next ops e = subst (λ (x : List Op). AreProperOps o w x) e (I.queues a)

  -- what is known of a letter that is read
  front_is : (f : ℕ) (l : Letter) (ls : List Letter) → w.links.queue f a ≡ l ∷ ls → IsProper o w f a l
  front_is f l ls e = (subst (λ (x : List Letter). Each (IsProper o w f a) x) e (I.letters f a up.1)).0

  -- a turn that leaves the replica and the queue
  plain : (u : Turn) → u.node.replica ≡ (w.node a).replica → u.node.queue ≡ (w.node a).queue
      → IsProperCurrent o w u.node.current
      → ((n : ℕ) → Each (IsProper o w a n) (sent_to n u.sends)) → FineTurn u
  plain u same queued current sends = record {
    replica = subst FineReplica (sym same) own;
    queue = subst (AreProperOps o w) (sym queued) (I.queues a);
    current = current;
    sends = λ n run. sends n;
  }

  -- a write changes the table alone
  wrote_fine : (change : Change) (v : Replica) → FineReplica v → FineReplica (wrote change v)
  wrote_fine change v F = record { told = F.told; itself = F.itself; inside = F.inside }

  -- a node of the world may become a member
  with_member_fine : (j : ℕ) → in_world o j ≡ true → FineReplica (with_member j (w.node a).replica)
  with_member_fine j isin = go ((w.node a).replica.told j)
    where
      go : (b : Bool) → FineReplica
          (if b then (w.node a).replica else record
          (w.node a).replica { members = at (w.node a).replica.members j true })
      go true = own
      go false = record {
        told = λ d h. own.told d h;
        itself = by_test j (λ c b. (w.node a).replica.members c ≡ true
            → (if b then true else (w.node a).replica.members c) ≡ true) (λ h. refl) (λ c ne h. h) a own.itself;
        inside = by_test j (λ c b. (if b then true else (w.node a).replica.members c) ≡ true → in_world o c ≡ true)
            (λ h. isin) (λ c ne h. own.inside c h);
      }

  -- and what was settled is written, with its notices
  admitted_fine : (j : ℕ) (settled : Settled) → in_world o j ≡ true
      → FineReplica (admitted a j settled (w.node a).replica)
  admitted_fine j settled isin = record {
    told = λ d h. fine_member.told d (sym (ap (λ (x : Nodes). x d) same.told) ∙ h);
    itself = ap (λ (x : Nodes). x a) same.members ∙ fine_member.itself;
    inside = λ c h. fine_member.inside c (sym (ap (λ (x : Nodes). x c) same.members) ∙ h);
  }
    where
      with_j : Replica
      with_j = with_member j (w.node a).replica

      fine_member : FineReplica with_j
      fine_member = with_member_fine j isin

      same : IsAsideTable (wrote_all settled with_j) with_j
      same = wrote_all-keeps settled with_j

  -- a welcome leaves no node that runs
  welcomed_fine : (members : Nodes) (pairs : Table) (told : Nodes) (fate : Fate) → members a ≡ true
      → ((c : ℕ) → members c ≡ true → in_world o c ≡ true)
      → ((d : ℕ) → told d ≡ true → left w d ≡ true) → FineReplica (welcomed a members pairs told fate (w.node a).replica)
  welcomed_fine members pairs told fate me isin gone = record {
    told = λ d. either d ((w.node a).replica.told d) refl;
    itself = ap (λ (b : Bool). b && not ((w.node a).replica.told a || told a)) me
        ∙ here ((w.node a).replica.told a) (told a) refl refl;
    inside = λ c h. isin c (both (members c) (not ((w.node a).replica.told c || told c)) h).0;
  }
    where
      either : (d : ℕ) (b : Bool) → (w.node a).replica.told d ≡ b → (b || told d) ≡ true → left w d ≡ true
      either d true k h = own.told d k
      either d false k h = gone d h

      here : (b c : Bool) → (w.node a).replica.told a ≡ b → told a ≡ c → not (b || c) ≡ true
      here true c k h = absurd (not_both (left w a) (own.told a k) up.1)
      here false true k h = absurd (not_both (left w a) (gone a h) up.1)
      here false false k h = refl

  -- another node that has left may be told to have left
  bereft_fine : (d : ℕ) → left w d ≡ true → (d ≡ a → ⊥) → FineReplica (bereft d (w.node a).replica)
  bereft_fine d gone ne = record {
    told = by_test d (λ x b. (if b then true else (w.node a).replica.told x) ≡ true → left w x ≡ true) (λ h. gone)
        (λ x other h. own.told x h);
    itself = at_other (w.node a).replica.members d false a (λ e. ne (sym e)) ∙ own.itself;
    inside = by_test d (λ c b. (if b then false else (w.node a).replica.members c) ≡ true → in_world o c ≡ true)
        (λ h. cc) (λ c other h. own.inside c h);
  }

  -- an operation is done
  done_fine : (op : Op) (asked : Nodes) (reply : Option Reply)
      → FineTurn (done o.bound a op asked reply (begun (w.node a)))
  done_fine (Op.Name k call) asked (Some reply) =
      plain _ refl refl tt (to_all (λ c. asked c && not ((w.node a).replica.told c))
      (Letter.GiveBack (Global a) (registrar a) false) (λ n. tt))
  done_fine _ asked reply = plain _ refl refl tt (to_all (λ c. asked c && not ((w.node a).replica.told c))
      (Letter.GiveBack (Global a) (registrar a) false) (λ n. tt))

  -- each rule makes a fine turn
  fine_turn : (r : Rule) → is_leave r ≡ false → May o a w r → FineTurn (turn_by o a w r)
  fine_turn (Rule.CallsName call) e m =
      record {
        replica = own;
        queue = ops-append o w (w.node a).queue _ (I.queues a) tt;
        current = I.currents a;
        sends = λ n run. tt;
      }
  fine_turn (Rule.CallsJoin c) e m =
      record {
        replica = own;
        queue = ops-append o w (w.node a).queue _ (I.queues a) m.tested.1;
        current = I.currents a;
        sends = λ n run. tt;
      }
  fine_turn (Rule.QueuesJoin f pairs) e m =
      record {
        replica = own;
        queue = ops-append o w (w.node a).queue _ (I.queues a) m.front.0;
        current = I.currents a;
        sends = λ n run. tt;
      }
  fine_turn (Rule.Exits p) e m =
      plain _ refl refl (I.currents a) (to_all (w.node a).replica.members (Letter.ReleaseOf p) (λ n. tt))
  fine_turn (Rule.Kills f l p receivers) e m =
      plain _ refl refl (I.currents a) (to_all receivers (Letter.ReleaseOf p) (λ n. tt))
  fine_turn (Rule.Begins op ops) e m = record {
    replica = own;
    queue = (next (op ∷ ops) m.tested.1).1;
    current = (next (op ∷ ops) m.tested.1).0;
    sends = λ n run. to_one _ (Letter.SetLock (Global a) (registrar a)) (λ n e. tt) n;
  }
  fine_turn (Rule.BeginsStrike serial) e m =
      plain _ refl refl tt (to_one _ (Letter.SetLock (Global a) (registrar a)) (λ n e. tt))
  fine_turn (Rule.Retries op) e m = plain _ refl refl (now (Current.Waiting op) m.tested)
      (to_one _ (Letter.SetLock (Global a) (registrar a)) (λ n e. tt))
  fine_turn (Rule.AsksJoin k c ops) e m = record {
    replica = own;
    queue = (next (Op.Join k c ∷ ops) m.tested.1).1;
    current = (next (Op.Join k c ∷ ops) m.tested.1).0;
    sends = λ n run. to_one c (Letter.JoinAsk (w.node a).replica.table) (λ n e. tt) n;
  }
  fine_turn (Rule.SkipsJoin k c ops) e m =
      record {
        replica = own;
        queue = (next (Op.Join k c ∷ ops) m.tested.1).1;
        current = I.currents a;
        sends = λ n run. tt;
      }
  fine_turn (Rule.HearsAnswer f id granted op r) e m = go (opens f granted r)
    where
      go : (b : Bool) → FineTurn
          (at_work (Current.Asking op (answer f granted r))
          (if b then send_all o.bound (λ x. rest r x && not ((w.node a).replica.told x))
          (Letter.SetLock (Global a) (registrar a)) (begun (w.node a)) else begun (w.node a)))
      go true = plain _ refl refl (now (Current.Asking op r) m.tested.1)
          (to_all (λ x. rest r x && not ((w.node a).replica.told x))
          (Letter.SetLock (Global a) (registrar a)) (λ n. tt))
      go false = plain _ refl refl (now (Current.Asking op r) m.tested.1) (λ n. tt)
  fine_turn (Rule.MarksDown d op r) e m =
      plain _ refl refl (now (Current.Asking op r) m.tested.1) (λ n. tt)
  fine_turn (Rule.GivesUp op r granted) e m = plain _ refl refl (now (Current.Asking op r) m.tested.0)
      (to_all granted (Letter.GiveBack (Global a) (registrar a) false) (λ n. tt))
  fine_turn (Rule.Grants k call r) e m =
      plain _ refl refl tt (to_all (w.node a).replica.members (Letter.Apply (change_of call)) (λ n. tt))
  fine_turn (Rule.Denies k call r) e m =
      plain _ refl refl tt (to_all (λ c. asked r c && not ((w.node a).replica.told c))
      (Letter.GiveBack (Global a) (registrar a) false) (λ n. tt))
  fine_turn (Rule.Strikes p r) e m =
      plain _ refl refl tt (to_all (w.node a).replica.members (Letter.Apply (StrikeOwner p)) (λ n. tt))
  fine_turn (Rule.Admits j pairs r) e m =
      plain _ refl refl isin (λ n. subst (λ (ls : List Letter). Each (IsProper o w a n) ls)
      (sym (sent_to-append n (to_each (nodes_of o.bound (w.node a).replica.members) admission)
      (record { to = j; letter = welcome } ∷ [])))
      (each-append (IsProper o w a n) (sent_to n (to_each (nodes_of o.bound (w.node a).replica.members) admission))
      (sent_to n (record { to = j; letter = welcome } ∷ []))
      (to_all (w.node a).replica.members admission (λ n. isin) n)
      (to_one j welcome is_fine n)))
    where
      isin : in_world o j ≡ true
      isin = now (Current.Asking (Op.Admission j pairs) r) m.tested.0.current

      s : Settled
      s = settle (w.node a).replica.table pairs

      admission : Letter
      admission = Letter.Admit j s

      welcome : Letter
      welcome = Letter.Welcome (at (w.node a).replica.members j true) (with_settled s (w.node a).replica.table)
          (w.node a).replica.told s.fate

      is_fine : (n : ℕ) → j ≡ n → IsProper o w a n welcome
      is_fine n e = (
        subst (λ (y : ℕ). at (w.node a).replica.members j true y ≡ true) e (at_same (w.node a).replica.members j true),
        by_test j (λ c b. (if b then true else (w.node a).replica.members c) ≡ true → in_world o c ≡ true) (λ h. isin)
            (λ c ne h. own.inside c h),
        λ d h. own.told d h,
      )
  fine_turn (Rule.Passes j pairs r) e m =
      plain _ refl refl tt (to_all (λ c. asked r c && not ((w.node a).replica.told c))
      (Letter.GiveBack (Global a) (registrar a) false) (λ n. tt))
  fine_turn (Rule.CountsApplied f op asked awaited reply) e m =
      plain _ refl refl (now (Current.Writing op asked awaited reply) m.tested.1) (λ n. tt)
  fine_turn (Rule.CountsDown d op asked awaited reply) e m =
      plain _ refl refl (now (Current.Writing op asked awaited reply) m.tested.1) (λ n. tt)
  fine_turn (Rule.Finishes op asked awaited reply) e m = done_fine op asked reply
  fine_turn (Rule.Judges f id p) e m = go (is_free_for id p (w.node a).locks)
    where
      go : (b : Bool) → FineTurn (judge o.bound a (join_number w) f id p b (begun (w.node a)))
      go true = plain _ refl refl (I.currents a) (to_one f (Letter.LockAnswer id p true) (λ n e. tt))
      go false = plain _ refl refl (I.currents a) (to_one f (Letter.LockAnswer id p false) (λ n e. tt))
  fine_turn (Rule.TakesBack f id p ack) e m = go ack
    where
      go : (b : Bool) → FineTurn (take_back o.bound a (join_number w) f id p b (begun (w.node a)))
      go true = plain _ refl refl (I.currents a) (to_one f (Letter.GivenBack p) (λ n e. tt))
      go false = plain _ refl refl (I.currents a) (λ n. tt)
  fine_turn (Rule.Writes f change) e m =
      record {
        replica = wrote_fine change (w.node a).replica own;
        queue = I.queues a;
        current = I.currents a;
        sends = λ n run. to_one f Letter.Applied (λ n e. tt) n;
      }
  fine_turn (Rule.RefusesJoin f pairs) e m =
      plain _ refl refl (I.currents a) (to_one f Letter.JoinRefused (λ n e. tt))
  fine_turn (Rule.EndsJoin f k) e m = plain _ refl refl tt (λ n. tt)
  fine_turn (Rule.IsAdmitted f j settled) e m = record {
    replica = admitted_fine j settled (front_is f (Letter.Admit j settled) m.front.1.0 m.front.1.1);
    queue = I.queues a;
    current = I.currents a;
    sends = λ n run. to_one f Letter.Applied (λ n e. tt) n;
  }
  fine_turn (Rule.IsWelcomed f k members pairs told fate) e m = record {
    replica = welcomed_fine members pairs told fate known.0 known.1 known.2;
    queue = I.queues a;
    current = tt;
    sends = λ n run. to_one f Letter.Applied (λ n e. tt) n;
  }
    where
      known : (members a ≡ true) × ((c : ℕ) → members c ≡ true → in_world o c ≡ true)
          × ((d : ℕ) → told d ≡ true → left w d ≡ true)
      known = front_is f (Letter.Welcome members pairs told fate) m.front.1.0 m.front.1.1
  fine_turn (Rule.IsTold f) e m = record {
    replica = bereft_fine f known.0 known.1;
    queue = I.queues a;
    current = I.currents a;
    sends = λ n run. tt;
  }
    where
      known : (left w f ≡ true) × (f ≡ a → ⊥)
      known = front_is f Letter.Down m.front.1.0 m.front.1.1
  fine_turn (Rule.LosesContact k c) e m =
      plain _ refl refl tt (λ n. tt)
  fine_turn (Rule.AsksLock c) e m =
      plain _ refl refl (I.currents a) (to_one _ (Letter.SetLock c.id c.holder) (λ n e. tt))
  fine_turn (Rule.HearsLock f id granted c r) e m = go (opens f granted r)
    where
      go : (b : Bool) → FineTurn
          (keep_call (in_phase (LockPhase.Asking (answer f granted r)) c)
          (if b then send_all o.bound (λ x. rest r x && not ((w.node a).replica.told x))
          (Letter.SetLock c.id c.holder) (begun (w.node a)) else begun (w.node a)))
      go true = plain _ refl refl (I.currents a)
          (to_all (λ x. rest r x && not ((w.node a).replica.told x)) (Letter.SetLock c.id c.holder)
          (λ n. tt))
      go false = plain _ refl refl (I.currents a) (λ n. tt)
  fine_turn (Rule.GivesUpLock c r granted) e m = go (is_spent c.retries)
    where
      go : (b : Bool) → FineTurn
          (if b then close_call o.bound a c false (give_lock o.bound a c granted (begun (w.node a))) else keep_call
          (in_phase LockPhase.Waiting c) (give_lock o.bound a c granted (begun (w.node a))))
      go true = plain _ refl refl (I.currents a) (to_all granted (Letter.GiveBack c.id c.holder false) (λ n. tt))
      go false = plain _ refl refl (I.currents a) (to_all granted (Letter.GiveBack c.id c.holder false) (λ n. tt))
  fine_turn (Rule.DeletesLock c) e m = plain _ refl refl (I.currents a)
      (to_all (targets (w.node a).replica.members c.target) (Letter.GiveBack c.id c.holder true)
      (λ n. tt))
  fine_turn Rule.Leaves e m = cc
  fine_turn _ e m = plain _ refl refl (I.currents a) (λ n. tt)

  -- a node leaves
  leaves : Proper o (effect o a Rule.Leaves w)
  leaves = record {
    last = λ d n. by_test a (λ n b. is_down_last (if b then [] else (posted a out w.links).queue d n) ≡ true) refl
        (λ n ne. last_of d n) n;
    letters = λ f n run. by_test a
        (λ n b. left after n ≡ false → Each (IsProper o after f n) (if b then [] else (posted a out w.links).queue f n))
        (λ run. tt) (λ n ne run. letters_of f n ne (still n run)) n run;
    told_left = λ n d. by_test a
        (λ n b. left after n ≡ false → (if b then w.node a else w.node n).replica.told d ≡ true → left after d ≡ true)
        (λ run h. more d (I.told_left a d up.1 h)) (λ n ne run h. more d (I.told_left n d (still n run) h)) n;
    itself = by_test a (λ n b. IsUp o after n → (if b then w.node a else w.node n).replica.members n ≡ true)
        (λ run. own.itself) (λ n ne run. I.itself n (run.0, still n run.1));
    inside = λ n c. by_test a
        (λ n b. left after n ≡ false → in_world o n ≡ true
        → (if b then w.node a else w.node n).replica.members c ≡ true → in_world o c ≡ true)
        (λ run isin h. own.inside c h) (λ n ne run isin h. I.inside n c (still n run) isin h) n;
    queues = by_test a (λ n b. AreProperOps o after (if b then w.node a else w.node n).queue) (I.queues a)
        (λ n ne. I.queues n);
    currents = by_test a (λ n b. IsProperCurrent o after (if b then w.node a else w.node n).current) (I.currents a)
        (λ n ne. I.currents n);
  }
    where
      after : World
      after = effect o a Rule.Leaves w

      out : ℕ → List Letter
      out = farewell o a

      more : (d : ℕ) → left w d ≡ true → left after d ≡ true
      more d h = by_test a (λ d b. left w d ≡ true → (if b then true else left w d) ≡ true) (λ h. refl)
          (λ d ne h. h) d h

      still : (d : ℕ) → left after d ≡ false → left w d ≡ false
      still = ran_before o a w

      downs : (n : ℕ) → is_down_last (out n) ≡ true
      downs n = subst (λ (ls : List Letter). is_down_last ls ≡ true)
          (sym (sent_to-all o.bound (others o a) Letter.Down n))
          (go (nat_lt n o.bound && others o a n))
        where
          go : (b : Bool) → is_down_last (if b then Letter.Down ∷ [] else []) ≡ true
          go true = refl
          go false = refl

      last_of : (d n : ℕ) → is_down_last ((posted a out w.links).queue d n) ≡ true
      last_of d n = elim (cases_eq d a) [
        | inl e ↦ subst (λ (y : ℕ). is_down_last ((posted a out w.links).queue y n) ≡ true) (sym e) (go (left w n) refl)
        | inr ne ↦ subst (λ (ls : List Letter). is_down_last ls ≡ true) (sym (posted-other a out w.links d n ne))
            (I.last d n)
      ]
        where
          go : (b : Bool) → left w n ≡ b → is_down_last ((posted a out w.links).queue a n) ≡ true
          go true k = rw (eq-eqb a a refl, k) (I.last a n)
          go false k = subst (λ (ls : List Letter). is_down_last ls ≡ true) (sym (posted-here a out w.links n k))
              (down_last-append (w.links.queue a n) (out n)
              (each-map (IsProper o w a n) (λ l. is_down l ≡ false) (no_down n) (w.links.queue a n) (I.letters a n k))
              (downs n))

      letters_of : (f n : ℕ) → (n ≡ a → ⊥) → left w n ≡ false
          → Each (IsProper o after f n) ((posted a out w.links).queue f n)
      letters_of f n ne run = each-posted (IsProper o after f n) a out w.links f n
          (each-map (IsProper o w f n) (IsProper o after f n) (proper-more o w after more f n) (w.links.queue f n)
          (I.letters f n run))
          (λ e. subst (λ (y : ℕ). Each (IsProper o after y n) (out n)) (sym e)
          (each-all (IsProper o after a n) o.bound (others o a) n Letter.Down
          (λ h. (at_same w.links.closed a true, λ k. ne (sym k)))))

-- each rule keeps what is known of departures, members and letters by themselves
pub proper_keeps : (o : Opening) (a : ℕ) (w : World) (r : Rule) → Proper o w → May o a w r → Proper o (effect o a r w)
proper_keeps o a w Rule.Leaves I m = leaves o a w I (m.inside, m.running)
proper_keeps o a w r I m = fine o a w I (m.inside, m.running) (turn_by o a w r) (takes o a r)
    (fine_turn o a w I (m.inside, m.running) r refl m)

-- it holds at the opening
pub proper_opens : (o : Opening) → Proper o (opening_world o)
proper_opens o = record {
  last = λ d n. refl;
  letters = λ f n run. tt;
  told_left = λ n d run h. cc;
  itself = λ n run. itself n;
  inside = λ n c run isin h. inside n c isin (in_cluster o n) h;
  queues = λ n. tt;
  currents = λ n. tt;
}
  where
    itself : (n : ℕ) → ((if in_cluster o n then in_cluster o n else n == n) && true) ≡ true
    itself n = go (in_cluster o n) refl
      where
        go : (b : Bool) → in_cluster o n ≡ b → ((if b then in_cluster o n else n == n) && true) ≡ true
        go true k = rw k refl
        go false k = rw (eq-eqb n n refl) refl

    inside : (n c : ℕ) → in_world o n ≡ true → (b : Bool) → ((if b then in_cluster o c else c == n) && true) ≡ true
        → in_world o c ≡ true
    inside n c isin true h = (both (in_world o c) (o.cluster c) (both (in_cluster o c) true h).0).0
    inside n c isin false h = subst (λ (y : ℕ). in_world o y ≡ true) (sym (eqb-true c n (both (c == n) true h).0)) isin
