-- What a rule makes of the work of a world. a is its node; up: the nodes that count, at most n.
use Rattle.std.proofs.Common.{ℕ, Bool, true, false, ◌==◌, ◌≡◌, ◌<◌, ◌≤◌, ◌+◌, ◌*◌, Option, Some, None, List, [], ◌∷◌, ◌++◌, refl, sym, ap, subst, arith}
use Rattle.std.specs.Prelude.{length, not, ◌&&◌}
use Rattle.std.specs.List.{sum_by}
use Rattle.std.proofs.lemmas.Bool.{and_parts, ltb-true}
use Rattle.std.proofs.lemmas.List.Sums.{sum_by-cons, sum_by-append}
use Rattle.registry_model.specs.Process.{Process, is_process, Nodes, at, nodes_of}
use Rattle.registry_model.specs.Table.{Pair, Table, Change, Remove, StrikeOwner, owns}
use Rattle.registry_model.specs.Call.{NotMember, NameCall, Register, ReRegister, Unregister, Reply, reply_to, change_of}
use Rattle.registry_model.specs.Settlement.{Settled, settle, with_settled}
use Rattle.registry_model.specs.History.{Entry}
use Rattle.protocol_model.specs.Round.{Round, is_empty, is_gone, asked, opens, granted}
use Rattle.protocol_model.specs.Letter.{Letter}
use Rattle.protocol_model.specs.Node.{Node, Op, Current, LockPhase, LockCall, call_of, targets}
use Rattle.protocol_model.specs.LockTable.{is_free_for}
use Rattle.protocol_model.specs.World.{Opening, in_world, World, join_number, apply}
use Rattle.named_events.proofs.Rules
use Rattle.named_events.proofs.Rules.{Rule, Taken, is_ordered, IsHeld}
use Rattle.named_events.proofs.Indices.{neither}
use Rattle.named_events.proofs.Ids.{is_process_swap}
use Rattle.named_events.proofs.Rounds.{is_unasked, given_back}
use Rattle.named_events.proofs.Base.{is_leave}
use Rattle.no_dead_end.specs.Weights.{sum_below, when, strikes, total}
use Rattle.no_dead_end.specs.Work.{is_put, owned_on, live_on, admission_work, put_work, queued_work}
use Rattle.no_dead_end.proofs.Counting.{Counting, weights}
use Rattle.no_dead_end.proofs.Sums.{sum-term, sum-each}
use Rattle.no_dead_end.proofs.Totals.{turn_total, taken_total}
use Rattle.no_dead_end.proofs.RegistrarWork.{own, worth, sent, Spends, retries_work, begins_work, asks_join_work, skips_work, hears_work, marks_down_work, gives_up_work, finish_work, done_work, counts_work, write_work, plain_change, put_change}
use Rattle.no_dead_end.proofs.StrikeWork.{begins_strike_work}
use Rattle.no_dead_end.proofs.LetterWork.{joins, judges_work, takes_back_work, releases_work, queues_join_work, refuses_join_work, ends_join_work, loses_contact_work, is_told_work, ignores_work, writes_work, is_admitted_work, is_welcomed_work}
use Rattle.no_dead_end.proofs.AdmitWork.{admits_work}
use Rattle.no_dead_end.proofs.CallWork.{asks_lock_work, ends_lock_work, hears_lock_work, marks_lock_down_work, gives_up_lock_work, deletes_work, counts_back_work, dies_work}

-- what is known of node a of a world, and of those that count
pub record Ready (o : Opening) (up : Nodes) (w : World) (a : ℕ) : Type 0 where
  pub counts : up a ≡ true
  pub some : is_empty o.bound (w.node a).replica.members ≡ false
  pub ordered : is_ordered a (w.node a).calls ≡ true
  -- the round of the registrar, and those of lock calls
  pub gone : (op : Op) (r : Round) → (w.node a).current ≡ Current.Asking op r → (x : ℕ) → up x ≡ true → is_gone (r.mark x) ≡ false
  pub first : (op : Op) (r : Round) → (w.node a).current ≡ Current.Asking op r → (f : ℕ) (g : Bool) → opens f g r ≡ true
      → (x : ℕ) → (x ≡ f → ⊥) → is_unasked (r.mark x) ≡ true
  pub call_gone : (c : LockCall) (r : Round) → call_of c.holder (w.node a).calls ≡ Some c → c.phase ≡ LockPhase.Asking r
      → (x : ℕ) → up x ≡ true → is_gone (r.mark x) ≡ false
  pub call_first : (c : LockCall) (r : Round) → call_of c.holder (w.node a).calls ≡ Some c → c.phase ≡ LockPhase.Asking r
      → (f : ℕ) (g : Bool) → opens f g r ≡ true → (x : ℕ) → (x ≡ f → ⊥) → is_unasked (r.mark x) ≡ true
  -- an admission whose round is held
  pub low : (j : ℕ) (pairs : Table) (r : Round) → IsHeld o.bound (w.node a) (Op.Admission j pairs) r → j < o.bound
  pub apart : (j : ℕ) (pairs : Table) (r : Round) → IsHeld o.bound (w.node a) (Op.Admission j pairs) r
      → (w.node a).replica.members j ≡ false
  pub foreign : (j : ℕ) (pairs : Table) (r : Round) → IsHeld o.bound (w.node a) (Op.Admission j pairs) r
      → (c : ℕ) → (w.node a).replica.members c ≡ true → owned_on c (settle (w.node a).replica.table pairs).puts ≡ 0
  pub brought : (j : ℕ) (pairs : Table) (r : Round) → IsHeld o.bound (w.node a) (Op.Admission j pairs) r
      → owned_on j (with_settled (settle (w.node a).replica.table pairs) (w.node a).replica.table) ≤ length pairs
  -- joins that wait in the queue
  pub alone : (f : ℕ) (change : Change) (rest : List Letter) → w.links.queue f a ≡ Letter.Apply change ∷ rest
      → (k : ℕ) → joins (w.node a).queue * k ≤ when (f == a) k
  pub admitted : (f j : ℕ) (s : Settled) (rest : List Letter) → w.links.queue f a ≡ Letter.Admit j s ∷ rest
      → joins (w.node a).queue ≡ 0
  pub welcomed : (k f : ℕ) → (w.node a).current ≡ Current.Joining k f → joins (w.node a).queue ≡ 0
  -- who was struck owns nothing
  pub struck : (p : Process) (s awaited : Nodes) (reply : Option Reply)
      → (w.node a).current ≡ Current.Writing (Op.Strike p) s awaited reply
      → is_empty o.bound awaited ≡ true → owns p (w.node a).replica.table ≡ false

-- whether a letter is taken, as a number
abbrev pub taken_one : Option Taken → ℕ
taken_one None = 0
taken_one (Some t) = 1

module _ (C : Counting) where
  open C use {opening as o, opening.{bound as b}, size as n, alive, up, few as most, node as a}

  -- what a rule adds at most, and what it pays beside the letter that it takes
  abbrev pub price : Node → Rule → ℕ
  price v (Rules.CallsName call) = 3 * n + (2 * n + when (is_put call) (put_work n))
  price v (Rules.CallsJoin m) = 1 + 3 * n + admission_work n v.replica.table
  price v (Rules.Exits p) = n
  price v (Rules.Retries op) = 3 * n
  price v (Rules.Kills f l p receivers) = n
  price v (Rules.AsksLock c) = 3 * n
  price v (Rules.DeletesLock c) = 2 * n
  price v r = 0

  abbrev pub weight : Option Taken → ℕ
  weight None = 0
  weight (Some t) = (weights C).letter t.sender a t.letter

  -- an admission and a welcome have more for each kill at home
  abbrev pub kills_due : Rule → ℕ
  kills_due (Rules.IsAdmitted f j s) = live_on alive a s.fate.kills * n
  kills_due (Rules.IsWelcomed f k members pairs told fate) = live_on alive a fate.kills * n
  kills_due r = 0

  -- who was struck and owns nothing counts for nothing
  unstruck : (p : Process) (s awaited : Nodes) (reply : Option Reply) (t : Table) → owns p t ≡ false
      → own C Current.Free t ≤ own C (Current.Writing (Op.Strike p) s awaited reply) t
  unstruck p s awaited reply [] e = omega arith
  unstruck p s awaited reply (pair ∷ t) e =
      let none : (is_process pair.owner p ≡ false) × (owns p t ≡ false) = neither (is_process pair.owner p) (owns p t) e in
      let rest : own C Current.Free t ≤ own C (Current.Writing (Op.Strike p) s awaited reply) t =
      unstruck p s awaited reply t none.1 in
      let free : own C Current.Free (pair ∷ t) ≡ when ((pair.owner.node == a) && not false) (5 * n) + own C Current.Free t =
      sum_by-cons (λ (x : Pair). when ((x.owner.node == a) && not false) (5 * n)) pair t in
      let busy : own C (Current.Writing (Op.Strike p) s awaited reply) (pair ∷ t)
      ≡ when ((pair.owner.node == a) && not (is_process p pair.owner)) (5 * n)
      + own C (Current.Writing (Op.Strike p) s awaited reply) t =
      sum_by-cons (λ (x : Pair). when ((x.owner.node == a) && not (is_process p x.owner)) (5 * n)) pair t in
      let same : when ((pair.owner.node == a) && not (is_process p pair.owner)) (5 * n)
      ≡ when ((pair.owner.node == a) && not false) (5 * n) =
      ap (λ (c : Bool). when ((pair.owner.node == a) && not c) (5 * n)) (is_process_swap pair.owner p none.0) in
      omega (arith, rest, free, busy, same)

  module _ (w : World) (R : Ready o up w a) where
    abbrev v : Node
    v = w.node a

    -- what the rule's turn makes of its node, with what it sends
    abbrev Local : Rule → Type 0
    Local r = worth C (Rules.turn_by o a w r).node + sent C (Rules.turn_by o a w r).sends
        + (taken_one (Rules.takes o a r) + kills_due r) ≤ worth C v + price v r + weight (Rules.takes o a r)

    from_spends : (r : Rule) (k : ℕ) → Spends C v (Rules.turn_by o a w r) k
        → taken_one (Rules.takes o a r) + kills_due r + k ≤ price v r + weight (Rules.takes o a r) → Local r
    from_spends r k h i = omega (arith, h, i)

    abbrev sum_of : NameCall → ℕ
    sum_of call = sum_below b (λ c. when (up c && v.replica.members c) ((weights C).letter a c (Letter.Apply (change_of call))))

    change_pays : (call : NameCall) → sum_of call ≤ 2 * n + when (is_put call) (5 * n + 6 * n)
    change_pays (Register pair) = put_change C v.replica.members pair
    change_pays (ReRegister pair) = put_change C v.replica.members pair
    change_pays (Unregister x) = let h : sum_of (Unregister x) ≤ 2 * n = plain_change C v.replica.members (Remove x) (λ c. refl) in
        omega (arith, h)

    pub below : in_world o a ≡ true → a < b
    below i = ltb-true a b (and_parts _ (o.nodes a) i).0

    some_node : in_world o a ≡ true → 0 < n
    some_node i =
        let one : when (up a) 1 ≤ sum_below b (λ c. when (up c) 1) = sum-term b (λ c. when (up c) 1) a (below i) in
        let count : sum_below b (λ c. when (up c) 1) ≡ length (nodes_of b up) * 1 = sum-each b up 1 in
        let here : when (up a) 1 ≡ 1 = ap (λ (t : Bool). when t 1) R.counts in omega (arith, one, count, here, most)

    pub local : (r : Rule) → Rules.May o a w r → is_leave r ≡ false → Local r
    local (Rules.CallsName call) m e =
        let h : sum_by (queued_work n v.replica.table) (v.queue ++ Op.Name (v.last_call + 1) call ∷ [])
        ≡ sum_by (queued_work n v.replica.table) v.queue
        + sum_by (queued_work n v.replica.table) (Op.Name (v.last_call + 1) call ∷ []) =
        sum_by-append (queued_work n v.replica.table) v.queue (Op.Name (v.last_call + 1) call ∷ []) in
        let i : sum_by (queued_work n v.replica.table) (Op.Name (v.last_call + 1) call ∷ [])
        ≡ queued_work n v.replica.table (Op.Name (v.last_call + 1) call) + 0 =
        sum_by-cons (queued_work n v.replica.table) (Op.Name (v.last_call + 1) call) [] in omega (arith, h, i)
    local (Rules.CallsJoin j) m e =
        let h : sum_by (queued_work n v.replica.table) (v.queue ++ Op.Join (v.last_call + 1) j ∷ [])
        ≡ sum_by (queued_work n v.replica.table) v.queue
        + sum_by (queued_work n v.replica.table) (Op.Join (v.last_call + 1) j ∷ []) =
        sum_by-append (queued_work n v.replica.table) v.queue (Op.Join (v.last_call + 1) j ∷ []) in
        let i : sum_by (queued_work n v.replica.table) (Op.Join (v.last_call + 1) j ∷ [])
        ≡ queued_work n v.replica.table (Op.Join (v.last_call + 1) j) + 0 =
        sum_by-cons (queued_work n v.replica.table) (Op.Join (v.last_call + 1) j) [] in omega (arith, h, i)
    local Rules.CallsLock m e = omega arith
    local Rules.Spawns m e = omega arith
    local (Rules.LooksUp look) m e = omega arith
    local (Rules.Exits p) m e = from_spends (Rules.Exits p) n (dies_work C v.replica.members p v) (omega arith)
    local (Rules.Begins op ops) m e = from_spends (Rules.Begins op ops) 0
        (begins_work C op ops v m.tested.0 m.tested.1 m.tested.2 R.some) (omega arith)
    local (Rules.BeginsStrike serial) m e = from_spends (Rules.BeginsStrike serial) 0
        (begins_strike_work C serial v m.tested.0 m.tested.1 R.some) (omega arith)
    local (Rules.Retries op) m e = from_spends (Rules.Retries op) (3 * n) (retries_work C op v m.tested R.some) (omega arith)
    local (Rules.AsksJoin k c ops) m e = from_spends (Rules.AsksJoin k c ops) 0
        (asks_join_work C k c ops v m.tested.0 m.tested.1) (omega arith)
    local (Rules.SkipsJoin k c ops) m e = from_spends (Rules.SkipsJoin k c ops) 0 (skips_work C k c ops v m.tested.1) (omega arith)
    local (Rules.HearsAnswer f id g op r) m e = from_spends (Rules.HearsAnswer f id g op r) 0
        (hears_work C f g op r v m.tested.1 m.tested.2 (R.first op r m.tested.1 f g) (R.gone op r m.tested.1)) (omega arith)
    local (Rules.MarksDown d op r) m e = from_spends (Rules.MarksDown d op r) 0 (marks_down_work C d op r v m.tested.1)
        (omega arith)
    local (Rules.GivesUp op r back) m e =
        subst (λ (s : Nodes). Local (Rules.GivesUp op r s)) (sym (given_back b v.replica.members r back m.tested.2))
        (from_spends (Rules.GivesUp op r (granted r)) 0 (gives_up_work C op r v m.tested.0) (omega arith))
    local (Rules.Grants k call r) m e = from_spends (Rules.Grants k call r) 0
        (write_work C (Op.Name k call) r (Some (reply_to v.replica.members v.replica.table call)) (change_of call) v
        m.tested.0.current
        (change_pays call)) (omega arith)
    local (Rules.Denies k call r) m e = from_spends (Rules.Denies k call r) 0
        (finish_work C (Op.Name k call) r (Some (reply_to v.replica.members v.replica.table call)) v m.tested.0.current (λ p. refl))
        (omega arith)
    local (Rules.Strikes p r) m e = from_spends (Rules.Strikes p r) 0
        (write_work C (Op.Strike p) r None (StrikeOwner p) v m.tested.current
        (plain_change C v.replica.members (StrikeOwner p) (λ c. refl))) (omega arith)
    local (Rules.Admits j pairs r) m e = from_spends (Rules.Admits j pairs r) 0
        (admits_work C j pairs r (join_number w) v m.tested.0.current (R.low j pairs r m.tested.0) (R.apart j pairs r m.tested.0)
        (R.foreign j pairs r m.tested.0) (R.brought j pairs r m.tested.0)) (omega arith)
    local (Rules.Passes j pairs r) m e = from_spends (Rules.Passes j pairs r) 0
        (finish_work C (Op.Admission j pairs) r None v m.tested.0.current (λ p. refl)) (omega arith)
    local (Rules.CountsApplied f op s awaited reply) m e = from_spends (Rules.CountsApplied f op s awaited reply) 0
        (counts_work C op s awaited f reply v m.tested.1) (omega arith)
    local (Rules.CountsDown d op s awaited reply) m e = from_spends (Rules.CountsDown d op s awaited reply) 0
        (counts_work C op s awaited d reply v m.tested.1) (omega arith)
    local (Rules.Finishes op s awaited reply) m e = from_spends (Rules.Finishes op s awaited reply) 0
        (done_work C op s awaited reply v m.tested.0 (λ p q. ends op p q m.tested.0)) (omega arith)
      where
        ends : (x : Op) (p : Process) → strikes x p ≡ true → v.current ≡ Current.Writing x s awaited reply
            → own C Current.Free v.replica.table ≤ own C (Current.Writing x s awaited reply) v.replica.table
        ends (Op.Strike q) p h i = unstruck q s awaited reply v.replica.table (R.struck q s awaited reply i m.tested.1)
        ends (Op.Name k call) p h i = cc h
        ends (Op.Join k c) p h i = cc h
        ends (Op.Admission j pairs) p h i = cc h
    local (Rules.Judges f id p) m e = let h : _ = judges_work C f id p (is_free_for id p v.locks) (join_number w) v in
        omega (arith, h)
    local (Rules.TakesBack f id p ack) m e = let h : _ = takes_back_work C f id p ack (join_number w) v in omega (arith, h)
    local (Rules.Releases f p) m e = let h : _ = releases_work C f p v in omega (arith, h)
    local (Rules.Writes f change) m e = let h : _ = writes_work C v f change (R.alone f change m.front.1.0 m.front.1.1 (6 * n)) in
        omega (arith, h)
    local (Rules.QueuesJoin f pairs) m e = let h : _ = queues_join_work C f pairs v in omega (arith, h)
    local (Rules.RefusesJoin f pairs) m e = let h : _ = refuses_join_work C f pairs
        (Entry.Join f (join_number w f) a NotMember) v (some_node m.inside) in omega (arith, h)
    local (Rules.EndsJoin f k) m e = let h : _ = ends_join_work C f k v m.tested.1 in omega (arith, h)
    local (Rules.Kills f l p receivers) m e = from_spends (Rules.Kills f l p receivers) n (dies_work C receivers p v) (omega arith)
    local (Rules.IsAdmitted f j s) m e = let h : _ = is_admitted_work C v f j s (R.admitted f j s m.front.1.0 m.front.1.1) in
        omega (arith, h)
    local (Rules.IsWelcomed f k members pairs told fate) m e =
        let h : _ = is_welcomed_work C v f k members pairs told fate (R.welcomed k f m.tested.1) in omega (arith, h)
    local (Rules.IsTold f) m e = let h : _ = is_told_work C f (join_number w) v in omega (arith, h)
    local (Rules.LosesContact k c) m e = from_spends (Rules.LosesContact k c) 0 (loses_contact_work C k c v m.tested.1)
        (omega arith)
    local (Rules.Ignores f l) m e = let h : _ = ignores_work C f l v in omega (arith, h)
    local (Rules.Drops f l) m e = let h : _ = ignores_work C f l v in omega (arith, h)
    local (Rules.AsksLock c) m e = from_spends (Rules.AsksLock c) (3 * n)
        (asks_lock_work C c (targets v.replica.members c.target) v m.tested.1) (omega arith)
    local (Rules.FailsLock c) m e = from_spends (Rules.FailsLock c) 0 (ends_lock_work C c false v) (omega arith)
    local (Rules.HearsLock f id g c r) m e = from_spends (Rules.HearsLock f id g c r) 0
        (hears_lock_work C f g c r v R.ordered m.tested.2.call m.tested.2.phase m.tested.3
        (R.call_first c r m.tested.2.call m.tested.2.phase f g) (R.call_gone c r m.tested.2.call m.tested.2.phase)) (omega arith)
    local (Rules.MarksLockDown d c r) m e = from_spends (Rules.MarksLockDown d c r) 0
        (marks_lock_down_work C d c r v R.ordered m.tested.1.call m.tested.1.phase) (omega arith)
    local (Rules.WinsLock c r) m e = from_spends (Rules.WinsLock c r) 0 (ends_lock_work C c true v) (omega arith)
    local (Rules.GivesUpLock c r back) m e =
        subst (λ (s : Nodes). Local (Rules.GivesUpLock c r s)) (sym (given_back b (asked r) r back m.tested.2))
        (from_spends (Rules.GivesUpLock c r (granted r)) 0
        (gives_up_lock_work C c r v R.ordered m.tested.0.call m.tested.0.phase) (omega arith))
    local (Rules.DeletesLock c) m e = from_spends (Rules.DeletesLock c) (2 * n)
        (deletes_work C c (targets v.replica.members c.target) v) (omega arith)
    local (Rules.DeletesNothing c) m e = from_spends (Rules.DeletesNothing c) 0 (ends_lock_work C c true v) (omega arith)
    local (Rules.CountsGivenBack f c owing) m e = from_spends (Rules.CountsGivenBack f c owing) 0
        (counts_back_work C c (at owing f false) v) (omega arith)
    local (Rules.EndsDeletion f c owing) m e =
        from_spends (Rules.EndsDeletion f c owing) 0 (ends_lock_work C c true v) (omega arith)
    local (Rules.CountsLockDown d c owing) m e = from_spends (Rules.CountsLockDown d c owing) 0
        (counts_back_work C c (at owing d false) v) (omega arith)
    local (Rules.EndsDeletionDown d c owing) m e =
        from_spends (Rules.EndsDeletionDown d c owing) 0 (ends_lock_work C c true v) (omega arith)
    local Rules.Leaves m e = cc e

    closed : (r : Rule) (x : World) → is_leave r ≡ false → Rules.closed_by o a r x ≡ x
    closed Rules.Leaves x e = cc e
    closed r x e = refl

    -- a letter that is taken
    abbrev taken_world : Option Taken → World
    taken_world t = Rules.without_letter o a t w

    taken_node : (t : Option Taken) → (taken_world t).node a ≡ w.node a
    taken_node None = refl
    taken_node (Some t) = refl

    taken_less : (t : Option Taken) → in_world o a ≡ true → Rules.FrontTaken o a w t
        → total b (weights C) up (taken_world t) + weight t ≡ total b (weights C) up w
    taken_less None i front = omega arith
    taken_less (Some t) i front = taken_total b (weights C) up t.sender a w t.letter front.1.0
        (ltb-true t.sender b (and_parts _ (o.nodes t.sender) front.0).0) (below i) R.counts front.1.1

    -- what a rule makes of the work
    pub rule_work : (r : Rule) → Rules.May o a w r → is_leave r ≡ false
        → total b (weights C) up (Rules.effect o a r w) + (taken_one (Rules.takes o a r) + kills_due r)
        ≤ total b (weights C) up w + price v r
    rule_work r m e = subst (λ (x : World). total b (weights C) up x + (taken_one (Rules.takes o a r) + kills_due r)
        ≤ total b (weights C) up w + price v r) (sym
        (closed r (apply a (Rules.turn_by o a w r) (taken_world (Rules.takes o a r))) e))
        (let turn : _ = turn_total b (weights C) up a (Rules.turn_by o a w r) (taken_world (Rules.takes o a r)) (below m.inside)
        R.counts in
        let less : _ = taken_less (Rules.takes o a r) m.inside m.front in
        let here : _ = local r m e in
        let same : worth C ((taken_world (Rules.takes o a r)).node a) ≡ worth C v =
        ap (worth C) (taken_node (Rules.takes o a r)) in
        omega (arith, turn, less, here, same))
