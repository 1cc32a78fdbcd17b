-- What a letter that is read makes of the work: less than it counted itself. a is the node, v what it was, f the sender.
use Rattle.std.proofs.Common.{ℕ, Bool, true, false, ◌==◌, ◌≡◌, ◌<◌, ◌≤◌, ◌+◌, ◌*◌, List, [], ◌∷◌, ◌++◌, refl, ap, arith}
use Rattle.std.specs.Prelude.{length, not, ◌&&◌, ◌||◌, filter, fold, if◌then◌else◌}
use Rattle.std.specs.List.{sum_by}
use Rattle.std.proofs.Math.Nat.{mul-le-mul_right}
use Rattle.std.proofs.lemmas.List.Sums.{sum_by-cons, sum_by-append, sum_by-le-sum_by}
use Rattle.registry_model.specs.Process.{Text, Process, is_process, Nodes, with_node}
use Rattle.registry_model.specs.Table.{Pair, Table, Change, Put, Remove, StrikeOwner, put, remove, strike, without, changed}
use Rattle.registry_model.specs.Settlement.{Fate, Settled}
use Rattle.registry_model.specs.Registry.{Replica}
use Rattle.registry_model.specs.Call.{NotMember, Joined}
use Rattle.registry_model.specs.History.{Entry}
use Rattle.protocol_model.specs.Letter.{Letter, Id}
use Rattle.protocol_model.specs.LockTable.{drop_holder}
use Rattle.protocol_model.specs.Node.{Node, Op, Current, unless_told, wrote}
use Rattle.protocol_model.specs.Event.{is_join}
use Rattle.protocol_model.specs.Turn.{Turn, begun, send, enter, at_work, reply_with, with_replica, with_locks}
use Rattle.protocol_model.specs.Calling.{queued}
use Rattle.protocol_model.specs.Registrar.{contact_left}
use Rattle.protocol_model.specs.Reading.{judge, take_back, told_of, with_member, wrote_all, admitted, welcomed}
use Rattle.no_dead_end.specs.Weights.{when, is_struck, may_strike}
use Rattle.no_dead_end.specs.Work.{owned_on, live_on, queued_work}
use Rattle.no_dead_end.proofs.Counting.{Counting, weights, at_current}
use Rattle.no_dead_end.proofs.Sums.{when-le}
use Rattle.no_dead_end.proofs.TableWork.{filter-count, put-count, put-length, filter-length, count-passing}
use Rattle.no_dead_end.proofs.RegistrarWork.{own, worth, sent, Spends, fewer}

-- how many joins wait in a queue
abbrev pub joins : List Op → ℕ
joins ops = length (filter is_join ops)

-- a queue counts no more where the table is no longer
queue_stays : (n : ℕ) (t u : Table) → length u ≤ length t → (ops : List Op)
    → sum_by (queued_work n u) ops ≤ sum_by (queued_work n t) ops
queue_stays n t u l ops = sum_by-le-sum_by (queued_work n u) (queued_work n t) ops by
  where
    more : length u * (6 * n) ≤ length t * (6 * n)
    more = mul-le-mul_right (6 * n) l

    by : (op : Op) → queued_work n u op ≤ queued_work n t op
    by (Op.Name k call) = omega arith
    by (Op.Strike p) = omega arith
    by (Op.Admission j pairs) = omega arith
    by (Op.Join k m) = let h : length u * (6 * n) ≤ length t * (6 * n) = more in omega (arith, h)

-- and by a name more for each join where it has one more
queue_grows : (n : ℕ) (t u : Table) → length u ≤ length t + 1 → (ops : List Op)
    → sum_by (queued_work n u) ops ≤ sum_by (queued_work n t) ops + joins ops * (6 * n)
queue_grows n t u l [] = omega arith
queue_grows n t u l (op ∷ ops) =
    let first : sum_by (queued_work n u) (op ∷ ops) ≡ queued_work n u op + sum_by (queued_work n u) ops =
    sum_by-cons (queued_work n u) op ops in
    let second : sum_by (queued_work n t) (op ∷ ops) ≡ queued_work n t op + sum_by (queued_work n t) ops =
    sum_by-cons (queued_work n t) op ops in
    let rest : sum_by (queued_work n u) ops ≤ sum_by (queued_work n t) ops + joins ops * (6 * n) = queue_grows n t u l ops in
    by op first second rest
  where
    more : length u * (6 * n) ≤ (length t + 1) * (6 * n)
    more = mul-le-mul_right (6 * n) l

    by : (x : Op) → sum_by (queued_work n u) (x ∷ ops) ≡ queued_work n u x + sum_by (queued_work n u) ops
        → sum_by (queued_work n t) (x ∷ ops) ≡ queued_work n t x + sum_by (queued_work n t) ops
        → sum_by (queued_work n u) ops ≤ sum_by (queued_work n t) ops + joins ops * (6 * n)
        → sum_by (queued_work n u) (x ∷ ops) ≤ sum_by (queued_work n t) (x ∷ ops) + joins (x ∷ ops) * (6 * n)
    by (Op.Name k call) p q h = omega (arith, p, q, h)
    by (Op.Strike s) p q h = omega (arith, p, q, h)
    by (Op.Admission j pairs) p q h = omega (arith, p, q, h)
    by (Op.Join k m) p q h = let g : length u * (6 * n) ≤ (length t + 1) * (6 * n) = more in omega (arith, p, q, h, g)

module _ (C : Counting) where
  open C use {opening.{bound as b}, size as n, alive, up, few as most, node as a}

  -- a turn that reads this letter from f spends less than the letter counted, by so much
  abbrev pub Reads : Node → ℕ → Letter → Turn → ℕ → Type 0
  Reads v f l u rest = worth C u.node + sent C u.sends + rest ≤ worth C v + (weights C).letter f a l

  pub judges_work : (f : ℕ) (id : Id) (p : Process) (free : Bool) (number : ℕ → ℕ) (v : Node)
      → Reads v f (Letter.SetLock id p) (judge b a number f id p free (begun v)) 1
  judges_work f id p true number v = let h : when (up f) 1 ≤ 1 = when-le (up f) 1 in omega (arith, h)
  judges_work f id p false number v = let h : when (up f) 1 ≤ 1 = when-le (up f) 1 in omega (arith, h)

  pub takes_back_work : (f : ℕ) (id : Id) (p : Process) (ack : Bool) (number : ℕ → ℕ) (v : Node)
      → Reads v f (Letter.GiveBack id p ack) (take_back b a number f id p ack (begun v)) 1
  takes_back_work f id p true number v = let h : when (up f) 1 ≤ 1 = when-le (up f) 1 in omega (arith, h)
  takes_back_work f id p false number v = omega arith

  pub releases_work : (f : ℕ) (p : Process) (v : Node) → Reads v f (Letter.ReleaseOf p) (with_locks (drop_holder p) (begun v)) 1
  releases_work f p v = omega arith

  pub queues_join_work : (f : ℕ) (pairs : Table) (v : Node)
      → Reads v f (Letter.JoinAsk pairs) (queued b a (Op.Admission f pairs) (begun v)) 1
  queues_join_work f pairs v =
      let back : sum_by (queued_work n v.replica.table) (v.queue ++ Op.Admission f pairs ∷ [])
      ≡ sum_by (queued_work n v.replica.table) v.queue + sum_by (queued_work n v.replica.table) (Op.Admission f pairs ∷ []) =
      sum_by-append (queued_work n v.replica.table) v.queue (Op.Admission f pairs ∷ []) in
      let one : sum_by (queued_work n v.replica.table) (Op.Admission f pairs ∷ [])
      ≡ queued_work n v.replica.table (Op.Admission f pairs) + 0 =
      sum_by-cons (queued_work n v.replica.table) (Op.Admission f pairs) [] in
      omega (arith, back, one)

  pub refuses_join_work : (f : ℕ) (pairs : Table) (e : Entry) (v : Node) → 0 < n
      → Reads v f (Letter.JoinAsk pairs) (send f Letter.JoinRefused (enter e (begun v))) 1
  refuses_join_work f pairs e v some = let h : when (up f) 1 ≤ 1 = when-le (up f) 1 in omega (arith, h, some)

  -- the registrar is free then; it was at nothing that strikes
  free_work : (c : Current) (v : Node) → v.current ≡ c → ((p : Process) → is_struck c p ≡ false)
      → at_current C c ≡ 0
      → worth C (record v { current = Current.Free }) ≤ worth C v
  free_work c v e h z =
      let was : at_current C v.current ≡ at_current C c = ap (at_current C) e in
      let same : own C v.current v.replica.table ≡ own C c v.replica.table =
      ap (λ (x : Current). own C x v.replica.table) e in
      let less : own C Current.Free v.replica.table ≤ own C c v.replica.table =
      fewer C c Current.Free v.replica.table (λ p k. cc (k, h p)) in
      omega (arith, was, same, less, z)

  pub ends_join_work : (f k : ℕ) (v : Node) → v.current ≡ Current.Joining k f
      → Reads v f Letter.JoinRefused (reply_with a k NotMember (at_work Current.Free (begun v))) 1
  ends_join_work f k v e = let h : worth C (record v { current = Current.Free }) ≤ worth C v =
      free_work (Current.Joining k f) v e (λ p. refl) refl in omega (arith, h)

  pub loses_contact_work : (k m : ℕ) (v : Node) → v.current ≡ Current.Joining k m
      → Spends C v (contact_left b a k m (at_work Current.Free (begun v))) 0
  loses_contact_work k m v e = let h : worth C (record v { current = Current.Free }) ≤ worth C v =
      free_work (Current.Joining k m) v e (λ p. refl) refl in omega (arith, h)

  -- a node is told of a departure
  pub is_told_work : (f : ℕ) (number : ℕ → ℕ) (v : Node) → Reads v f Letter.Down (told_of b a number f (begun v)) 1
  is_told_work f number v =
      let names : own C v.current (without (λ c. c == f) v.replica.table) ≤ own C v.current v.replica.table =
      filter-count (λ pair. when (may_strike a v.current pair) (5 * n)) (λ pair. not (pair.owner.node == f)) v.replica.table in
      let shorter : length (without (λ c. c == f) v.replica.table) ≤ length v.replica.table =
      filter-length (λ pair. not (pair.owner.node == f)) v.replica.table in
      let queue : sum_by (queued_work n (without (λ c. c == f) v.replica.table)) v.queue
      ≤ sum_by (queued_work n v.replica.table) v.queue =
      queue_stays n v.replica.table (without (λ c. c == f) v.replica.table) shorter v.queue in
      omega (arith, names, queue)

  -- any letter counts something
  pub some_letter : (f : ℕ) (l : Letter) → 1 ≤ (weights C).letter f a l
  some_letter f (Letter.SetLock id p) = omega arith
  some_letter f (Letter.LockAnswer id p g) = omega arith
  some_letter f (Letter.GiveBack id p true) = omega arith
  some_letter f (Letter.GiveBack id p false) = omega arith
  some_letter f (Letter.GivenBack p) = omega arith
  some_letter f (Letter.ReleaseOf p) = omega arith
  some_letter f (Letter.Apply change) = omega arith
  some_letter f Letter.Applied = omega arith
  some_letter f (Letter.JoinAsk pairs) = omega arith
  some_letter f Letter.JoinRefused = omega arith
  some_letter f (Letter.Admit j settled) = omega arith
  some_letter f (Letter.Welcome members pairs told fate) = omega arith
  some_letter f Letter.Down = omega arith

  -- a letter that nobody waits for
  pub ignores_work : (f : ℕ) (l : Letter) (v : Node) → Reads v f l (begun v) 1
  ignores_work f l v = let h : 1 ≤ (weights C).letter f a l = some_letter f l in omega (arith, h)

  -- a table that is written
  module _ (v : Node) where
    abbrev f_own : Pair → ℕ
    f_own pair = when (may_strike a v.current pair) (5 * n)

    own_new : (pair : Pair) → f_own pair ≤ when (pair.owner.node == a) (5 * n)
    own_new pair = by (pair.owner.node == a) (is_struck v.current pair.owner)
      where
        by : (h s : Bool) → when (h && not s) (5 * n) ≤ when h (5 * n)
        by true true = omega arith
        by true false = omega arith
        by false s = omega arith

    -- a put, or the removal that stands for it
    pub put_own : (told : Nodes) (pair : Pair) (t : Table)
        → sum_by f_own (changed (unless_told told (Put pair)) t) ≤ sum_by f_own t + when (pair.owner.node == a) (5 * n)
    put_own told pair t = go (told pair.owner.node)
      where
        go : (g : Bool) → sum_by f_own (changed (if g then Remove pair.name else Put pair) t) ≤ sum_by f_own t
            + when (pair.owner.node == a) (5 * n)
        go true = let h : sum_by f_own (remove pair.name t) ≤ sum_by f_own t =
            filter-count f_own (λ x. not (x.name == pair.name)) t in omega (arith, h)
        go false = let h : sum_by f_own (put pair t) ≤ sum_by f_own t + f_own pair = put-count f_own pair t in
            let i : f_own pair ≤ when (pair.owner.node == a) (5 * n) = own_new pair in omega (arith, h, i)

    put_long : (told : Nodes) (pair : Pair) (t : Table) → length (changed (unless_told told (Put pair)) t) ≤ length t + 1
    put_long told pair t = go (told pair.owner.node)
      where
        go : (g : Bool) → length (changed (if g then Remove pair.name else Put pair) t) ≤ length t + 1
        go true = let h : length (remove pair.name t) ≤ length t = filter-length (λ x. not (x.name == pair.name)) t in
            omega (arith, h)
        go false = put-length pair t

    -- a change is written: a node in whose queue a join waits writes its own changes alone, and one join waits at most
    pub writes_work : (f : ℕ) (change : Change) → joins v.queue * (6 * n) ≤ when (f == a) (6 * n)
        → Reads v f (Letter.Apply change) (send f Letter.Applied (with_replica (wrote change) (begun v))) 1
    writes_work f (Put pair) room =
        let names : sum_by f_own (changed (unless_told v.replica.told (Put pair)) v.replica.table)
        ≤ sum_by f_own v.replica.table + when (pair.owner.node == a) (5 * n) = put_own v.replica.told pair v.replica.table in
        let queue : sum_by (queued_work n (changed (unless_told v.replica.told (Put pair)) v.replica.table)) v.queue
        ≤ sum_by (queued_work n v.replica.table) v.queue + joins v.queue * (6 * n) =
        queue_grows n v.replica.table (changed (unless_told v.replica.told (Put pair)) v.replica.table)
        (put_long v.replica.told pair v.replica.table) v.queue in
        let h : when (up f) 1 ≤ 1 = when-le (up f) 1 in omega (arith, names, queue, room, h)
    writes_work f (Remove x) room =
        let names : sum_by f_own (remove x v.replica.table) ≤ sum_by f_own v.replica.table =
        filter-count f_own (λ pair. not (pair.name == x)) v.replica.table in
        let queue : sum_by (queued_work n (remove x v.replica.table)) v.queue ≤ sum_by (queued_work n v.replica.table) v.queue =
        queue_stays n v.replica.table (remove x v.replica.table) (filter-length (λ pair. not (pair.name == x)) v.replica.table)
        v.queue in
        let h : when (up f) 1 ≤ 1 = when-le (up f) 1 in omega (arith, names, queue, h)
    writes_work f (StrikeOwner p) room =
        let names : sum_by f_own (strike p v.replica.table) ≤ sum_by f_own v.replica.table =
        filter-count f_own (λ pair. not (is_process pair.owner p)) v.replica.table in
        let queue : sum_by (queued_work n (strike p v.replica.table)) v.queue ≤ sum_by (queued_work n v.replica.table) v.queue =
        queue_stays n v.replica.table (strike p v.replica.table)
        (filter-length (λ pair. not (is_process pair.owner p)) v.replica.table) v.queue in
        let h : when (up f) 1 ≤ 1 = when-le (up f) 1 in omega (arith, names, queue, h)

    -- these are put
    puts_own : (puts : Table) (r : Replica) → sum_by f_own (fold (λ x pair. wrote (Put pair) x) r puts).table
        ≤ sum_by f_own r.table + owned_on a puts * (5 * n)
    puts_own [] r = omega arith
    puts_own (pair ∷ puts) r =
        let rest : sum_by f_own (fold (λ x p. wrote (Put p) x) (wrote (Put pair) r) puts).table
        ≤ sum_by f_own (wrote (Put pair) r).table + owned_on a puts * (5 * n) = puts_own puts (wrote (Put pair) r) in
        let one : sum_by f_own (wrote (Put pair) r).table ≤ sum_by f_own r.table + when (pair.owner.node == a) (5 * n) =
        put_own r.told pair r.table in
        let count : when (pair.owner.node == a) (5 * n) + owned_on a puts * (5 * n) ≡ owned_on a (pair ∷ puts) * (5 * n) =
        by (pair.owner.node == a) in
        omega (arith, rest, one, count)
      where
        by : (h : Bool) → when h (5 * n) + owned_on a puts * (5 * n)
            ≡ length (if h then pair ∷ filter (λ x. x.owner.node == a) puts else filter (λ x. x.owner.node == a) puts) * (5 * n)
        by true = omega arith
        by false = omega arith

    -- and these names are nobody's
    removes_own : (xs : List Text) (r : Replica) → sum_by f_own (fold (λ x name. wrote (Remove name) x) r xs).table
        ≤ sum_by f_own r.table
    removes_own [] r = omega arith
    removes_own (x ∷ xs) r =
        let rest : sum_by f_own (fold (λ y name. wrote (Remove name) y) (wrote (Remove x) r) xs).table
        ≤ sum_by f_own (wrote (Remove x) r).table =
        removes_own xs (wrote (Remove x) r) in
        let one : sum_by f_own (remove x r.table) ≤ sum_by f_own r.table =
        filter-count f_own (λ pair. not (pair.name == x)) r.table in
        omega (arith, rest, one)

    settled_own : (s : Settled) (r : Replica) → sum_by f_own (wrote_all s r).table ≤ sum_by f_own r.table
        + owned_on a s.puts * (5 * n)
    settled_own s r =
        let puts : sum_by f_own (fold (λ x pair. wrote (Put pair) x) r s.puts).table ≤ sum_by f_own r.table
        + owned_on a s.puts * (5 * n) =
        puts_own s.puts r in
        let removes : sum_by f_own (wrote_all s r).table ≤ sum_by f_own (fold (λ x pair. wrote (Put pair) x) r s.puts).table =
        removes_own s.removes (fold (λ x pair. wrote (Put pair) x) r s.puts) in omega (arith, puts, removes)

    -- a queue without joins counts the same, whatever the table
    queue_same : (t u : Table) (ops : List Op) → joins ops ≡ 0 → sum_by (queued_work n u) ops ≤ sum_by (queued_work n t) ops
    queue_same t u [] e = omega arith
    queue_same t u (Op.Name k call ∷ ops) e =
        let rest : sum_by (queued_work n u) ops ≤ sum_by (queued_work n t) ops = queue_same t u ops e in
        let p : sum_by (queued_work n u) (Op.Name k call ∷ ops) ≡ queued_work n u (Op.Name k call) + sum_by (queued_work n u) ops =
        sum_by-cons (queued_work n u) (Op.Name k call) ops in
        let q : sum_by (queued_work n t) (Op.Name k call ∷ ops) ≡ queued_work n t (Op.Name k call) + sum_by (queued_work n t) ops =
        sum_by-cons (queued_work n t) (Op.Name k call) ops in omega (arith, rest, p, q)
    queue_same t u (Op.Strike s ∷ ops) e =
        let rest : sum_by (queued_work n u) ops ≤ sum_by (queued_work n t) ops = queue_same t u ops e in
        let p : sum_by (queued_work n u) (Op.Strike s ∷ ops) ≡ queued_work n u (Op.Strike s) + sum_by (queued_work n u) ops =
        sum_by-cons (queued_work n u) (Op.Strike s) ops in
        let q : sum_by (queued_work n t) (Op.Strike s ∷ ops) ≡ queued_work n t (Op.Strike s) + sum_by (queued_work n t) ops =
        sum_by-cons (queued_work n t) (Op.Strike s) ops in omega (arith, rest, p, q)
    queue_same t u (Op.Admission j pairs ∷ ops) e =
        let rest : sum_by (queued_work n u) ops ≤ sum_by (queued_work n t) ops = queue_same t u ops e in
        let p : sum_by (queued_work n u) (Op.Admission j pairs ∷ ops) ≡ queued_work n u (Op.Admission j pairs)
        + sum_by (queued_work n u) ops =
        sum_by-cons (queued_work n u) (Op.Admission j pairs) ops in
        let q : sum_by (queued_work n t) (Op.Admission j pairs ∷ ops) ≡ queued_work n t (Op.Admission j pairs)
        + sum_by (queued_work n t) ops =
        sum_by-cons (queued_work n t) (Op.Admission j pairs) ops in omega (arith, rest, p, q)
    queue_same t u (Op.Join k m ∷ ops) e = absurd (omega (arith, e))

    -- a member carries an admission out; whom it kills at home died before, and is paid for by the letter
    pub is_admitted_work : (f j : ℕ) (s : Settled) → joins v.queue ≡ 0
        → Reads v f (Letter.Admit j s) (send f Letter.Applied (with_replica (admitted a j s) (begun v)))
        (1 + live_on alive a s.fate.kills * n)
    is_admitted_work f j s none =
        let names : sum_by f_own (wrote_all s (with_member j v.replica)).table ≤ sum_by f_own (with_member j v.replica).table
        + owned_on a s.puts * (5 * n) =
        settled_own s (with_member j v.replica) in
        let same : sum_by f_own (with_member j v.replica).table ≡ sum_by f_own v.replica.table =
        ap (sum_by f_own) (by (v.replica.told j)) in
        let queue : sum_by (queued_work n (wrote_all s (with_member j v.replica)).table) v.queue
        ≤ sum_by (queued_work n v.replica.table) v.queue =
        queue_same v.replica.table (wrote_all s (with_member j v.replica)).table v.queue none in
        let h : when (up f) 1 ≤ 1 = when-le (up f) 1 in omega (arith, names, same, queue, h)
      where
        by : (t : Bool) → (if t then v.replica else record v.replica { members = with_node j v.replica.members }).table
            ≡ v.replica.table
        by true = refl
        by false = refl

    -- a joiner is welcomed
    pub is_welcomed_work : (f k : ℕ) (members : Nodes) (pairs : Table) (told : Nodes) (fate : Fate) → joins v.queue ≡ 0
        → Reads v f (Letter.Welcome members pairs told fate) (send f Letter.Applied (reply_with a k Joined (at_work Current.Free
        (with_replica (welcomed a members pairs told fate) (begun v))))) (1 + live_on alive a fate.kills * n)
    is_welcomed_work f k members pairs told fate none =
        let names : own C Current.Free (without gone pairs)
        ≤ sum_by (λ pair. when (pair.owner.node == a) (5 * n)) (without gone pairs) =
        sum_by-le-sum_by (λ pair. when ((pair.owner.node == a) && not false) (5 * n)) (λ pair. when (pair.owner.node == a) (5 * n))
        (without gone pairs)
        (λ pair. by (pair.owner.node == a)) in
        let fewer_pairs : sum_by (λ pair. when (pair.owner.node == a) (5 * n)) (without gone pairs)
        ≤ sum_by (λ pair. when (pair.owner.node == a) (5 * n)) pairs =
        filter-count (λ pair. when (pair.owner.node == a) (5 * n)) (λ pair. not (gone pair.owner.node)) pairs in
        let count : sum_by (λ (pair : Pair). when (pair.owner.node == a) (5 * n)) pairs ≡ owned_on a pairs * (5 * n) =
        count-passing (λ (pair : Pair). pair.owner.node == a) (5 * n) pairs in
        let queue : sum_by (queued_work n (without gone pairs)) v.queue ≤ sum_by (queued_work n v.replica.table) v.queue =
        queue_same v.replica.table (without gone pairs) v.queue none in
        let h : when (up f) 1 ≤ 1 = when-le (up f) 1 in omega (arith, names, fewer_pairs, count, queue, h)
      where
        gone : Nodes
        gone d = v.replica.told d || told d

        by : (h : Bool) → when (h && not false) (5 * n) ≤ when h (5 * n)
        by true = omega arith
        by false = omega arith
