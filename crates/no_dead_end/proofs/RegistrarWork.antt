-- What the registrar's rules make of the work: of the node, with what it sends. a is the node, v what it was.
use Rattle.std.proofs.Common.{ℕ, Bool, true, false, ◌==◌, ◌≡◌, ◌≤◌, ◌+◌, ◌*◌, Option, Some, None, List, [], ◌∷◌, refl, ap, ◌∙◌, arith}
use Rattle.std.specs.Prelude.{length, not, ◌&&◌, map, if◌then◌else◌}
use Rattle.std.specs.List.{sum_by}
use Rattle.std.proofs.lemmas.List.Sums.{sum_by-cons, sum_by-le-sum_by}
use Rattle.registry_model.specs.Process.{Process, Nodes, at, nodes_of}
use Rattle.registry_model.specs.Table.{Pair, Table, Change, Put}
use Rattle.protocol_model.specs.Round.{Round, is_empty, greatest, is_gone, begin, asked, rest, owes, opens, answer, down, granted}
use Rattle.protocol_model.specs.Letter.{Letter, Global}
use Rattle.protocol_model.specs.Node.{Node, Op, Current}
use Rattle.protocol_model.specs.Turn.{Turn, Send, begun, at_work, with_queue, send_all}
use Rattle.protocol_model.specs.Registrar.{registrar, ask_global, give_up, ask_rest, ask_join, contact_left, finish, done, write}
use Rattle.protocol_model.specs.Event.{is_join}
use Rattle.registry_model.specs.Call.{Reply}
use Rattle.named_events.proofs.Ids.{is_process_self}
use Rattle.named_events.proofs.Rounds.{is_unasked}
use Rattle.no_dead_end.specs.Weights.{sum_below, when, strikes, is_struck, may_strike, of_node}
use Rattle.no_dead_end.specs.Work.{undecided_work, queued_work}
use Rattle.no_dead_end.proofs.Counting.{Counting, weights, marks, at_current}
use Rattle.no_dead_end.proofs.Sums.{sum-le, sum-add, sum-each, sum-most, when-le, when-swap}
use Rattle.no_dead_end.proofs.RoundWork.{begin_work, answer_work, down_work, granted_work, asked_work}
use Rattle.no_dead_end.proofs.Totals.{sent_work, sent_each}

module _ (C : Counting) where
  open C use {opening.{bound as b}, size as n, alive, up, few as most, node as a}

  abbrev pub worth : Node → ℕ
  worth v = of_node b (weights C) up a v

  abbrev pub sent : List Send → ℕ
  sent ss = sent_work b (weights C) up a ss

  -- a turn that spends what the node had, and so much more
  abbrev pub Spends : Node → Turn → ℕ → Type 0
  Spends v u more = worth u.node + sent u.sends ≤ worth v + more

  -- pairs count by what the registrar is at
  abbrev pub own : Current → Table → ℕ
  own c t = sum_by (λ pair. when (may_strike a c pair) (weights C).owned) t

  pub fewer : (c d : Current) (t : Table) → ((p : Process) → is_struck c p ≡ true → is_struck d p ≡ true) → own d t ≤ own c t
  fewer c d t h = sum_by-le-sum_by (λ pair. when (may_strike a d pair) (weights C).owned)
      (λ pair. when (may_strike a c pair) (weights C).owned) t
      (λ pair. by (pair.owner.node == a) (is_struck c pair.owner) (is_struck d pair.owner) (h pair.owner))
    where
      by : (home s t : Bool) → (s ≡ true → t ≡ true) → when (home && not t) (weights C).owned
          ≤ when (home && not s) (weights C).owned
      by false s t h = omega arith
      by true true true h = omega arith
      by true true false h = cc (h refl)
      by true false true h = omega arith
      by true false false h = omega arith

  -- a round begins, of a registrar that was at something which strikes no other process
  pub asks : (op : Op) (v : Node) → is_empty b v.replica.members ≡ false
      → at_current C (Current.Asking op (begin b v.replica.members))
      + sent (record { to = greatest b v.replica.members; letter = Letter.SetLock (Global a) (registrar a) } ∷ [])
      ≤ n * 3 + undecided_work n op
  asks op v some = let h : marks C (begin b v.replica.members) + when (up (greatest b v.replica.members)) 2
      ≤ length (nodes_of b up) * 3 =
      begin_work C v.replica.members some in omega (arith, h, most)

  -- a refused operation is retried
  pub retries_work : (op : Op) (v : Node) → v.current ≡ Current.Waiting op → is_empty b v.replica.members ≡ false
      → Spends v (ask_global b a op (begun v)) (3 * n)
  retries_work op v e some =
      let h : at_current C (Current.Asking op (begin b v.replica.members))
      + sent (record { to = greatest b v.replica.members; letter = Letter.SetLock (Global a) (registrar a) } ∷ [])
      ≤ n * 3 + undecided_work n op = asks op v some in
      let was : at_current C v.current ≡ undecided_work n op = ap (at_current C) e in
      let same : own v.current v.replica.table ≡ own (Current.Asking op (begin b v.replica.members)) v.replica.table =
      ap (λ (c : Current). own c v.replica.table) e in
      omega (arith, h, was, same)

  -- the front of the queue begins
  pub begins_work : (op : Op) (ops : List Op) (v : Node) → v.current ≡ Current.Free → v.queue ≡ op ∷ ops → is_join op ≡ false
      → is_empty b v.replica.members ≡ false → Spends v (ask_global b a op (with_queue ops (begun v))) 0
  begins_work op ops v e q j some =
      let h : at_current C (Current.Asking op (begin b v.replica.members))
      + sent (record { to = greatest b v.replica.members; letter = Letter.SetLock (Global a) (registrar a) } ∷ [])
      ≤ n * 3 + undecided_work n op = asks op v some in
      let was : at_current C v.current ≡ 0 = ap (at_current C) e in
      let queue : sum_by (queued_work n v.replica.table) v.queue
      ≡ queued_work n v.replica.table op + sum_by (queued_work n v.replica.table) ops =
      ap (sum_by (queued_work n v.replica.table)) q ∙ sum_by-cons (queued_work n v.replica.table) op ops in
      let price : queued_work n v.replica.table op ≡ 3 * n + undecided_work n op = priced op j in
      let same : own v.current v.replica.table ≡ own Current.Free v.replica.table = ap (λ (c : Current). own c v.replica.table) e in
      let less : own (Current.Asking op (begin b v.replica.members)) v.replica.table ≤ own Current.Free v.replica.table =
      fewer Current.Free (Current.Asking op (begin b v.replica.members)) v.replica.table (λ p k. cc k) in
      omega (arith, h, was, queue, price, same, less)
    where
      priced : (x : Op) → is_join x ≡ false → queued_work n v.replica.table x ≡ 3 * n + undecided_work n x
      priced (Op.Join k m) h = cc h
      priced (Op.Name k call) h = refl
      priced (Op.Strike p) h = refl
      priced (Op.Admission i pairs) h = refl

  -- a join asks its contact, with the node's table
  pub asks_join_work : (k m : ℕ) (ops : List Op) (v : Node) → v.current ≡ Current.Free → v.queue ≡ Op.Join k m ∷ ops
      → Spends v (ask_join b a k m (with_queue ops (begun v))) 0
  asks_join_work k m ops v e q =
      let was : at_current C v.current ≡ 0 = ap (at_current C) e in
      let queue : sum_by (queued_work n v.replica.table) v.queue
      ≡ queued_work n v.replica.table (Op.Join k m) + sum_by (queued_work n v.replica.table) ops =
      ap (sum_by (queued_work n v.replica.table)) q ∙ sum_by-cons (queued_work n v.replica.table) (Op.Join k m) ops in
      let same : own v.current v.replica.table ≡ own Current.Free v.replica.table = ap (λ (c : Current). own c v.replica.table) e in
      let one : when (up m) ((weights C).letter a m (Letter.JoinAsk v.replica.table))
      ≤ queued_work n v.replica.table (Op.Join k m) =
      when-le (up m) (queued_work n v.replica.table (Op.Join k m)) in
      omega (arith, was, queue, same, one)

  -- a join by a contact that has left is skipped
  pub skips_work : (k m : ℕ) (ops : List Op) (v : Node) → v.queue ≡ Op.Join k m ∷ ops
      → Spends v (contact_left b a k m (with_queue ops (begun v))) 0
  skips_work k m ops v q =
      let queue : sum_by (queued_work n v.replica.table) v.queue
      ≡ queued_work n v.replica.table (Op.Join k m) + sum_by (queued_work n v.replica.table) ops =
      ap (sum_by (queued_work n v.replica.table)) q ∙ sum_by-cons (queued_work n v.replica.table) (Op.Join k m) ops in
      omega (arith, queue)

  -- an answer is heard, and the rest are asked where it opens the round
  pub hears_work : (f : ℕ) (g : Bool) (op : Op) (r : Round) (v : Node) → v.current ≡ Current.Asking op r → owes r f ≡ true
      → (opens f g r ≡ true → (x : ℕ) → (x ≡ f → ⊥) → is_unasked (r.mark x) ≡ true)
      → ((x : ℕ) → up x ≡ true → is_gone (r.mark x) ≡ false)
      → Spends v (at_work (Current.Asking op (answer f g r))
      (ask_rest b a f g (Letter.SetLock (Global a) (registrar a)) r (begun v))) 0
  hears_work f g op r v e owe fit gone = go (opens f g r) refl
    where
      l : Letter
      l = Letter.SetLock (Global a) (registrar a)

      answered : marks C (answer f g r) + sum_below b (λ x. when (up x && (opens f g r && (rest r x && not (v.replica.told x)))) 2)
          ≤ marks C r
      answered = answer_work C v.replica.told f g r owe fit gone

      was : at_current C v.current ≡ marks C r + undecided_work n op
      was = ap (at_current C) e

      same : own v.current v.replica.table ≡ own (Current.Asking op r) v.replica.table
      same = ap (λ (c : Current). own c v.replica.table) e

      go : (t : Bool) → opens f g r ≡ t → Spends v (at_work (Current.Asking op (answer f g r))
          (if t then send_all b (λ x. rest r x && not (v.replica.told x)) l (begun v) else begun v)) 0
      go true i =
          let sends : sent (map (λ c. record { to = c; letter = l }) (nodes_of b (λ x. rest r x && not (v.replica.told x))))
          ≡ sum_below b (λ x. when (up x && (rest r x && not (v.replica.told x))) 2) =
          sent_each b (weights C) up a b (λ x. rest r x && not (v.replica.told x)) l in
          let as_opened : sum_below b (λ x. when (up x && (opens f g r && (rest r x && not (v.replica.told x)))) 2)
          ≡ sum_below b (λ x. when (up x && (rest r x && not (v.replica.told x))) 2) =
          ap (λ (t : Bool). sum_below b (λ x. when (up x && (t && (rest r x && not (v.replica.told x)))) 2)) i in
          omega (arith, answered, was, same, sends, as_opened)
      go false i = omega (arith, answered, was, same)

  -- a departure is told to the round
  pub marks_down_work : (d : ℕ) (op : Op) (r : Round) (v : Node) → v.current ≡ Current.Asking op r
      → Spends v (at_work (Current.Asking op (down d r)) (begun v)) 0
  marks_down_work d op r v e =
      let was : at_current C v.current ≡ marks C r + undecided_work n op = ap (at_current C) e in
      let same : own v.current v.replica.table ≡ own (Current.Asking op r) v.replica.table =
      ap (λ (c : Current). own c v.replica.table) e in
      let less : marks C (down d r) ≤ marks C r = down_work C d r in omega (arith, was, same, less)

  -- a failed round gives back
  pub gives_up_work : (op : Op) (r : Round) (v : Node) → v.current ≡ Current.Asking op r
      → Spends v (give_up b a op (granted r) (begun v)) 0
  gives_up_work op r v e =
      let was : at_current C v.current ≡ marks C r + undecided_work n op = ap (at_current C) e in
      let same : own v.current v.replica.table ≡ own (Current.Asking op r) v.replica.table =
      ap (λ (c : Current). own c v.replica.table) e in
      let back : sum_below b (λ c. when (up c && granted r c) 1) ≤ marks C r = granted_work C r in
      let sends : sent (map (λ c. record { to = c; letter = Letter.GiveBack (Global a) (registrar a) false })
      (nodes_of b (granted r)))
      ≡ sum_below b (λ c. when (up c && granted r c) 1) =
      sent_each b (weights C) up a b (granted r) (Letter.GiveBack (Global a) (registrar a) false) in
      omega (arith, was, same, back, sends)

  -- fewer get the lock back than were asked
  back_less : (s told : Nodes) → sent (map (λ c. record { to = c; letter = Letter.GiveBack (Global a) (registrar a) false })
      (nodes_of b (λ c. s c && not (told c)))) ≤ sum_below b (λ c. when (up c && s c) 1)
  back_less s told =
      let sends : sent (map (λ c. record { to = c; letter = Letter.GiveBack (Global a) (registrar a) false })
      (nodes_of b (λ c. s c && not (told c))))
      ≡ sum_below b (λ c. when (up c && (s c && not (told c))) 1) =
      sent_each b (weights C) up a b (λ c. s c && not (told c)) (Letter.GiveBack (Global a) (registrar a) false) in
      let less : sum_below b (λ c. when (up c && (s c && not (told c))) 1) ≤ sum_below b (λ c. when (up c && s c) 1) =
      sum-le b (λ c. when (up c && (s c && not (told c))) 1) (λ c. when (up c && s c) 1) (λ c l. one (up c) (s c) (told c)) in
      omega (arith, sends, less)
    where
      one : (u s t : Bool) → when (u && (s && not t)) 1 ≤ when (u && s) 1
      one true true true = omega arith
      one true true false = omega arith
      one true false t = omega arith
      one false s t = omega arith

  -- an operation ends whose round is held; it is no strike
  pub finish_work : (op : Op) (r : Round) (reply : Option Reply) (v : Node) → v.current ≡ Current.Asking op r
      → ((p : Process) → strikes op p ≡ false) → Spends v (finish b a op (asked r) reply (begun v)) 0
  finish_work op r reply v e none = go op reply e none
    where
      was : (x : Op) → v.current ≡ Current.Asking x r → at_current C v.current ≡ marks C r + undecided_work n x
      was x i = ap (at_current C) i

      same : (x : Op) → v.current ≡ Current.Asking x r → own v.current v.replica.table ≡ own (Current.Asking x r) v.replica.table
      same x i = ap (λ (c : Current). own c v.replica.table) i

      less : (x : Op) → ((p : Process) → strikes x p ≡ false)
          → own Current.Free v.replica.table ≤ own (Current.Asking x r) v.replica.table
      less x h = fewer (Current.Asking x r) Current.Free v.replica.table (λ p k. cc (k, h p))

      back : sent (map (λ c. record { to = c; letter = Letter.GiveBack (Global a) (registrar a) false })
          (nodes_of b (λ c. asked r c && not (v.replica.told c)))) ≤ sum_below b (λ c. when (up c && asked r c) 1)
      back = back_less (asked r) v.replica.told

      paid : sum_below b (λ c. when (up c && asked r c) 1) ≤ marks C r
      paid = asked_work C r

      go : (x : Op) (y : Option Reply) → v.current ≡ Current.Asking x r → ((p : Process) → strikes x p ≡ false)
          → Spends v (finish b a x (asked r) y (begun v)) 0
      go (Op.Name k call) (Some reply) i h = omega
          (arith, was (Op.Name k call) i, same (Op.Name k call) i, less (Op.Name k call) h, back, paid)
      go (Op.Name k call) None i h = omega (
        arith,
        was (Op.Name k call) i,
        same (Op.Name k call) i,
        less (Op.Name k call) h,
        back,
        paid,
      )
      go (Op.Strike p) y i h = omega (arith, was (Op.Strike p) i, same (Op.Strike p) i, less (Op.Strike p) h, back, paid)
      go (Op.Join k m) y i h = omega (arith, was (Op.Join k m) i, same (Op.Join k m) i, less (Op.Join k m) h, back, paid)
      go (Op.Admission j pairs) y i h =
          omega (arith, was (Op.Admission j pairs) i, same (Op.Admission j pairs) i, less (Op.Admission j pairs) h, back, paid)

  -- an operation that was carried out everywhere is done; who was struck owns nothing
  pub done_work : (op : Op) (s awaited : Nodes) (reply : Option Reply) (v : Node) → v.current ≡ Current.Writing op s awaited reply
      → ((p : Process) → strikes op p ≡ true → own Current.Free v.replica.table
      ≤ own (Current.Writing op s awaited reply) v.replica.table)
      → Spends v (done b a op s reply (begun v)) 0
  done_work op s awaited reply v e struck = go op reply e struck
    where
      was : (x : Op) (y : Option Reply) → v.current ≡ Current.Writing x s awaited y
          → at_current C v.current ≡ sum_below b (λ c. when (up c && s c) 1)
      was x y i = ap (at_current C) i

      same : (x : Op) (y : Option Reply) → v.current ≡ Current.Writing x s awaited y
          → own v.current v.replica.table ≡ own (Current.Writing x s awaited y) v.replica.table
      same x y i = ap (λ (c : Current). own c v.replica.table) i

      back : sent (map (λ c. record { to = c; letter = Letter.GiveBack (Global a) (registrar a) false })
          (nodes_of b (λ c. s c && not (v.replica.told c)))) ≤ sum_below b (λ c. when (up c && s c) 1)
      back = back_less s v.replica.told

      less : (x : Op) (y : Option Reply) → ((p : Process) → strikes x p ≡ false)
          → own Current.Free v.replica.table ≤ own (Current.Writing x s awaited y) v.replica.table
      less x y h = fewer (Current.Writing x s awaited y) Current.Free v.replica.table (λ p k. cc (k, h p))

      go : (x : Op) (y : Option Reply) → v.current ≡ Current.Writing x s awaited y
          → ((p : Process) → strikes x p ≡ true → own Current.Free v.replica.table
          ≤ own (Current.Writing x s awaited y) v.replica.table)
          → Spends v (done b a x s y (begun v)) 0
      go (Op.Name k call) (Some y) i h = omega (
        arith,
        was (Op.Name k call) (Some y) i,
        same (Op.Name k call) (Some y) i,
        less (Op.Name k call) (Some y) (λ p. refl),
        back,
      )
      go (Op.Name k call) None i h = omega (
        arith,
        was (Op.Name k call) None i,
        same (Op.Name k call) None i,
        less (Op.Name k call) None (λ p. refl),
        back,
      )
      go (Op.Strike p) y i h = omega (arith, was (Op.Strike p) y i, same (Op.Strike p) y i, h p (is_process_self p), back)
      go (Op.Join k m) y i h = omega (arith, was (Op.Join k m) y i, same (Op.Join k m) y i, less (Op.Join k m) y (λ p. refl), back)
      go (Op.Admission j pairs) y i h = omega (
        arith,
        was (Op.Admission j pairs) y i,
        same (Op.Admission j pairs) y i,
        less (Op.Admission j pairs) y (λ p. refl),
        back,
      )

  -- one node less is awaited
  pub counts_work : (op : Op) (s awaited : Nodes) (f : ℕ) (reply : Option Reply) (v : Node)
      → v.current ≡ Current.Writing op s awaited reply
      → Spends v (at_work (Current.Writing op s (at awaited f false) reply) (begun v)) 0
  counts_work op s awaited f reply v e =
      let was : at_current C v.current ≡ sum_below b (λ c. when (up c && s c) 1) = ap (at_current C) e in
      let same : own v.current v.replica.table ≡ own (Current.Writing op s awaited reply) v.replica.table =
      ap (λ (c : Current). own c v.replica.table) e in omega (arith, was, same)

  -- a change is written, for an operation whose round is held
  pub write_work : (op : Op) (r : Round) (reply : Option Reply) (change : Change) (v : Node) → v.current ≡ Current.Asking op r
      → sum_below b (λ c. when (up c && v.replica.members c) ((weights C).letter a c (Letter.Apply change))) ≤ undecided_work n op
      → Spends v (write b a op (asked r) reply change (begun v)) 0
  write_work op r reply change v e pays =
      let was : at_current C v.current ≡ marks C r + undecided_work n op = ap (at_current C) e in
      let same : own v.current v.replica.table ≡ own (Current.Asking op r) v.replica.table =
      ap (λ (c : Current). own c v.replica.table) e in
      let paid : sum_below b (λ c. when (up c && asked r c) 1) ≤ marks C r = asked_work C r in
      let sends : sent (map (λ c. record { to = c; letter = Letter.Apply change }) (nodes_of b v.replica.members))
      ≡ sum_below b (λ c. when (up c && v.replica.members c) ((weights C).letter a c (Letter.Apply change))) =
      sent_each b (weights C) up a b v.replica.members (Letter.Apply change) in
      omega (arith, was, same, paid, sends, pays)

  -- the letters of a change that gives nobody a name
  pub plain_change : (s : Nodes) (change : Change) → ((c : ℕ) → (weights C).letter a c (Letter.Apply change) ≡ 2)
      → sum_below b (λ c. when (up c && s c) ((weights C).letter a c (Letter.Apply change))) ≤ 2 * n
  plain_change s change two =
      let le : sum_below b (λ c. when (up c && s c) ((weights C).letter a c (Letter.Apply change)))
      ≤ sum_below b (λ c. when (up c) 2) =
      sum-le b (λ c. when (up c && s c) ((weights C).letter a c (Letter.Apply change))) (λ c. when (up c) 2)
      (λ c l. one (up c) (s c) ((weights C).letter a c (Letter.Apply change)) (two c)) in
      let count : sum_below b (λ c. when (up c) 2) ≡ length (nodes_of b up) * 2 = sum-each b up 2 in omega (arith, le, count, most)
    where
      one : (u t : Bool) (k : ℕ) → k ≡ 2 → when (u && t) k ≤ when u 2
      one true true k e = omega (arith, e)
      one true false k e = omega arith
      one false t k e = omega arith

  -- those of a put: its owner's node and the writer itself take more
  pub put_change : (s : Nodes) (pair : Pair)
      → sum_below b (λ c. when (up c && s c) ((weights C).letter a c (Letter.Apply (Put pair)))) ≤ 2 * n + (5 * n + 6 * n)
  put_change s pair =
      let le : sum_below b (λ c. when (up c && s c) ((weights C).letter a c (Letter.Apply (Put pair))))
      ≤ sum_below b (λ c. when (up c) 2 + (when (c == pair.owner.node) (5 * n) + when (c == a) (6 * n))) =
      sum-le b (λ c. when (up c && s c) ((weights C).letter a c (Letter.Apply (Put pair))))
      (λ c. when (up c) 2 + (when (c == pair.owner.node) (5 * n) + when (c == a) (6 * n))) (λ c l. each c) in
      let split : sum_below b (λ c. when (up c) 2 + (when (c == pair.owner.node) (5 * n) + when (c == a) (6 * n)))
      ≡ sum_below b (λ c. when (up c) 2) + sum_below b (λ c. when (c == pair.owner.node) (5 * n) + when (c == a) (6 * n)) =
      sum-add b (λ c. when (up c) 2) (λ c. when (c == pair.owner.node) (5 * n) + when (c == a) (6 * n)) in
      let split2 : sum_below b (λ c. when (c == pair.owner.node) (5 * n) + when (c == a) (6 * n))
      ≡ sum_below b (λ c. when (c == pair.owner.node) (5 * n)) + sum_below b (λ c. when (c == a) (6 * n)) =
      sum-add b (λ c. when (c == pair.owner.node) (5 * n)) (λ c. when (c == a) (6 * n)) in
      let owner : sum_below b (λ c. when (c == pair.owner.node) (5 * n)) ≤ 5 * n = sum-most b pair.owner.node (5 * n) in
      let itself : sum_below b (λ c. when (c == a) (6 * n)) ≤ 6 * n = sum-most b a (6 * n) in
      let count : sum_below b (λ c. when (up c) 2) ≡ length (nodes_of b up) * 2 = sum-each b up 2 in
      omega (arith, le, split, split2, owner, itself, count, most)
    where
      by : (u t : Bool) (x y : ℕ) → when (u && t) (2 + (x + y)) ≤ when u 2 + (x + y)
      by true true x y = omega arith
      by true false x y = omega arith
      by false t x y = omega arith

      each : (c : ℕ) → when (up c && s c) (2 + (when (pair.owner.node == c) (5 * n) + when (a == c) (6 * n)))
          ≤ when (up c) 2 + (when (c == pair.owner.node) (5 * n) + when (c == a) (6 * n))
      each c = let h : when (up c && s c) (2 + (when (pair.owner.node == c) (5 * n) + when (a == c) (6 * n)))
          ≤ when (up c) 2 + (when (pair.owner.node == c) (5 * n) + when (a == c) (6 * n)) =
          by (up c) (s c) (when (pair.owner.node == c) (5 * n)) (when (a == c) (6 * n)) in
          let i : when (pair.owner.node == c) (5 * n) ≡ when (c == pair.owner.node) (5 * n) = when-swap pair.owner.node c (5 * n) in
          let j : when (a == c) (6 * n) ≡ when (c == a) (6 * n) = when-swap a c (6 * n) in omega (arith, h, i, j)
