-- What is pending at a node, in parts: what its registrar is at, its queue, and the names that it may strike. a: the node.
use Rattle.std.proofs.Common.{ℕ, Bool, true, false, ◌==◌, ◌≡◌, ◌≤◌, ◌+◌, ◌*◌, List, [], ◌∷◌, refl, ap, ◌∙◌, arith}
use Rattle.std.specs.Prelude.{length, not, ◌&&◌, filter}
use Rattle.std.specs.List.{sum_by}
use Rattle.std.proofs.lemmas.List.Sums.{sum_by-cons}
use Rattle.registry_model.specs.Process.{Process, is_process, Nodes, nodes_of}
use Rattle.registry_model.specs.Table.{Pair, Table, Put, owns}
use Rattle.protocol_model.specs.Letter.{Letter}
use Rattle.protocol_model.specs.Node.{Node, Op, Current, LockPhase, LockCall}
use Rattle.protocol_model.specs.Turn.{Send}
use Rattle.protocol_model.specs.World.{Opening}
use Rattle.no_dead_end.proofs.Indices.{both, neither}
use Rattle.no_dead_end.proofs.SendTests.{all_pass, pass_each}
use Rattle.no_dead_end.proofs.Sends.{to_each}
use Rattle.no_dead_end.proofs.Ids.{is_process_swap}
use Rattle.no_dead_end.specs.Weights.{sum_below, when, is_struck, may_strike, of_current, of_phase, of_node}
use Rattle.no_dead_end.proofs.Counting.{Counting}
use Rattle.no_dead_end.proofs.Sums.{sum-same, sum-le, sum-add, sum-zero, sum-most, when-swap}
use Rattle.no_dead_end.proofs.Totals.{sent_work, sent_each}
use Rattle.no_dead_end.proofs.TableWork.{count-passing}
use Rattle.no_dead_end.proofs.LetterWork.{joins}
use Rattle.no_dead_end.proofs.RegistrarWork
use Rattle.getting_through.specs.Pending.{pending_op, pending_queued, pending_letter, pending_weights}
use Rattle.getting_through.proofs.StormRounds.{nobody_of}

-- letters that bring nothing to be retried
abbrev pub is_light : Letter → Bool
is_light (Letter.Apply change) = false
is_light (Letter.JoinAsk pairs) = false
is_light (Letter.Admit j s) = false
is_light (Letter.Welcome members pairs told fate) = false
is_light l = true

pub light_letter : (f c : ℕ) (l : Letter) → is_light l ≡ true → pending_letter f c l ≡ 0
light_letter f c (Letter.Apply change) h = cc h
light_letter f c (Letter.JoinAsk pairs) h = cc h
light_letter f c (Letter.Admit j s) h = cc h
light_letter f c (Letter.Welcome members pairs told fate) h = cc h
light_letter f c (Letter.SetLock id p) h = refl
light_letter f c (Letter.LockAnswer id p g) h = refl
light_letter f c (Letter.GiveBack id p ack) h = refl
light_letter f c (Letter.GivenBack p) h = refl
light_letter f c (Letter.ReleaseOf p) h = refl
light_letter f c Letter.Applied h = refl
light_letter f c Letter.JoinRefused h = refl
light_letter f c Letter.Down h = refl

zero_when : (t : Bool) → when t 0 ≡ 0
zero_when true = refl
zero_when false = refl

nothing : (b : ℕ) (s : Nodes) → sum_below b (λ c. when (s c) 0) ≡ 0
nothing b s = sum-same b (λ c. when (s c) 0) (λ c. 0) (λ c l. zero_when (s c)) ∙ sum-zero b

-- what the registrar is at, and its queue
abbrev pub doing : Current → ℕ
doing (Current.Asking op r) = pending_op op
doing (Current.Waiting op) = pending_op op
doing _ = 0

abbrev pub queue : Table → List Op → ℕ
queue t ops = sum_by (pending_queued t) ops

-- a queue grows by its joins where the table does
pub queue_by : (t u : Table) (k : ℕ) → length u ≤ length t + k → (ops : List Op) → queue u ops ≤ queue t ops + joins ops * k
queue_by t u k l [] = omega arith
queue_by t u k l (op ∷ ops) =
    let first : queue u (op ∷ ops) ≡ pending_queued u op + queue u ops = sum_by-cons (pending_queued u) op ops in
    let second : queue t (op ∷ ops) ≡ pending_queued t op + queue t ops = sum_by-cons (pending_queued t) op ops in
    by op first second (queue_by t u k l ops)
  where
    by : (x : Op) → queue u (x ∷ ops) ≡ pending_queued u x + queue u ops → queue t (x ∷ ops) ≡ pending_queued t x + queue t ops
        → queue u ops ≤ queue t ops + joins ops * k → queue u (x ∷ ops) ≤ queue t (x ∷ ops) + joins (x ∷ ops) * k
    by (Op.Name n call) p q h = omega (arith, p, q, h)
    by (Op.Strike s) p q h = omega (arith, p, q, h)
    by (Op.Admission j pairs) p q h = omega (arith, p, q, h)
    by (Op.Join n m) p q h = omega (arith, p, q, h, l)

-- and not where no join waits
pub queue_same : (t u : Table) (ops : List Op) → joins ops ≡ 0 → queue u ops ≤ queue t ops
queue_same t u ops none =
    let h : queue u ops ≤ queue t ops + joins ops * length u = queue_by t u (length u) (omega arith) ops in
    let z : joins ops * length u ≡ 0 = ap (λ (j : ℕ). j * length u) none ∙ omega arith in omega (arith, h, z)

module _ (o : Opening) (up : Nodes) (a : ℕ) where
  -- names that the registrar may strike
  abbrev pub own : Current → Table → ℕ
  own c t = sum_by (λ pair. when (may_strike a c pair) 1) t

  abbrev pub plain : Node → ℕ
  plain v = doing v.current + queue v.replica.table v.queue + own v.current v.replica.table

  abbrev pub sent : List Send → ℕ
  sent ss = sent_work o.bound pending_weights up a ss

  at_is : (c : Current) → of_current o.bound pending_weights up c ≡ doing c
  at_is (Current.Asking op r) = let h : sum_below o.bound (λ c. when (up c) 0) ≡ 0 = nothing o.bound up in omega (arith, h)
  at_is (Current.Waiting op) = refl
  at_is Current.Free = refl
  at_is (Current.Joining k m) = refl
  at_is (Current.Writing op s awaited reply) = nothing o.bound (λ c. up c && s c)

  calls_are : (cs : List LockCall) → sum_by (λ call. of_phase o.bound pending_weights up call.phase) cs ≡ 0
  calls_are [] = refl
  calls_are (c ∷ cs) =
      let p : sum_by (λ call. of_phase o.bound pending_weights up call.phase) (c ∷ cs)
      ≡ of_phase o.bound pending_weights up c.phase + sum_by (λ call. of_phase o.bound pending_weights up call.phase) cs =
      sum_by-cons (λ (call : LockCall). of_phase o.bound pending_weights up call.phase) c cs in
      let q : of_phase o.bound pending_weights up c.phase ≡ 0 = phase c.phase in
      let more : sum_by (λ call. of_phase o.bound pending_weights up call.phase) cs ≡ 0 = calls_are cs in omega (arith, p, q, more)
    where
      phase : (x : LockPhase) → of_phase o.bound pending_weights up x ≡ 0
      phase (LockPhase.Asking r) = nothing o.bound up
      phase LockPhase.Waiting = refl
      phase (LockPhase.Deleting owing) = refl

  -- so much is counted of a node
  pub node_is : (v : Node) → of_node o.bound pending_weights up a v ≡ plain v
  node_is v = let x : of_current o.bound pending_weights up v.current ≡ doing v.current = at_is v.current in
      let y : sum_by (λ call. of_phase o.bound pending_weights up call.phase) v.calls ≡ 0 = calls_are v.calls in omega (arith, x, y)

  -- letters that bring nothing count nothing
  pub light_sends : (ss : List Send) → all_pass is_light ss ≡ true → sent ss ≡ 0
  light_sends [] h = refl
  light_sends (s ∷ ss) h =
      let parts : (is_light s.letter ≡ true) × (all_pass is_light ss ≡ true) = both (is_light s.letter) (all_pass is_light ss) h in
      let one : when (up s.to) (pending_letter a s.to s.letter) ≡ 0 =
      ap (when (up s.to)) (light_letter a s.to s.letter parts.0) ∙ zero_when (up s.to) in
      let more : sent ss ≡ 0 = light_sends ss parts.1 in omega (arith, one, more)

  pub one_light : (c : ℕ) (l : Letter) → is_light l ≡ true → sent (record { to = c; letter = l } ∷ []) ≡ 0
  one_light c l h = light_sends (record { to = c; letter = l } ∷ []) (ap (λ (t : Bool). t && true) h)

  pub all_light : (s : Nodes) (l : Letter) → is_light l ≡ true → sent (to_each (nodes_of o.bound s) l) ≡ 0
  all_light s l h = light_sends (to_each (nodes_of o.bound s) l) (pass_each is_light (nodes_of o.bound s) l h)

  -- the letters of a put: one to its owner's node, and the writer's own
  pub put_letters : (s : Nodes) (pair : Pair) → sent (to_each (nodes_of o.bound s) (Letter.Apply (Put pair))) ≤ 2
  put_letters s pair =
      let all : sent (to_each (nodes_of o.bound s) (Letter.Apply (Put pair)))
      ≡ sum_below o.bound (λ c. when (up c && s c) (when (pair.owner.node == c) 1 + when (a == c) 1)) =
      sent_each o.bound pending_weights up a o.bound s (Letter.Apply (Put pair)) in
      let le : sum_below o.bound (λ c. when (up c && s c) (when (pair.owner.node == c) 1 + when (a == c) 1))
      ≤ sum_below o.bound (λ c. when (c == pair.owner.node) 1 + when (c == a) 1) =
      sum-le o.bound (λ c. when (up c && s c) (when (pair.owner.node == c) 1 + when (a == c) 1))
      (λ c. when (c == pair.owner.node) 1 + when (c == a) 1) (λ c l. each c) in
      let split : sum_below o.bound (λ c. when (c == pair.owner.node) 1 + when (c == a) 1)
      ≡ sum_below o.bound (λ c. when (c == pair.owner.node) 1) + sum_below o.bound (λ c. when (c == a) 1) =
      sum-add o.bound (λ c. when (c == pair.owner.node) 1) (λ c. when (c == a) 1) in
      let owner : sum_below o.bound (λ c. when (c == pair.owner.node) 1) ≤ 1 = sum-most o.bound pair.owner.node 1 in
      let itself : sum_below o.bound (λ c. when (c == a) 1) ≤ 1 = sum-most o.bound a 1 in
      omega (arith, all, le, split, owner, itself)
    where
      by : (t : Bool) (x y : ℕ) → when t (x + y) ≤ x + y
      by true x y = omega arith
      by false x y = omega arith

      each : (c : ℕ) → when (up c && s c) (when (pair.owner.node == c) 1 + when (a == c) 1)
          ≤ when (c == pair.owner.node) 1 + when (c == a) 1
      each c = let h : when (up c && s c) (when (pair.owner.node == c) 1 + when (a == c) 1)
          ≤ when (pair.owner.node == c) 1 + when (a == c) 1 =
          by (up c && s c) (when (pair.owner.node == c) 1) (when (a == c) 1) in
          let i : when (pair.owner.node == c) 1 ≡ when (c == pair.owner.node) 1 = when-swap pair.owner.node c 1 in
          let j : when (a == c) 1 ≡ when (c == a) 1 = when-swap a c 1 in omega (arith, h, i, j)

  -- letters that count nothing where they go
  pub none_sent : (s : Nodes) (l : Letter) → ((c : ℕ) → s c ≡ true → pending_letter a c l ≡ 0)
      → sent (to_each (nodes_of o.bound s) l) ≡ 0
  none_sent s l h = sent_each o.bound pending_weights up a o.bound s l
      ∙ sum-same o.bound (λ c. when (up c && s c) (pending_letter a c l)) (λ c. 0)
      (λ c k. by (up c) (s c) (pending_letter a c l) (h c))
      ∙ sum-zero o.bound
    where
      by : (t m : Bool) (x : ℕ) → (m ≡ true → x ≡ 0) → when (t && m) x ≡ 0
      by true true x k = k refl
      by true false x k = refl
      by false m x k = refl

  -- a world where nobody counts, in which a name counts five of these
  abbrev pub nowhere : Counting
  nowhere = record {
    opening = o;
    size = 1;
    alive = λ p. true;
    up = λ c. false;
    few = let h : length (nodes_of o.bound (λ c. false)) ≡ 0 = ap length (nobody_of o.bound (λ c. false) (λ x. refl)) in
        omega (arith, h);
    node = a;
  }

  pub fives : (c : Current) (t : Table) → RegistrarWork.own nowhere c t ≡ own c t * 5
  fives c t = let x : RegistrarWork.own nowhere c t ≡ length (filter (may_strike a c) t) * 5 = count-passing (may_strike a c) 5 t in
      let y : own c t ≡ length (filter (may_strike a c) t) * 1 = count-passing (may_strike a c) 1 t in omega (arith, x, y)

  pub fewer : (c d : Current) (t : Table) → ((p : Process) → is_struck c p ≡ true → is_struck d p ≡ true) → own d t ≤ own c t
  fewer c d t h = let le : RegistrarWork.own nowhere d t ≤ RegistrarWork.own nowhere c t = RegistrarWork.fewer nowhere c d t h in
      let x : RegistrarWork.own nowhere c t ≡ own c t * 5 = fives c t in
      let y : RegistrarWork.own nowhere d t ≡ own d t * 5 = fives d t in omega (arith, le, x, y)

  -- who owns nothing is struck for nothing
  pub unstruck : (p : Process) (s awaited : Nodes) (reply : _) (t : Table) → owns p t ≡ false
      → own Current.Free t ≤ own (Current.Writing (Op.Strike p) s awaited reply) t
  unstruck p s awaited reply [] e = omega arith
  unstruck p s awaited reply (pair ∷ t) e =
      let none : (is_process pair.owner p ≡ false) × (owns p t ≡ false) = neither (is_process pair.owner p) (owns p t) e in
      let more : own Current.Free t ≤ own (Current.Writing (Op.Strike p) s awaited reply) t =
      unstruck p s awaited reply t none.1 in
      let free : own Current.Free (pair ∷ t) ≡ when ((pair.owner.node == a) && not false) 1 + own Current.Free t =
      sum_by-cons (λ (x : Pair). when (may_strike a Current.Free x) 1) pair t in
      let busy : own (Current.Writing (Op.Strike p) s awaited reply) (pair ∷ t)
      ≡ when ((pair.owner.node == a) && not (is_process p pair.owner)) 1
      + own (Current.Writing (Op.Strike p) s awaited reply) t =
      sum_by-cons (λ (x : Pair). when (may_strike a (Current.Writing (Op.Strike p) s awaited reply) x) 1) pair t in
      let same : when ((pair.owner.node == a) && not (is_process p pair.owner)) 1 ≡ when ((pair.owner.node == a) && not false) 1 =
      ap (λ (c : Bool). when ((pair.owner.node == a) && not c) 1) (is_process_swap pair.owner p none.0) in
      omega (arith, more, free, busy, same)

  -- the registrar goes from one thing to another, which strikes no fewer
  pub shift : (c d : Current) (k : ℕ) (v : Node) → v.current ≡ c → doing d + k ≤ doing c
      → ((p : Process) → is_struck c p ≡ true → is_struck d p ≡ true) → plain (record v { current = d }) + k ≤ plain v
  shift c d k v e less struck =
      let was : doing v.current ≡ doing c = ap doing e in
      let same : own v.current v.replica.table ≡ own c v.replica.table = ap (λ (x : Current). own x v.replica.table) e in
      let f : own d v.replica.table ≤ own c v.replica.table = fewer c d v.replica.table struck in omega (arith, was, same, f, less)
