-- No rule of a delivery or of a retry raises what is pending, and one that decides an operation lowers it. a: the rule's node; up:
-- the nodes that count.
use Rattle.std.proofs.Common.{ℕ, suc, Bool, true, false, ◌==◌, ◌≡◌, ◌<◌, ◌≤◌, ◌+◌, ◌*◌, Option, Some, None, List, [], ◌∷◌, ◌++◌, refl, sym, ap, subst, ◌∙◌, arith}
use Rattle.std.specs.Prelude.{length, not, ◌&&◌, if◌then◌else◌}
use Rattle.std.proofs.lemmas.Bool.{and_parts, ltb-true, ne_eqb}
use Rattle.std.proofs.lemmas.List.Sums.{sum_by-cons, sum_by-append}
use Rattle.registry_model.specs.Process.{Process, is_process, Nodes, at, nodes_of, with_node}
use Rattle.registry_model.specs.Table.{Pair, Table, Change, Put, Remove, StrikeOwner, remove, strike, without, changed}
use Rattle.registry_model.specs.Call.{NameCall, Register, ReRegister, Unregister, Reply, reply_to, change_of}
use Rattle.registry_model.specs.Settlement.{Fate, Settled, settle, with_settled}
use Rattle.protocol_model.specs.Round.{Round, begin, asked, rest, opens, answer, down}
use Rattle.protocol_model.specs.Letter.{Letter, Global, Id}
use Rattle.protocol_model.specs.LockTable.{is_free_for, grant}
use Rattle.protocol_model.specs.Node.{Node, Op, Current, LockPhase, LockCall, wrote, targets}
use Rattle.protocol_model.specs.Event.{is_join}
use Rattle.protocol_model.specs.Turn.{Turn, begun, send, send_all, at_work, with_locks, keep_call}
use Rattle.protocol_model.specs.Registrar.{registrar, done}
use Rattle.protocol_model.specs.Client.{is_spent, in_phase, close_call, give_lock}
use Rattle.protocol_model.specs.Reading.{admitted, welcomed}
use Rattle.protocol_model.specs.World.{Opening, in_world, World, apply}
use Rattle.no_dead_end.proofs.Rules
use Rattle.no_dead_end.proofs.Rules.{Rule, Taken}
use Rattle.no_dead_end.proofs.Sends.{to_each}
use Rattle.no_dead_end.specs.Weights.{when, may_strike, total}
use Rattle.no_dead_end.specs.Work.{is_put, owned_on}
use Rattle.no_dead_end.proofs.Totals.{turn_total, taken_total, sent_work-append}
use Rattle.no_dead_end.proofs.TableWork.{filter-count, filter-length, put-length}
use Rattle.no_dead_end.proofs.Counting.{at_current}
use Rattle.no_dead_end.proofs.Sums.{when-le}
use Rattle.no_dead_end.proofs.LetterWork
use Rattle.no_dead_end.proofs.LetterWork.{joins}
use Rattle.no_dead_end.proofs.RegistrarWork
use Rattle.no_dead_end.proofs.StrikeWork.{begins_strike_work}
use Rattle.no_dead_end.proofs.RuleWork.{Ready}
use Rattle.getting_through.specs.Pending.{pending_op, pending_queued, pending_letter, pending_weights}
use Rattle.getting_through.proofs.Storm.{is_mild, is_decision}
use Rattle.getting_through.proofs.PendingParts.{doing, queue, queue_by, queue_same, own, plain, sent, node_is, light_sends, one_light, all_light, put_letters, none_sent, nowhere, fives, fewer, unstruck, shift}

-- A table that a letter changes. v: the node; its queue and its lock calls are left out where its work is asked for
module _ (o : Opening) (up : Nodes) (a : ℕ) (v : Node) where
  abbrev bare : Node
  bare = record v { queue = []; calls = [] }

  abbrev names : Current → Table → ℕ
  names c t = own o up a c t

  abbrev five : Current → Table → ℕ
  five c t = RegistrarWork.own (nowhere o up a) c t

  -- one name more where its owner is here
  put_names : (pair : Pair) → names v.current (wrote (Put pair) v.replica).table
      ≤ names v.current v.replica.table + when (pair.owner.node == a) 1
  put_names pair =
      let h : _ = LetterWork.writes_work (nowhere o up a) bare (suc a) (Put pair) (omega arith) in
      let x : five v.current (wrote (Put pair) v.replica).table ≡ names v.current (wrote (Put pair) v.replica).table * 5 =
      fives o up a v.current (wrote (Put pair) v.replica).table in
      let y : five v.current v.replica.table ≡ names v.current v.replica.table * 5 = fives o up a v.current v.replica.table in
      let z : when (suc a == a) 6 ≡ 0 = ap (λ (t : Bool). when t 6) (ne_eqb (suc a) a (λ e. absurd (omega (arith, e)))) in
      let s : when (pair.owner.node == a) 5 ≡ when (pair.owner.node == a) 1 * 5 = by (pair.owner.node == a) in
      omega (arith, h, x, y, z, s)
    where
      by : (t : Bool) → when t 5 ≡ when t 1 * 5
      by true = refl
      by false = refl

  -- what is settled puts so many names
  settled_names : (j : ℕ) (s : Settled) → names v.current (admitted a j s v.replica).table
      ≤ names v.current v.replica.table + owned_on a s.puts
  settled_names j s =
      let h : _ = LetterWork.is_admitted_work (nowhere o up a) bare a j s refl in
      let x : five v.current (admitted a j s v.replica).table ≡ names v.current (admitted a j s v.replica).table * 5 =
      fives o up a v.current (admitted a j s v.replica).table in
      let y : five v.current v.replica.table ≡ names v.current v.replica.table * 5 = fives o up a v.current v.replica.table in
      omega (arith, h, x, y)

  -- and a joiner has those that it is sent
  welcomed_names : (members : Nodes) (pairs : Table) (told : Nodes) (fate : Fate)
      → names Current.Free (welcomed a members pairs told fate v.replica).table ≤ owned_on a pairs
  welcomed_names members pairs told fate =
      let h : _ = LetterWork.is_welcomed_work (nowhere o up a)
      (record bare { current = Current.Free; replica = record v.replica { table = [] } }) a 0 members pairs told fate refl in
      let x : five Current.Free (welcomed a members pairs told fate v.replica).table
      ≡ names Current.Free (welcomed a members pairs told fate v.replica).table * 5 =
      fives o up a Current.Free (welcomed a members pairs told fate v.replica).table in
      omega (arith, h, x)

  -- a table that is written has a name more at most
  put_longer : (pair : Pair) → length (wrote (Put pair) v.replica).table ≤ length v.replica.table + 1
  put_longer pair = go (v.replica.told pair.owner.node)
    where
      go : (b : Bool) → length (changed (if b then Remove pair.name else Put pair) v.replica.table) ≤ length v.replica.table + 1
      go true = let h : length (remove pair.name v.replica.table) ≤ length v.replica.table =
          filter-length (λ x. not (x.name == pair.name)) v.replica.table in omega (arith, h)
      go false = put-length pair v.replica.table

-- what a decision takes away
abbrev pub decided_one : Bool → ℕ
decided_one t = when t 1

module _ (o : Opening) (up : Nodes) (a : ℕ) where
  abbrev pub weight : Option Taken → ℕ
  weight None = 0
  weight (Some t) = pending_letter t.sender a t.letter

  module _ (w : World) (R : Ready o up w a) where
    abbrev v : Node
    v = w.node a

    abbrev t : Table
    t = v.replica.table

    -- what the rule's turn makes of its node, with what it sends
    abbrev Pays : Turn → ℕ → ℕ → Type 0
    Pays u less more = plain o up a u.node + sent o up a u.sends + less ≤ plain o up a v + more

    abbrev Local : Rule → Type 0
    Local r = Pays (Rules.turn_by o a w r) (decided_one (is_decision r)) (weight (Rules.takes o a r))

    abbrev request : Letter
    request = Letter.SetLock (Global a) (registrar a)

    abbrev back : Letter
    back = Letter.GiveBack (Global a) (registrar a) false

    hears : (f : ℕ) (id : Id) (g : Bool) (op : Op) (r : Round) → v.current ≡ Current.Asking op r
        → Local (Rules.HearsAnswer f id g op r)
    hears f id g op r e =
        let h : plain o up a (record v { current = Current.Asking op (answer f g r) }) + 0 ≤ plain o up a v =
        shift o up a (Current.Asking op r) (Current.Asking op (answer f g r)) 0 v e (omega arith) (λ p k. k) in
        go (opens f g r) h
      where
        go : (b : Bool) → plain o up a (record v { current = Current.Asking op (answer f g r) }) + 0 ≤ plain o up a v
            → Pays (at_work (Current.Asking op (answer f g r))
            (if b then send_all o.bound (λ x. rest r x && not (v.replica.told x)) request (begun v) else begun v)) 0 0
        go true h = let s : sent o up a (to_each (nodes_of o.bound (λ x. rest r x && not (v.replica.told x))) request) ≡ 0 =
            all_light o up a (λ x. rest r x && not (v.replica.told x)) request refl in omega (arith, h, s)
        go false h = omega (arith, h)

    begins : (op : Op) (ops : List Op) → Rules.May o a w (Rules.Begins op ops) → Local (Rules.Begins op ops)
    begins op ops m =
        let was : doing v.current ≡ 0 = ap doing m.tested.0 in
        let q : queue t v.queue ≡ pending_queued t op + queue t ops =
        ap (queue t) m.tested.1 ∙ sum_by-cons (pending_queued t) op ops in
        let price : pending_queued t op ≡ pending_op op = priced op m.tested.2 in
        let same : own o up a v.current t ≡ own o up a Current.Free t = ap (λ (c : Current). own o up a c t) m.tested.0 in
        let less : own o up a (Current.Asking op (begin o.bound v.replica.members)) t ≤ own o up a Current.Free t =
        fewer o up a Current.Free (Current.Asking op (begin o.bound v.replica.members)) t (λ p k. cc k) in
        let s : sent o up a (Rules.turn_by o a w (Rules.Begins op ops)).sends ≡ 0 =
        light_sends o up a (Rules.turn_by o a w (Rules.Begins op ops)).sends refl in
        omega (arith, was, q, price, same, less, s)
      where
        priced : (x : Op) → is_join x ≡ false → pending_queued t x ≡ pending_op x
        priced (Op.Join k m) h = cc h
        priced (Op.Name k call) h = refl
        priced (Op.Strike p) h = refl
        priced (Op.Admission i pairs) h = refl

    begins_strike : (serial : ℕ) → Rules.May o a w (Rules.BeginsStrike serial) → Local (Rules.BeginsStrike serial)
    begins_strike serial m =
        let h : _ = begins_strike_work (nowhere o up a) serial (record v { queue = []; calls = [] }) m.tested.0 m.tested.1 R.some in
        let was : doing v.current ≡ 0 = ap doing m.tested.0 in
        let same : own o up a v.current t ≡ own o up a Current.Free t = ap (λ (c : Current). own o up a c t) m.tested.0 in
        let idle : _ = ap (at_current (nowhere o up a)) m.tested.0 in
        let x : RegistrarWork.own (nowhere o up a) Current.Free t ≡ own o up a Current.Free t * 5 = fives o up a Current.Free t in
        let z : RegistrarWork.own (nowhere o up a) v.current t ≡ own o up a v.current t * 5 = fives o up a v.current t in
        let y : RegistrarWork.own (nowhere o up a) asking t ≡ own o up a asking t * 5 = fives o up a asking t in
        let s : sent o up a (Rules.turn_by o a w (Rules.BeginsStrike serial)).sends ≡ 0 =
        light_sends o up a (Rules.turn_by o a w (Rules.BeginsStrike serial)).sends refl in
        omega (arith, h, was, same, idle, x, y, z, s)
      where
        asking : Current
        asking = Current.Asking (Op.Strike (record { node = a; serial = serial })) (begin o.bound v.replica.members)

    asks_join : (k m : ℕ) (ops : List Op) → v.current ≡ Current.Free → v.queue ≡ Op.Join k m ∷ ops
        → Local (Rules.AsksJoin k m ops)
    asks_join k m ops e i =
        let was : doing v.current ≡ 0 = ap doing e in
        let q : queue t v.queue ≡ (1 + length t) + queue t ops =
        ap (queue t) i ∙ sum_by-cons (pending_queued t) (Op.Join k m) ops in
        let same : own o up a v.current t ≡ own o up a (Current.Joining k m) t = ap (λ (c : Current). own o up a c t) e in
        let one : when (up m) (1 + length t) ≤ 1 + length t = when-le (up m) (1 + length t) in
        omega (arith, was, q, same, one)

    skips_join : (k m : ℕ) (ops : List Op) → v.queue ≡ Op.Join k m ∷ ops → Local (Rules.SkipsJoin k m ops)
    skips_join k m ops i =
        let q : queue t v.queue ≡ (1 + length t) + queue t ops =
        ap (queue t) i ∙ sum_by-cons (pending_queued t) (Op.Join k m) ops in omega (arith, q)

    grants : (k : ℕ) (call : NameCall) (r : Round) → v.current ≡ Current.Asking (Op.Name k call) r → Local (Rules.Grants k call r)
    grants k call r e =
        let h : plain o up a (record v {
          current = Current.Writing (Op.Name k call) (asked r) v.replica.members
              (Some (reply_to v.replica.members t call));
        }) + (1 + when (is_put call) 2) ≤ plain o up a v =
        shift o up a (Current.Asking (Op.Name k call) r)
        (Current.Writing (Op.Name k call) (asked r) v.replica.members (Some (reply_to v.replica.members t call)))
        (1 + when (is_put call) 2) v e (omega arith) (λ p x. x) in
        let s : sent o up a (to_each (nodes_of o.bound v.replica.members) (Letter.Apply (change_of call)))
        ≤ when (is_put call) 2 = letters call in
        omega (arith, h, s)
      where
        letters : (c : NameCall) → sent o up a (to_each (nodes_of o.bound v.replica.members) (Letter.Apply (change_of c)))
            ≤ when (is_put c) 2
        letters (Register pair) = put_letters o up a v.replica.members pair
        letters (ReRegister pair) = put_letters o up a v.replica.members pair
        letters (Unregister x) =
            let z : sent o up a (to_each (nodes_of o.bound v.replica.members) (Letter.Apply (Remove x))) ≡ 0 =
            none_sent o up a v.replica.members (Letter.Apply (Remove x)) (λ c i. refl) in omega (arith, z)

    denies : (k : ℕ) (call : NameCall) (r : Round) → v.current ≡ Current.Asking (Op.Name k call) r → Local (Rules.Denies k call r)
    denies k call r e =
        let h : plain o up a (record v { current = Current.Free }) + 1 ≤ plain o up a v =
        shift o up a (Current.Asking (Op.Name k call) r) Current.Free 1 v e (omega arith) (λ p x. cc x) in
        let s : sent o up a (to_each (nodes_of o.bound (λ c. asked r c && not (v.replica.told c))) back) ≡ 0 =
        all_light o up a (λ c. asked r c && not (v.replica.told c)) back refl in omega (arith, h, s)

    strikes_owner : (p : Process) (r : Round) → v.current ≡ Current.Asking (Op.Strike p) r → Local (Rules.Strikes p r)
    strikes_owner p r e =
        let h : plain o up a (record v { current = Current.Writing (Op.Strike p) (asked r) v.replica.members None }) + 1
        ≤ plain o up a v =
        shift o up a (Current.Asking (Op.Strike p) r) (Current.Writing (Op.Strike p) (asked r) v.replica.members None) 1 v e
        (omega arith) (λ q x. x) in
        let s : sent o up a (to_each (nodes_of o.bound v.replica.members) (Letter.Apply (StrikeOwner p))) ≡ 0 =
        none_sent o up a v.replica.members (Letter.Apply (StrikeOwner p)) (λ c i. refl) in omega (arith, h, s)

    admits : (j : ℕ) (pairs : Table) (r : Round) → Rules.May o a w (Rules.Admits j pairs r) → Local (Rules.Admits j pairs r)
    admits j pairs r m =
        let h : plain o up a (record v {
          current = Current.Writing (Op.Admission j pairs) (asked r)
              (with_node j v.replica.members) None;
        }) + (1 + length pairs) ≤ plain o up a v =
        shift o up a (Current.Asking (Op.Admission j pairs) r)
        (Current.Writing (Op.Admission j pairs) (asked r) (with_node j v.replica.members) None) (1 + length pairs) v
        m.tested.0.current (omega arith) (λ p x. cc x) in
        let both : sent o up a (to_each (nodes_of o.bound v.replica.members) (Letter.Admit j s)
        ++ record { to = j; letter = welcome } ∷ [])
        ≡ sent o up a (to_each (nodes_of o.bound v.replica.members) (Letter.Admit j s))
        + (when (up j) (owned_on j (with_settled s t)) + 0) =
        sent_work-append o.bound pending_weights up a (to_each (nodes_of o.bound v.replica.members) (Letter.Admit j s))
        (record { to = j; letter = welcome } ∷ []) in
        let members : sent o up a (to_each (nodes_of o.bound v.replica.members) (Letter.Admit j s)) ≡ 0 =
        none_sent o up a v.replica.members (Letter.Admit j s) (λ c i. R.foreign j pairs r m.tested.0 c i) in
        let joiner : when (up j) (owned_on j (with_settled s t)) ≤ owned_on j (with_settled s t) =
        when-le (up j) (owned_on j (with_settled s t)) in
        let brought : owned_on j (with_settled s t) ≤ length pairs = R.brought j pairs r m.tested.0 in
        omega (arith, h, both, members, joiner, brought)
      where
        s : Settled
        s = settle t pairs

        welcome : Letter
        welcome = Letter.Welcome (with_node j v.replica.members) (with_settled s t) v.replica.told s.fate

    passes : (j : ℕ) (pairs : Table) (r : Round) → v.current ≡ Current.Asking (Op.Admission j pairs) r
        → Local (Rules.Passes j pairs r)
    passes j pairs r e =
        let h : plain o up a (record v { current = Current.Free }) + 1 ≤ plain o up a v =
        shift o up a (Current.Asking (Op.Admission j pairs) r) Current.Free 1 v e (omega arith) (λ p x. cc x) in
        let s : sent o up a (to_each (nodes_of o.bound (λ c. asked r c && not (v.replica.told c))) back) ≡ 0 =
        all_light o up a (λ c. asked r c && not (v.replica.told c)) back refl in omega (arith, h, s)

    finishes : (op : Op) (s awaited : Nodes) (reply : Option Reply) → Rules.May o a w (Rules.Finishes op s awaited reply)
        → Local (Rules.Finishes op s awaited reply)
    finishes op s awaited reply m =
        let was : doing v.current ≡ 0 = ap doing m.tested.0 in
        let same : own o up a v.current t ≡ own o up a (Current.Writing op s awaited reply) t =
        ap (λ (c : Current). own o up a c t) m.tested.0 in
        let z : sent o up a (to_each (nodes_of o.bound (λ c. s c && not (v.replica.told c))) back) ≡ 0 =
        all_light o up a (λ c. s c && not (v.replica.told c)) back refl in
        go op reply m.tested.0 was same z
      where
        go : (x : Op) (y : Option Reply) → v.current ≡ Current.Writing x s awaited y → doing v.current ≡ 0
            → own o up a v.current t ≡ own o up a (Current.Writing x s awaited y) t
            → sent o up a (to_each (nodes_of o.bound (λ c. s c && not (v.replica.told c))) back) ≡ 0
            → Pays (done o.bound a x s y (begun v)) 0 0
        go (Op.Name k call) (Some y) e was same z =
            let f : own o up a Current.Free t ≤ own o up a (Current.Writing (Op.Name k call) s awaited (Some y)) t =
            fewer o up a (Current.Writing (Op.Name k call) s awaited (Some y)) Current.Free t (λ p x. cc x) in
            omega (arith, was, same, z, f)
        go (Op.Name k call) None e was same z =
            let f : own o up a Current.Free t ≤ own o up a (Current.Writing (Op.Name k call) s awaited None) t =
            fewer o up a (Current.Writing (Op.Name k call) s awaited None) Current.Free t (λ p x. cc x) in
            omega (arith, was, same, z, f)
        go (Op.Strike p) y e was same z =
            let f : own o up a Current.Free t ≤ own o up a (Current.Writing (Op.Strike p) s awaited y) t =
            unstruck o up a p s awaited y t (R.struck p s awaited y e m.tested.1) in omega (arith, was, same, z, f)
        go (Op.Join k c) y e was same z =
            let f : own o up a Current.Free t ≤ own o up a (Current.Writing (Op.Join k c) s awaited y) t =
            fewer o up a (Current.Writing (Op.Join k c) s awaited y) Current.Free t (λ p x. cc x) in
            omega (arith, was, same, z, f)
        go (Op.Admission j pairs) y e was same z =
            let f : own o up a Current.Free t ≤ own o up a (Current.Writing (Op.Admission j pairs) s awaited y) t =
            fewer o up a (Current.Writing (Op.Admission j pairs) s awaited y) Current.Free t (λ p x. cc x) in
            omega (arith, was, same, z, f)

    -- a change is written
    writes : (f : ℕ) (change : Change) → joins v.queue * 1 ≤ when (f == a) 1 → Local (Rules.Writes f change)
    writes f (Put pair) room =
        let n : own o up a v.current (wrote (Put pair) v.replica).table ≤ own o up a v.current t + when (pair.owner.node == a) 1 =
        put_names o up a v pair in
        let q : queue (wrote (Put pair) v.replica).table v.queue ≤ queue t v.queue + joins v.queue * 1 =
        queue_by t (wrote (Put pair) v.replica).table 1 (put_longer o up a v pair) v.queue in
        let s : sent o up a (record { to = f; letter = Letter.Applied } ∷ []) ≡ 0 =
        one_light o up a f Letter.Applied refl in
        omega (arith, n, q, room, s)
    writes f (Remove x) room =
        let n : own o up a v.current (remove x t) ≤ own o up a v.current t =
        filter-count (λ pair. when (may_strike a v.current pair) 1) (λ pair. not (pair.name == x)) t in
        let l : length (remove x t) ≤ length t = filter-length (λ pair. not (pair.name == x)) t in
        let q : queue (remove x t) v.queue ≤ queue t v.queue + joins v.queue * 0 =
        queue_by t (remove x t) 0 (omega (arith, l)) v.queue in
        let s : sent o up a (record { to = f; letter = Letter.Applied } ∷ []) ≡ 0 =
        one_light o up a f Letter.Applied refl in
        omega (arith, n, q, s)
    writes f (StrikeOwner p) room =
        let n : own o up a v.current (strike p t) ≤ own o up a v.current t =
        filter-count (λ pair. when (may_strike a v.current pair) 1) (λ pair. not (is_process pair.owner p)) t in
        let l : length (strike p t) ≤ length t = filter-length (λ pair. not (is_process pair.owner p)) t in
        let q : queue (strike p t) v.queue ≤ queue t v.queue + joins v.queue * 0 =
        queue_by t (strike p t) 0 (omega (arith, l)) v.queue in
        let s : sent o up a (record { to = f; letter = Letter.Applied } ∷ []) ≡ 0 =
        one_light o up a f Letter.Applied refl in
        omega (arith, n, q, s)

    queues_join : (f : ℕ) (pairs : Table) → Local (Rules.QueuesJoin f pairs)
    queues_join f pairs =
        let q : queue t (v.queue ++ Op.Admission f pairs ∷ []) ≡ queue t v.queue + queue t (Op.Admission f pairs ∷ []) =
        sum_by-append (pending_queued t) v.queue (Op.Admission f pairs ∷ []) in
        let one : queue t (Op.Admission f pairs ∷ []) ≡ (1 + length pairs) + 0 =
        sum_by-cons (pending_queued t) (Op.Admission f pairs) [] in omega (arith, q, one)

    is_admitted : (f j : ℕ) (s : Settled) → joins v.queue ≡ 0 → Local (Rules.IsAdmitted f j s)
    is_admitted f j s none =
        let n : own o up a v.current (admitted a j s v.replica).table ≤ own o up a v.current t + owned_on a s.puts =
        settled_names o up a v j s in
        let q : queue (admitted a j s v.replica).table v.queue ≤ queue t v.queue =
        queue_same t (admitted a j s v.replica).table v.queue none in
        let z : sent o up a (record { to = f; letter = Letter.Applied } ∷ []) ≡ 0 =
        one_light o up a f Letter.Applied refl in
        omega (arith, n, q, z)

    is_welcomed : (f k : ℕ) (members : Nodes) (pairs : Table) (told : Nodes) (fate : Fate) → v.current ≡ Current.Joining k f
        → joins v.queue ≡ 0 → Local (Rules.IsWelcomed f k members pairs told fate)
    is_welcomed f k members pairs told fate e none =
        let n : own o up a Current.Free (welcomed a members pairs told fate v.replica).table ≤ owned_on a pairs =
        welcomed_names o up a v members pairs told fate in
        let q : queue (welcomed a members pairs told fate v.replica).table v.queue ≤ queue t v.queue =
        queue_same t (welcomed a members pairs told fate v.replica).table v.queue none in
        let z : sent o up a (record { to = f; letter = Letter.Applied } ∷ []) ≡ 0 =
        one_light o up a f Letter.Applied refl in
        omega (arith, n, q, z)

    is_told : (f : ℕ) → Local (Rules.IsTold f)
    is_told f =
        let n : own o up a v.current (without (λ c. c == f) t) ≤ own o up a v.current t =
        filter-count (λ pair. when (may_strike a v.current pair) 1) (λ pair. not (pair.owner.node == f)) t in
        let l : length (without (λ c. c == f) t) ≤ length t = filter-length (λ pair. not (pair.owner.node == f)) t in
        let q : queue (without (λ c. c == f) t) v.queue ≤ queue t v.queue + joins v.queue * 0 =
        queue_by t (without (λ c. c == f) t) 0 (omega (arith, l)) v.queue in omega (arith, n, q)

    judges : (f : ℕ) (id : Id) (p : Process) → Local (Rules.Judges f id p)
    judges f id p = go (is_free_for id p v.locks)
      where
        go : (b : Bool) → Pays (send f (Letter.LockAnswer id p b) (if b then with_locks (grant id p) (begun v) else begun v)) 0 0
        go true = let s : sent o up a (record { to = f; letter = Letter.LockAnswer id p true } ∷ []) ≡ 0 =
            one_light o up a f (Letter.LockAnswer id p true) refl in omega (arith, s)
        go false = let s : sent o up a (record { to = f; letter = Letter.LockAnswer id p false } ∷ []) ≡ 0 =
            one_light o up a f (Letter.LockAnswer id p false) refl in omega (arith, s)

    hears_lock : (f : ℕ) (id : Id) (g : Bool) (c : LockCall) (r : Round) → Local (Rules.HearsLock f id g c r)
    hears_lock f id g c r = go (opens f g r)
      where
        go : (b : Bool) → Pays (keep_call (in_phase (LockPhase.Asking (answer f g r)) c)
            (if b then send_all o.bound (λ x. rest r x && not (v.replica.told x)) (Letter.SetLock c.id c.holder) (begun v)
            else begun v)) 0 0
        go true = let s : sent o up a (to_each (nodes_of o.bound (λ x. rest r x && not (v.replica.told x)))
            (Letter.SetLock c.id c.holder)) ≡ 0 =
            all_light o up a (λ x. rest r x && not (v.replica.told x)) (Letter.SetLock c.id c.holder) refl in omega (arith, s)
        go false = omega arith

    gives_up_lock : (c : LockCall) (r : Round) (s : Nodes) → Local (Rules.GivesUpLock c r s)
    gives_up_lock c r s =
        let z : sent o up a (to_each (nodes_of o.bound s) (Letter.GiveBack c.id c.holder false)) ≡ 0 =
        all_light o up a s (Letter.GiveBack c.id c.holder false) refl in go (is_spent c.retries) z
      where
        go : (b : Bool) → sent o up a (to_each (nodes_of o.bound s) (Letter.GiveBack c.id c.holder false)) ≡ 0
            → Pays (if b then close_call o.bound a c false (give_lock o.bound a c s (begun v))
            else keep_call (in_phase LockPhase.Waiting c) (give_lock o.bound a c s (begun v))) 0 0
        go true z = omega (arith, z)
        go false z = omega (arith, z)

    -- each rule of a delivery or a retry
    pub local : (r : Rule) → Rules.May o a w r → is_mild true r ≡ true → Local r
    local (Rules.CallsName call) m e = cc e
    local (Rules.CallsJoin j) m e = cc e
    local Rules.CallsLock m e = cc e
    local Rules.Spawns m e = cc e
    local (Rules.LooksUp look) m e = cc e
    local (Rules.Exits p) m e = cc e
    local Rules.Leaves m e = cc e
    local (Rules.Begins op ops) m e = begins op ops m
    local (Rules.BeginsStrike serial) m e = begins_strike serial m
    local (Rules.Retries op) m e =
        let h : plain o up a (record v { current = Current.Asking op (begin o.bound v.replica.members) }) + 0 ≤ plain o up a v =
        shift o up a (Current.Waiting op) (Current.Asking op (begin o.bound v.replica.members)) 0 v m.tested (omega arith)
        (λ p k. k) in
        let s : sent o up a (Rules.turn_by o a w (Rules.Retries op)).sends ≡ 0 =
        light_sends o up a (Rules.turn_by o a w (Rules.Retries op)).sends refl in omega (arith, h, s)
    local (Rules.AsksJoin k c ops) m e = asks_join k c ops m.tested.0 m.tested.1
    local (Rules.SkipsJoin k c ops) m e = skips_join k c ops m.tested.1
    local (Rules.HearsAnswer f id g op r) m e = hears f id g op r m.tested.1
    local (Rules.MarksDown d op r) m e =
        let h : plain o up a (record v { current = Current.Asking op (down d r) }) + 0 ≤ plain o up a v =
        shift o up a (Current.Asking op r) (Current.Asking op (down d r)) 0 v m.tested.1 (omega arith) (λ p k. k) in
        omega (arith, h)
    local (Rules.GivesUp op r s) m e =
        let h : plain o up a (record v { current = Current.Waiting op }) + 0 ≤ plain o up a v =
        shift o up a (Current.Asking op r) (Current.Waiting op) 0 v m.tested.0 (omega arith) (λ p k. k) in
        let z : sent o up a (to_each (nodes_of o.bound s) back) ≡ 0 = all_light o up a s back refl in omega (arith, h, z)
    local (Rules.Grants k call r) m e = grants k call r m.tested.0.current
    local (Rules.Denies k call r) m e = denies k call r m.tested.0.current
    local (Rules.Strikes p r) m e = strikes_owner p r m.tested.current
    local (Rules.Admits j pairs r) m e = admits j pairs r m
    local (Rules.Passes j pairs r) m e = passes j pairs r m.tested.0.current
    local (Rules.CountsApplied f op s awaited reply) m e =
        let h : plain o up a (record v { current = Current.Writing op s (at awaited f false) reply }) + 0 ≤ plain o up a v =
        shift o up a (Current.Writing op s awaited reply) (Current.Writing op s (at awaited f false) reply) 0 v m.tested.1
        (omega arith) (λ p k. k) in omega (arith, h)
    local (Rules.CountsDown d op s awaited reply) m e =
        let h : plain o up a (record v { current = Current.Writing op s (at awaited d false) reply }) + 0 ≤ plain o up a v =
        shift o up a (Current.Writing op s awaited reply) (Current.Writing op s (at awaited d false) reply) 0 v m.tested.1
        (omega arith) (λ p k. k) in omega (arith, h)
    local (Rules.Finishes op s awaited reply) m e = finishes op s awaited reply m
    local (Rules.Judges f id p) m e = judges f id p
    local (Rules.TakesBack f id p true) m e =
        let s : sent o up a (record { to = f; letter = Letter.GivenBack p } ∷ []) ≡ 0 =
        one_light o up a f (Letter.GivenBack p) refl in
        omega (arith, s)
    local (Rules.TakesBack f id p false) m e = omega arith
    local (Rules.Releases f p) m e = omega arith
    local (Rules.Writes f change) m e = writes f change (R.alone f change m.front.1.0 m.front.1.1 1)
    local (Rules.QueuesJoin f pairs) m e = queues_join f pairs
    local (Rules.RefusesJoin f pairs) m e =
        let s : sent o up a (record { to = f; letter = Letter.JoinRefused } ∷ []) ≡ 0 =
        one_light o up a f Letter.JoinRefused refl in
        omega (arith, s)
    local (Rules.EndsJoin f k) m e =
        let h : plain o up a (record v { current = Current.Free }) + 0 ≤ plain o up a v =
        shift o up a (Current.Joining k f) Current.Free 0 v m.tested.1 (omega arith) (λ p x. cc x) in omega (arith, h)
    local (Rules.Kills f l p receivers) m e =
        let z : sent o up a (to_each (nodes_of o.bound receivers) (Letter.ReleaseOf p)) ≡ 0 =
        all_light o up a receivers (Letter.ReleaseOf p) refl in omega (arith, z)
    local (Rules.IsAdmitted f j s) m e = is_admitted f j s (R.admitted f j s m.front.1.0 m.front.1.1)
    local (Rules.IsWelcomed f k members pairs told fate) m e =
        is_welcomed f k members pairs told fate m.tested.1 (R.welcomed k f m.tested.1)
    local (Rules.IsTold f) m e = is_told f
    local (Rules.LosesContact k c) m e =
        let h : plain o up a (record v { current = Current.Free }) + 0 ≤ plain o up a v =
        shift o up a (Current.Joining k c) Current.Free 0 v m.tested.1 (omega arith) (λ p x. cc x) in omega (arith, h)
    local (Rules.Ignores f l) m e = omega arith
    local (Rules.Drops f l) m e = omega arith
    local (Rules.AsksLock c) m e =
        let z : sent o up a (Rules.turn_by o a w (Rules.AsksLock c)).sends ≡ 0 =
        light_sends o up a (Rules.turn_by o a w (Rules.AsksLock c)).sends refl in omega (arith, z)
    local (Rules.FailsLock c) m e = omega arith
    local (Rules.HearsLock f id g c r) m e = hears_lock f id g c r
    local (Rules.MarksLockDown d c r) m e = omega arith
    local (Rules.WinsLock c r) m e = omega arith
    local (Rules.GivesUpLock c r s) m e = gives_up_lock c r s
    local (Rules.DeletesLock c) m e =
        let z : sent o up a (to_each (nodes_of o.bound (targets v.replica.members c.target)) (Letter.GiveBack c.id c.holder true))
        ≡ 0 = all_light o up a (targets v.replica.members c.target) (Letter.GiveBack c.id c.holder true) refl in omega (arith, z)
    local (Rules.DeletesNothing c) m e = omega arith
    local (Rules.CountsGivenBack f c owing) m e = omega arith
    local (Rules.EndsDeletion f c owing) m e = omega arith
    local (Rules.CountsLockDown d c owing) m e = omega arith
    local (Rules.EndsDeletionDown d c owing) m e = omega arith

    closed : (r : Rule) (x : World) → is_mild true r ≡ true → Rules.closed_by o a r x ≡ x
    closed Rules.Leaves x e = cc e
    closed r x e = refl

    low : in_world o a ≡ true → a < o.bound
    low i = ltb-true a o.bound (and_parts _ (o.nodes a) i).0

    -- a letter that is taken
    taken_node : (x : Option Taken) → (Rules.without_letter o a x w).node a ≡ v
    taken_node None = refl
    taken_node (Some x) = refl

    taken_less : (x : Option Taken) → in_world o a ≡ true → Rules.FrontTaken o a w x
        → total o.bound pending_weights up (Rules.without_letter o a x w) + weight x ≡ total o.bound pending_weights up w
    taken_less None i front = omega arith
    taken_less (Some x) i front = taken_total o.bound pending_weights up x.sender a w x.letter front.1.0
        (ltb-true x.sender o.bound (and_parts _ (o.nodes x.sender) front.0).0) (low i) R.counts front.1.1

    -- what such a rule makes of what is pending
    pub rule_pending : (r : Rule) → Rules.May o a w r → is_mild true r ≡ true
        → total o.bound pending_weights up (Rules.effect o a r w) + decided_one (is_decision r) ≤ total o.bound pending_weights up w
    rule_pending r m e = subst (λ (x : World). total o.bound pending_weights up x + decided_one (is_decision r)
        ≤ total o.bound pending_weights up w) (sym
        (closed r (apply a (Rules.turn_by o a w r) (Rules.without_letter o a (Rules.takes o a r) w)) e))
        (let turn : _ = turn_total o.bound pending_weights up a (Rules.turn_by o a w r)
        (Rules.without_letter o a (Rules.takes o a r) w) (low m.inside) R.counts in
        let less : _ = taken_less (Rules.takes o a r) m.inside m.front in
        let here : _ = local r m e in
        let was : plain o up a ((Rules.without_letter o a (Rules.takes o a r) w).node a) ≡ plain o up a v =
        ap (plain o up a) (taken_node (Rules.takes o a r)) in
        let x : _ = node_is o up a ((Rules.without_letter o a (Rules.takes o a r) w).node a) in
        let y : _ = node_is o up a (Rules.turn_by o a w r).node in
        omega (arith, turn, less, here, was, x, y))
