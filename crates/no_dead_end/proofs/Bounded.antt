-- The work of a world is bounded by how much there is in it. n: as many nodes as count, or more.
use Rattle.std.proofs.Common.{ℕ, Bool, true, false, ◌==◌, ◌≡◌, ◌<◌, ◌≤◌, ◌+◌, ◌*◌, List, [], ◌∷◌, refl, ap, arith}
use Rattle.std.specs.Prelude.{length, ◌&&◌}
use Rattle.std.specs.List.{sum_by}
use Rattle.std.proofs.Math.Nat.{mul-le-mul_right}
use Rattle.std.proofs.lemmas.List.Sums.{sum_by-cons}
use Rattle.registry_model.specs.Process.{Process, Nodes, nodes_of}
use Rattle.registry_model.specs.Table.{Pair, Table, Change, Put, Remove, StrikeOwner}
use Rattle.registry_model.specs.Call.{NameCall}
use Rattle.protocol_model.specs.Round.{Mark, Out, Later, Owes, Granted, Refused, Lost, Gone, Round}
use Rattle.protocol_model.specs.Letter.{Letter}
use Rattle.protocol_model.specs.Node.{Node, Op, Current, LockPhase, LockCall}
use Rattle.protocol_model.specs.World.{Opening, World, opening_world, run}
use Rattle.named_events.proofs.Grounds.{Base}
use Rattle.no_dead_end.specs.Weights.{sum_below, when, Weights, may_strike, of_link, of_round, of_current, of_phase, of_node, of_place, total}
use Rattle.no_dead_end.specs.Work.{is_put, owned_on, live_on, mark_work, put_work, undecided_work, queued_work, change_work, letter_work, work_weights, size, may_die}
use Rattle.no_dead_end.specs.Units.{units_of_op, units_of_current, units_of_node, units_of_letter, all_units, WorkIsBounded}
use Rattle.no_dead_end.proofs.Sums.{sum-le, sum-term, sum-each, sum-times, when-le}
use Rattle.no_dead_end.proofs.TableWork.{filter-length}
use Rattle.no_dead_end.proofs.LetterWork.{joins}
use Rattle.no_dead_end.proofs.Premises.{one_join}
use Rattle.no_dead_end.proofs.AdmitsJoined.{known}
use Rattle.no_dead_end.proofs.Deliveries.{running_few}
use Rattle.named_events.specs.Worlds.{running}
use Rattle.named_events.specs.Clauses.{Always}

-- a list counts as much as its items
all_most : {X : Type 0} (f g : X → ℕ) (k : ℕ) → ((x : X) → f x ≤ g x * k) → (xs : List X) → sum_by f xs ≤ sum_by g xs * k
all_most f g k h [] = omega arith
all_most f g k h (x ∷ xs) =
    let more : sum_by f xs ≤ sum_by g xs * k = all_most f g k h xs in let one : f x ≤ g x * k = h x in
    let a : sum_by f (x ∷ xs) ≡ f x + sum_by f xs = sum_by-cons f x xs in
    let c : sum_by g (x ∷ xs) * k ≡ (g x + sum_by g xs) * k = ap (λ (m : ℕ). m * k) (sum_by-cons g x xs) in
    omega (arith, more, one, a, c)

each_most : {X : Type 0} (f : X → ℕ) (k : ℕ) → ((x : X) → f x ≤ k) → (xs : List X) → sum_by f xs ≤ length xs * k
each_most f k h [] = omega arith
each_most f k h (x ∷ xs) = let more : sum_by f xs ≤ length xs * k = each_most f k h xs in let one : f x ≤ k = h x in
    let a : sum_by f (x ∷ xs) ≡ f x + sum_by f xs = sum_by-cons f x xs in omega (arith, more, one, a)

module _ (n : ℕ) (some : 0 < n) where
  put_most : (call : NameCall) → 2 * n + when (is_put call) (put_work n) ≤ 13 * n
  put_most call = go (is_put call)
    where
      go : (t : Bool) → 2 * n + when t (put_work n) ≤ 13 * n
      go true = omega arith
      go false = omega arith

  undecided_most : (op : Op) → 3 * n + undecided_work n op ≤ units_of_op op * (16 * n)
  undecided_most (Op.Name k call) = let h : 2 * n + when (is_put call) (put_work n) ≤ 13 * n = put_most call in omega (arith, h)
  undecided_most (Op.Strike p) = omega arith
  undecided_most (Op.Admission j pairs) = omega arith
  undecided_most (Op.Join k m) = omega arith

  -- a queue, with the table that each join of it takes along
  queue_most : (t : Table) (ops : List Op)
      → sum_by (queued_work n t) ops ≤ sum_by units_of_op ops * (16 * n) + joins ops * (length t * (6 * n))
  queue_most t [] = omega arith
  queue_most t (op ∷ ops) =
      let first : sum_by (queued_work n t) (op ∷ ops) ≡ queued_work n t op + sum_by (queued_work n t) ops =
      sum_by-cons (queued_work n t) op ops in
      let second : sum_by units_of_op (op ∷ ops) * (16 * n) ≡ (units_of_op op + sum_by units_of_op ops) * (16 * n) =
      ap (λ (m : ℕ). m * (16 * n)) (sum_by-cons units_of_op op ops) in
      by op first second (queue_most t ops) (undecided_most op)
    where
      by : (x : Op) → sum_by (queued_work n t) (x ∷ ops) ≡ queued_work n t x + sum_by (queued_work n t) ops
          → sum_by units_of_op (x ∷ ops) * (16 * n) ≡ (units_of_op x + sum_by units_of_op ops) * (16 * n)
          → sum_by (queued_work n t) ops ≤ sum_by units_of_op ops * (16 * n) + joins ops * (length t * (6 * n))
          → 3 * n + undecided_work n x ≤ units_of_op x * (16 * n)
          → sum_by (queued_work n t) (x ∷ ops) ≤ sum_by units_of_op (x ∷ ops) * (16 * n) + joins (x ∷ ops) * (length t * (6 * n))
      by (Op.Name k call) p q h i = omega (arith, p, q, h, i)
      by (Op.Strike s) p q h i = omega (arith, p, q, h, i)
      by (Op.Admission j pairs) p q h i = omega (arith, p, q, h, i)
      by (Op.Join k m) p q h i = omega (arith, p, q, h, some)

  change_most : (f c : ℕ) (change : Change) → 2 + change_work n f c change ≤ 16 * n
  change_most f c (Put pair) = go (pair.owner.node == c) (f == c)
    where
      go : (s t : Bool) → 2 + (when s (5 * n) + when t (6 * n)) ≤ 16 * n
      go true true = omega (arith, some)
      go true false = omega (arith, some)
      go false true = omega (arith, some)
      go false false = omega (arith, some)
  change_most f c (Remove x) = omega (arith, some)
  change_most f c (StrikeOwner p) = omega (arith, some)

  letter_most : (alive : Process → Bool) (f c : ℕ) (l : Letter) → letter_work n alive f c l ≤ units_of_letter l * (16 * n)
  letter_most alive f c (Letter.SetLock id p) = omega (arith, some)
  letter_most alive f c (Letter.LockAnswer id p g) = omega (arith, some)
  letter_most alive f c (Letter.GiveBack id p true) = omega (arith, some)
  letter_most alive f c (Letter.GiveBack id p false) = omega (arith, some)
  letter_most alive f c (Letter.GivenBack p) = omega (arith, some)
  letter_most alive f c (Letter.ReleaseOf p) = omega (arith, some)
  letter_most alive f c (Letter.Apply change) = let h : 2 + change_work n f c change ≤ 16 * n = change_most f c change in
      omega (arith, h)
  letter_most alive f c Letter.Applied = omega (arith, some)
  letter_most alive f c (Letter.JoinAsk pairs) = omega (arith, some)
  letter_most alive f c Letter.JoinRefused = omega (arith, some)
  letter_most alive f c (Letter.Admit j s) =
      let puts : owned_on c s.puts * (5 * n) ≤ length s.puts * (5 * n) =
      mul-le-mul_right (5 * n) (filter-length (λ (pair : Pair). pair.owner.node == c) s.puts) in
      let kills : live_on alive c s.fate.kills * n ≤ length s.fate.kills * n =
      mul-le-mul_right n (filter-length (λ (p : Process). (p.node == c) && alive p) s.fate.kills) in
      omega (arith, some, puts, kills)
  letter_most alive f c (Letter.Welcome members pairs told fate) =
      let names : owned_on c pairs * (5 * n) ≤ length pairs * (5 * n) =
      mul-le-mul_right (5 * n) (filter-length (λ (pair : Pair). pair.owner.node == c) pairs) in
      let kills : live_on alive c fate.kills * n ≤ length fate.kills * n =
      mul-le-mul_right n (filter-length (λ (p : Process). (p.node == c) && alive p) fate.kills) in
      omega (arith, some, names, kills)
  letter_most alive f c Letter.Down = omega (arith, some)

  module _ (b : ℕ) (alive : Process → Bool) (up : Nodes) (few : length (nodes_of b up) ≤ n) where
    abbrev W : Weights
    W = work_weights n alive

    round_most : (r : Round) → of_round b W up r ≤ 3 * n
    round_most r =
        let le : of_round b W up r ≤ sum_below b (λ c. when (up c) 3) =
        sum-le b (λ c. when (up c) (mark_work (r.mark c))) (λ c. when (up c) 3) (λ c l. one (up c) (r.mark c)) in
        let count : sum_below b (λ c. when (up c) 3) ≡ length (nodes_of b up) * 3 = sum-each b up 3 in omega (arith, le, count, few)
      where
        one : (t : Bool) (m : Mark) → when t (mark_work m) ≤ when t 3
        one false m = omega arith
        one true Out = omega arith
        one true Later = omega arith
        one true Owes = omega arith
        one true Granted = omega arith
        one true Refused = omega arith
        one true Lost = omega arith
        one true Gone = omega arith

    current_most : (c : Current) → of_current b W up c ≤ units_of_current c * (16 * n)
    current_most (Current.Asking op r) = let h : of_round b W up r ≤ 3 * n = round_most r in
        let i : 3 * n + undecided_work n op ≤ units_of_op op * (16 * n) = undecided_most op in omega (arith, h, i)
    current_most (Current.Waiting op) = let i : 3 * n + undecided_work n op ≤ units_of_op op * (16 * n) = undecided_most op in
        omega (arith, i)
    current_most (Current.Writing op asked awaited reply) =
        let le : sum_below b (λ c. when (up c && asked c) 1) ≤ sum_below b (λ c. when (up c) 1) =
        sum-le b (λ c. when (up c && asked c) 1) (λ c. when (up c) 1) (λ c l. one (up c) (asked c)) in
        let count : sum_below b (λ c. when (up c) 1) ≡ length (nodes_of b up) * 1 = sum-each b up 1 in
        let i : 3 * n + undecided_work n op ≤ units_of_op op * (16 * n) = undecided_most op in omega (arith, le, count, few, i)
      where
        one : (t s : Bool) → when (t && s) 1 ≤ when t 1
        one true true = omega arith
        one true false = omega arith
        one false s = omega arith
    current_most Current.Free = omega arith
    current_most (Current.Joining k m) = omega arith

    phase_most : (p : LockPhase) → of_phase b W up p ≤ 16 * n
    phase_most (LockPhase.Asking r) = let h : of_round b W up r ≤ 3 * n = round_most r in omega (arith, h)
    phase_most LockPhase.Waiting = omega arith
    phase_most (LockPhase.Deleting owing) = omega arith

    -- a node in whose queue one join waits at most
    node_most : (c : ℕ) (v : Node) → joins v.queue ≤ 1 → of_node b W up c v ≤ units_of_node v * (16 * n)
    node_most c v one =
        let at : of_current b W up v.current ≤ units_of_current v.current * (16 * n) = current_most v.current in
        let queue : sum_by (queued_work n v.replica.table) v.queue
        ≤ sum_by units_of_op v.queue * (16 * n) + joins v.queue * (length v.replica.table * (6 * n)) =
        queue_most v.replica.table v.queue in
        let join : joins v.queue * (length v.replica.table * (6 * n)) ≤ 1 * (length v.replica.table * (6 * n)) =
        mul-le-mul_right (length v.replica.table * (6 * n)) one in
        let names : sum_by (λ pair. when (may_strike c v.current pair) (5 * n)) v.replica.table
        ≤ length v.replica.table * (5 * n) =
        each_most (λ pair. when (may_strike c v.current pair) (5 * n)) (5 * n)
        (λ pair. when-le (may_strike c v.current pair) (5 * n)) v.replica.table in
        let calls : sum_by (λ (call : LockCall). of_phase b W up call.phase) v.calls ≤ length v.calls * (16 * n) =
        each_most (λ (call : LockCall). of_phase b W up call.phase) (16 * n) (λ call. phase_most call.phase) v.calls in
        omega (arith, at, queue, join, names, calls)

    -- with its letters
    place_most : (w : World) (c : ℕ) → joins (w.node c).queue ≤ 1 → of_place b W up w c
        ≤ (units_of_node (w.node c) + sum_below b (λ f. sum_by units_of_letter (w.links.queue f c))) * (16 * n)
    place_most w c one =
        let here : of_node b W up c (w.node c) ≤ units_of_node (w.node c) * (16 * n) = node_most c (w.node c) one in
        let links : sum_below b (λ f. of_link W f c (w.links.queue f c))
        ≤ sum_below b (λ f. sum_by units_of_letter (w.links.queue f c) * (16 * n)) =
        sum-le b (λ f. of_link W f c (w.links.queue f c)) (λ f. sum_by units_of_letter (w.links.queue f c) * (16 * n))
        (λ f l. all_most (letter_work n alive f c) units_of_letter (16 * n) (letter_most alive f c) (w.links.queue f c)) in
        let times : sum_below b (λ f. sum_by units_of_letter (w.links.queue f c) * (16 * n))
        ≡ sum_below b (λ f. sum_by units_of_letter (w.links.queue f c)) * (16 * n) =
        sum-times b (λ f. sum_by units_of_letter (w.links.queue f c)) (16 * n) in
        omega (arith, here, links, times)

module _ (o : Opening) (n : ℕ) (up : Nodes) (few : length (nodes_of o.bound up) ≤ n) (w : World) where
  -- where one counts there is room for it
  some_up : (c : ℕ) → c < o.bound → up c ≡ true → 0 < n
  some_up c l e =
      let one : when (up c) 1 ≤ sum_below o.bound (λ x. when (up x) 1) = sum-term o.bound (λ x. when (up x) 1) c l in
      let count : sum_below o.bound (λ x. when (up x) 1) ≡ length (nodes_of o.bound up) * 1 = sum-each o.bound up 1 in
      let here : when (up c) 1 ≡ 1 = ap (λ (t : Bool). when t 1) e in omega (arith, one, count, here, few)

  pub bounded : ((c : ℕ) → joins (w.node c).queue ≤ 1)
      → total o.bound (work_weights n (may_die w)) up w ≤ all_units o.bound up w * (16 * n)
  bounded once =
      let le : total o.bound (work_weights n (may_die w)) up w ≤ sum_below o.bound (λ c. when (up c) (there c) * (16 * n)) =
      sum-le o.bound (λ c. when (up c) (of_place o.bound (work_weights n (may_die w)) up w c))
      (λ c. when (up c) (there c) * (16 * n))
      (λ c l. go c l (up c) refl) in
      let times : sum_below o.bound (λ c. when (up c) (there c) * (16 * n)) ≡ all_units o.bound up w * (16 * n) =
      sum-times o.bound (λ c. when (up c) (there c)) (16 * n) in
      omega (arith, le, times)
    where
      there : ℕ → ℕ
      there c = units_of_node (w.node c) + sum_below o.bound (λ f. sum_by units_of_letter (w.links.queue f c))

      go : (c : ℕ) → c < o.bound → (t : Bool) → up c ≡ t
          → when t (of_place o.bound (work_weights n (may_die w)) up w c) ≤ when t (there c) * (16 * n)
      go c l true e = place_most n (some_up c l e) o.bound (may_die w) up few w c (once c)
      go c l false e = omega arith

-- at most one join waits in a queue
pub joins_most : (o : Opening) (w : World) → Base o w → (c : ℕ) → joins (w.node c).queue ≤ 1
joins_most o w B c = one_join (w.node c).queue (B.all.joins.once c).queue

pub work_is_bounded : Always WorkIsBounded
work_is_bounded o es =
    bounded o (size o) (running o (run o (opening_world o) es)) (running_few o (run o (opening_world o) es))
    (run o (opening_world o) es)
    (λ c. joins_most o (run o (opening_world o) es) (known o es).base c)
