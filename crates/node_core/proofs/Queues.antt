-- The queue of a registrar: what becomes current of it.
use Rattle.std.proofs.Common.{ℕ, Bool, true, false, ◌≡◌, ◌+◌, ◌≤◌, Option, Some, None, List, [], ◌∷◌, ◌++◌, length, length-append, map, arith, refl, sym, ap, ◌∙◌, subst}
use Rattle.std.specs.Prelude.{if◌then◌else◌, All}
use Rattle.std.proofs.lemmas.List.Elements.{All-head, All-tail}
use Rattle.protocol_model.specs.Event.{is_join}
use Rattle.protocol_model.specs.Node.{Op as AnyOp}
use Rattle.protocol_model.specs.Turn.{Turn, with_queue}
use Rattle.protocol_model.specs.Registrar.{start_queue, ask_join, contact_left}
use Rattle.term.specs.NodeSets.{with_older}
use Rattle.transaction.specs.declared.op.Op.{Op}
use Rattle.transaction.specs.declared.op.Op.TheVariants.{Join}
use Rattle.transaction.specs.Ops.{op_of}
use Rattle.transaction.specs.Work.{Work, started, starts, begins_with_join}
use Rattle.node_events.specs.Made.{Made}
use Rattle.node_core.specs.CoreState.{CoreState, IsWhole, IsOpWithin, IsCurrentWithin, bound_of}
use Rattle.node_core.specs.Rare.{joins_in, Adds}
use Rattle.node_core.specs.Seen.{node_of, turn_of}
use Rattle.node_core.specs.Steps.{Makes}
use Rattle.node_core.proofs.Whole.{IsWorkWithin, whole_at}

-- the queue of h, at t: what it comes to
abbrev pub queue_turn : ℕ → ℕ → CoreState → Made → Turn
queue_turn n a h t = start_queue n a (node_of h).queue (turn_of h t)

-- The loop over the queue, which began with h and t, is at k and u: nothing is current, and it comes to the same
pub record IsAtQueue (h : CoreState) (t : Made) (k : CoreState) (u : Made) : Type 0 where
  pub free : k.registrar.current ≡ None
  pub name : k.name ≡ h.name
  pub world : k.world ≡ h.world
  pub turn : queue_turn (bound_of h.world) h.name k u ≡ queue_turn (bound_of h.world) h.name h t

-- which operations a turn has in its queue is all one to the start of others
queue_is_left : (n a : ℕ) (ops qs : List AnyOp) (u : Turn)
    → start_queue n a ops (with_queue qs u) ≡ start_queue n a ops u
queue_is_left n a [] qs u = refl
queue_is_left n a (AnyOp.Name k c ∷ ops) qs u = refl
queue_is_left n a (AnyOp.Strike p ∷ ops) qs u = refl
queue_is_left n a (AnyOp.Admission j ps ∷ ops) qs u = refl
queue_is_left n a (AnyOp.Join k m ∷ ops) qs u =
    go (u.node.replica.told m) (queue_is_left n a ops qs (contact_left n a k m u))
  where
    go : (b : Bool) → start_queue n a ops (with_queue qs (contact_left n a k m u))
        ≡ start_queue n a ops (contact_left n a k m u)
        → (if b then start_queue n a ops (with_queue qs (contact_left n a k m u))
        else ask_join n a k m (with_queue ops u))
        ≡ (if b then start_queue n a ops (contact_left n a k m u) else ask_join n a k m (with_queue ops u))
    go true e = e
    go false e = refl

-- h is the node in the loop, and w its registrar once it has started what is next
module _ (f h : CoreState) (s t : Made) (w : Work) (at : IsAtQueue f s h t) (begun : w ≡ started None h.registrar) where
  -- the node then
  abbrev node_at : Work → CoreState
  node_at x = record h { registrar = x }

  abbrev n0 : ℕ
  n0 = bound_of f.world

  -- the registrar with these operations, where nothing is current
  abbrev work_of : List Op → Work
  work_of ops = record h.registrar { queue = ops; current = None }

  work_is : h.registrar ≡ work_of h.registrar.queue
  work_is = ap (λ (o : Option Op). let x : Work = record h.registrar { current = o } in x) at.free

  -- op becomes current, and these are left
  record Begins (op : Op) (ops : List Op) : Type 0 where
    work : w ≡ record h.registrar { queue = ops; current = Some op }
    turn : start_queue n0 f.name (op_of op ∷ map op_of ops) (turn_of h t) ≡ queue_turn n0 f.name f s

  begins : starts None h.registrar ≡ true → (op : Op) → w.current ≡ Some op → (ops : List Op) × Begins op ops
  begins some op cur = go h.registrar.queue refl (sym (ap (starts None) work_is) ∙ some)
    where
      go : (ops : List Op) → h.registrar.queue ≡ ops → starts None (work_of ops) ≡ true → (xs : List Op) × Begins op xs
      go [] e yes_ = cc
      go (o ∷ ops) e yes_ = (
        ops,
        record {
          work = is ∙ ap (λ (x : Op). let y : Work = record h.registrar { queue = ops; current = Some x } in y) same;
          turn = ap (λ (x : Op). start_queue n0 f.name (op_of x ∷ map op_of ops) (turn_of h t)) (sym same)
              ∙ ap (λ (xs : List Op). start_queue n0 f.name (map op_of xs) (turn_of h t)) (sym e) ∙ at.turn;
        },
      )
        where
          is : w ≡ record h.registrar { queue = ops; current = Some o }
          is = begun ∙ ap (started None) (work_is ∙ ap work_of e)

          same : o ≡ op
          same = let p : ◌≡◌ {A = Option Op} (Some o) (Some op) = sym (ap (λ (x : Work). x.current) is) ∙ cur in cc

  -- a join ends whose contact has left, and the loop goes on
  pub goes_on_at : (w2 : Work) (u : Made) (i m : ℕ) → starts None h.registrar ≡ true → w.current ≡ Some (Join i m)
      → with_older h.told m ≡ true → w2 ≡ record w { current = None; awaited = [] }
      → Makes (λ n a. contact_left n a i m) (node_at w2) t (node_at w2) u → IsAtQueue f s (node_at w2) u
  goes_on_at w2 u i m some cur gone ended M =
      let b = begins some (Join i m) cur in
      let is : w2 ≡ record h.registrar { queue = b.0; current = None; awaited = [] } =
      ended ∙ ap (λ (x : Work). let y : Work = record x { current = None; awaited = [] } in y) b.1.work in
      record {
        free = ap (λ (x : Work). x.current) ended;
        name = at.name;
        world = at.world;
        turn = ap (start_queue n0 f.name (map op_of w2.queue)) (M.turn
            ∙ ap (λ (a : ℕ). contact_left n0 a i m (turn_of (node_at w2) t)) at.name)
            ∙ ap (λ (x : Work). start_queue n0 f.name (map op_of x.queue)
            (contact_left n0 f.name i m (turn_of (node_at x) t))) is
            ∙ ap (λ (o : Option Op). start_queue n0 f.name (map op_of b.0) (contact_left n0 f.name i m
            (with_queue (map op_of b.0) (turn_of (node_at (record h.registrar { current = o })) t)))) (sym at.free)
            ∙ queue_is_left n0 f.name (map op_of b.0) (map op_of b.0) (contact_left n0 f.name i m (turn_of h t))
            ∙ ap (λ (y : Bool). if y
            then start_queue n0 f.name (map op_of b.0) (contact_left n0 f.name i m (turn_of h t))
            else ask_join n0 f.name i m (with_queue (map op_of b.0) (turn_of h t))) (sym gone) ∙ b.1.turn;
      }

  -- a join whose contact hasn't left begins, and the loop ends
  pub asks_at : (k : CoreState) (u : Made) (i m : ℕ) → starts None h.registrar ≡ true → w.current ≡ Some (Join i m)
      → with_older h.told m ≡ false → Makes (λ n a. ask_join n a i m) (node_at w) t k u
      → Makes (λ n a v. start_queue n a v.node.queue v) f s k u
  asks_at k u i m some cur here M =
      let b = begins some (Join i m) cur in
      record {
        name = M.name ∙ at.name;
        world = M.world ∙ at.world;
        turn = M.turn
            ∙ ap (λ (ws : List ℕ). ask_join (bound_of ws) h.name i m (turn_of (node_at w) t)) at.world
            ∙ ap (λ (a : ℕ). ask_join n0 a i m (turn_of (node_at w) t)) at.name
            ∙ ap (λ (x : Work). ask_join n0 f.name i m (turn_of (node_at x) t)) b.1.work
            ∙ ap (λ (y : Bool). if y
            then start_queue n0 f.name (map op_of b.0) (contact_left n0 f.name i m (turn_of h t))
            else ask_join n0 f.name i m (with_queue (map op_of b.0) (turn_of h t))) (sym here) ∙ b.1.turn;
      }

-- of what was started, all that it knows of has started
started_within : (h : CoreState) (w : Work) → IsWhole h → w ≡ started None h.registrar → IsWorkWithin h.world w
started_within h w whole begun = subst (IsWorkWithin h.world) (sym begun)
    (go h.registrar.current h.registrar.queue whole.current whole.queue)
  where
    go : (cur : Option Op) (ops : List Op) → IsCurrentWithin h.world cur → All (IsOpWithin h.world) ops
        → IsWorkWithin h.world (started None (record h.registrar { queue = ops; current = cur }))
    go None [] c q = record { queue = q; current = tt; awaited = whole.awaited }
    go None (op ∷ ops) c q = record {
      queue = All-tail (IsOpWithin h.world) op ops q;
      current = All-head (IsOpWithin h.world) op ops q;
      awaited = whole.awaited;
    }
    go (Some op) ops c q = record { queue = q; current = c; awaited = whole.awaited }

-- the next operation is current
pub whole_started : (h : CoreState) (w : Work) → IsWhole h → w ≡ started None h.registrar
    → IsWhole (record h { registrar = w })
whole_started h w whole begun = whole_at h w whole (started_within h w whole begun)

-- and has ended
pub whole_freed : (h : CoreState) (w w2 : Work) → IsWhole h → w ≡ started None h.registrar
    → w2 ≡ record w { current = None; awaited = [] } → IsWhole (record h { registrar = w2 })
whole_freed h w w2 whole begun ended = whole_at h w2 whole (subst (IsWorkWithin h.world) (sym ended) (record {
  queue = (started_within h w whole begun).queue;
  current = tt;
  awaited = λ c e. cc;
}))

-- the contact of the join that was started has started
pub contact_within : (h : CoreState) (w : Work) (i m : ℕ) → IsWhole h → w ≡ started None h.registrar
    → w.current ≡ Some (Join i m) → with_older h.world m ≡ true
contact_within h w i m whole begun cur = subst (IsCurrentWithin h.world) cur (started_within h w whole begun).current

-- a join that becomes current stood at the front
pub join_first : (r w : Work) (i m : ℕ) → r.current ≡ None → w ≡ started None r → w.current ≡ Some (Join i m)
    → begins_with_join r.queue ≡ true
join_first r w i m free begun cur = go r.queue (sym (ap (λ (x : Work). x.current) (begun ∙ ap (started None) same)) ∙ cur)
  where
    same : r ≡ record r { current = None }
    same = ap (λ (o : Option Op). let x : Work = record r { current = o } in x) free

    go : (ops : List Op) → (started None (record r { queue = ops; current = None })).current ≡ Some (Join i m)
        → begins_with_join ops ≡ true
    go [] e = cc
    go (op ∷ ops) e = ap (λ (o : Option Op). joins o) e
      where
        joins : Option Op → Bool
        joins None = false
        joins (Some o) = is_join (op_of o)

-- one operation less waits where one becomes current of the queue
pub one_less : (r w : Work) → r.current ≡ None → w ≡ started None r → starts None r ≡ true
    → length w.queue + 1 ≡ length r.queue
one_less r w free begun some =
    ap (λ (x : Work). length x.queue + 1) (begun ∙ ap (started None) same)
    ∙ go r.queue (ap (starts None) (sym same) ∙ some)
  where
    same : r ≡ record r { current = None }
    same = ap (λ (o : Option Op). let x : Work = record r { current = o } in x) free

    go : (ops : List Op) → starts None (record r { queue = ops; current = None }) ≡ true
        → length (started None (record r { queue = ops; current = None })).queue + 1 ≡ length ops
    go [] e = cc
    go (op ∷ ops) e = omega arith

-- what was made while joins at the front were answered
pub few_joins : (q r : List Op) (t u : Made) → length u.entries + length r ≤ length t.entries + length q
    → length u.answers + length r ≤ length t.answers + length q → (begins_with_join q ≡ false → u ≡ t)
    → Adds (joins_in q) (joins_in q) t u
few_joins q r t u es ss first = go (begins_with_join q) refl
  where
    go : (b : Bool) → begins_with_join q ≡ b
        → Adds (if b then length q else 0) (if b then length q else 0) t u
    go true e = record { entries = omega arith; answers = omega arith }
    go false e = subst (λ (v : Made). Adds 0 0 t v) (sym (first e)) (record { entries = omega arith; answers = omega arith })

-- an operation that is no join goes to the back
pub next_stays : (q : List Op) (op : Op) → begins_with_join q ≡ false → is_join (op_of op) ≡ false
    → begins_with_join (q ++ op ∷ []) ≡ false
next_stays [] op e other = other
next_stays (o ∷ q) op e other = e

-- and one more at most may be a join that is answered at once
pub one_join_more : (q : List Op) (op : Op) → joins_in (q ++ op ∷ []) ≤ joins_in q + 1
one_join_more [] op = go (is_join (op_of op))
  where
    go : (b : Bool) → (if b then length (op ∷ []) else 0) ≤ 0 + 1
    go true = omega arith
    go false = omega arith
one_join_more (o ∷ q) op = go (is_join (op_of o))
  where
    go : (b : Bool) → (if b then length (o ∷ (q ++ op ∷ [])) else 0) ≤ (if b then length (o ∷ q) else 0) + 1
    go true = grind (arith, length-append)
    go false = omega arith
