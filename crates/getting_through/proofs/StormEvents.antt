-- Registrars ask again along deliveries and retries: once no letter waits one of their operations is decided.
use mathlib.Core.Logic.{◌⊎◌}
use Rattle.std.proofs.Common.{ℕ, Bool, true, false, ◌==◌, ◌≡◌, ◌<◌, ◌≤◌, ◌+◌, Option, Some, None, List, [], ◌∷◌, ◌++◌, refl, sym, ap, subst, ◌∙◌, inl, inr, arith}
use Rattle.std.specs.Prelude.{not, ◌&&◌, is_none, fold, if◌then◌else◌}
use Rattle.std.specs.List.{list_all}
use Rattle.std.proofs.lemmas.List.Folds.{list_all-append}
use Rattle.registry_model.specs.Process.{Process, Nodes}
use Rattle.registry_model.proofs.Updates.{at_same}
use Rattle.protocol_model.specs.Letter.{Letter, Global, Client, Id}
use Rattle.protocol_model.specs.LockTable.{Locks}
use Rattle.protocol_model.specs.Node.{Node, Op, Current, LockPhase, LockCall, targets}
use Rattle.protocol_model.specs.Round.{is_empty, begin, is_granted}
use Rattle.protocol_model.specs.Turn.{Turn, begun}
use Rattle.protocol_model.specs.Registrar.{start_free, start, retry_global}
use Rattle.protocol_model.specs.Client.{one_less, close_call, ask_lock, try_lock, retry_in, retry_locks}
use Rattle.protocol_model.specs.Event.{Event, Refusal}
use Rattle.protocol_model.specs.World.{Opening, in_world, World, left, WorldEvent, At, Deliver, refusal, accepted, turn_of, happens, run}
use Rattle.protocol_model.specs.Course.{global_given}
use Rattle.protocol_model.proofs.Waiting.{accepted-node}
use Rattle.no_dead_end.proofs.Indices.{both, neither}
use Rattle.no_dead_end.proofs.Invariants.{Each, IsUp}
use Rattle.no_dead_end.proofs.Rules
use Rattle.no_dead_end.proofs.Rules.{Rule, is_quiet}
use Rattle.walk.proofs.ChainKinds.{is_allowed}
use Rattle.walk.proofs.Runs.{happens-accepted}
use Rattle.walk.proofs.Walk.{OrderedWalk, walked_in_order}
use Rattle.no_dead_end.proofs.Base.{is_leave, effect-turn}
use Rattle.no_dead_end.proofs.LockTables.{globals, share}
use Rattle.no_dead_end.proofs.Sessions.{Stage, Session, fits, mark_in, requests_at, answers_at, share_at, found, request_in}
use Rattle.no_dead_end.proofs.Sessions
use Rattle.no_dead_end.proofs.Families.{Whole}
use Rattle.no_dead_end.proofs.Grounds.{Base, base_keeps, wide}
use Rattle.no_dead_end.proofs.LocksTold.{nobody_keeps_the_global_lock}
use Rattle.no_dead_end.proofs.Quiet.{at_ease, registrars, still}
use Rattle.no_dead_end.specs.Weights.{total}
use Rattle.no_dead_end.proofs.AdmitsJoined.{AdmitsJoined, keeps, along_ready}
use Rattle.getting_through.specs.Pending.{pending_weights, pending}
use Rattle.getting_through.proofs.PendingRules.{decided_one, rule_pending}
use Rattle.getting_through.proofs.Storm.{is_mild, is_decision, Plain, Still, IsAt, Before, Asking, Again, Active, Held, Asked, Decided, decided_on, parts_self, boss}
use Rattle.getting_through.proofs.StormRules.{step}
use Rattle.no_dead_end.specs.Worlds.{of_nodes, IsQuiet, running}
use Rattle.no_dead_end.specs.Clauses.{world}

-- nobody leaves by such a rule
pub mild_stays : (b : Bool) (r : Rule) → is_mild b r ≡ true → is_leave r ≡ false
mild_stays b Rules.Leaves h = cc h
mild_stays b r h = refl

-- a node that may be retried keeps to what any may
mild_more : (b : Bool) (r : Rule) → is_mild b r ≡ true → is_mild true r ≡ true
mild_more b (Rules.Retries op) h = refl
mild_more b r h = h

-- no rule of a delivery or a retry raises what is pending
pub lower : (o : Opening) (t : ℕ) (v : World) → Base o v → AdmitsJoined o v → (r : Rule) → Rules.May o t v r → is_mild true r ≡ true
    → pending (of_nodes o) (Rules.effect o t r v) + decided_one (is_decision r) ≤ pending (of_nodes o) v
lower o t v B G r m h = subst (λ (s : Nodes). total o.bound pending_weights (λ c. in_world o c && not (s c)) (Rules.effect o t r v)
    + decided_one (is_decision r) ≤ pending (of_nodes o) v) (ap left (effect-turn o t v r (mild_stays true r h)))
    (rule_pending o (running o v) t v (along_ready o t v v (record { base = B; admissions = G; stays = refl }) m.inside m.running)
    r m h)

-- rules of a delivery, and of a retry
mild_by_letter : (b : Bool) (r : Rule) → is_quiet r ≡ true → is_allowed true r ≡ true → is_mild b r ≡ true
mild_by_letter b (Rules.CallsName call) q l = cc q
mild_by_letter b (Rules.CallsJoin m) q l = cc q
mild_by_letter b Rules.CallsLock q l = cc q
mild_by_letter b Rules.Spawns q l = cc q
mild_by_letter b (Rules.LooksUp look) q l = cc q
mild_by_letter b (Rules.Exits p) q l = cc q
mild_by_letter b (Rules.Retries op) q l = cc l
mild_by_letter b Rules.Leaves q l = cc q
mild_by_letter b r q l = refl

pub mild_letters : (b : Bool) (rs : List Rule) → list_all is_quiet rs ≡ true → list_all (is_allowed true) rs ≡ true
    → list_all (is_mild b) rs ≡ true
mild_letters b [] q l = refl
mild_letters b (r ∷ rs) q l =
    let p : (is_quiet r ≡ true) × (list_all is_quiet rs ≡ true) = both (is_quiet r) (list_all is_quiet rs) q in
    let k : (is_allowed true r ≡ true) × (list_all (is_allowed true) rs ≡ true) =
    both (is_allowed true r) (list_all (is_allowed true) rs) l in
    rw (mild_by_letter b r p.0 k.0, mild_letters b rs p.1 k.1) refl

pub mild_first : (o : Opening) (b : Bool) (t f : ℕ) (ls : List Letter)
    → list_all (is_mild b) (Rules.first_by_letter o t f ls) ≡ true
mild_first o b t f (Letter.Down ∷ ls) = refl
mild_first o b t f [] = refl
mild_first o b t f (l ∷ ls) = refl

mild_quiet : (r : Rule) → is_quiet r ≡ true → is_mild true r ≡ true
mild_quiet (Rules.CallsName call) q = cc q
mild_quiet (Rules.CallsJoin m) q = cc q
mild_quiet Rules.CallsLock q = cc q
mild_quiet Rules.Spawns q = cc q
mild_quiet (Rules.LooksUp look) q = cc q
mild_quiet (Rules.Exits p) q = cc q
mild_quiet Rules.Leaves q = cc q
mild_quiet r q = refl

pub mild_again : (rs : List Rule) → list_all is_quiet rs ≡ true → list_all (is_mild true) rs ≡ true
mild_again [] q = refl
mild_again (r ∷ rs) q =
    let p : (is_quiet r ≡ true) × (list_all is_quiet rs ≡ true) = both (is_quiet r) (list_all is_quiet rs) q in
    rw (mild_quiet r p.0, mild_again rs p.1) refl

-- whom nobody granted the global lock has no share of it
pub none_shared : (b : ℕ) (t : Locks) → global_given t b ≡ false → share b (globals t) ≡ None
none_shared b [] e = refl
none_shared b (g ∷ t) e = head g.id g.holder g.count e (λ h. none_shared b t h)
  where
    head : (i : Id) (p : Process) (k : ℕ) → global_given (record { id = i; holder = p; count = k } ∷ t) b ≡ false
        → (global_given t b ≡ false → share b (globals t) ≡ None)
        → share b (globals (record { id = i; holder = p; count = k } ∷ t)) ≡ None
    head (Client r z) p k h more = more h
    head (Global c) p k h more = let parts : ((c == b) ≡ false) × (global_given t b ≡ false) =
        neither (c == b) (global_given t b) h in
        rw parts.0 (more parts.1)

-- retries of lock calls leave what the registrar is at
module _ (n a : ℕ) where
  tried : (c : LockCall) (u : Turn) → (try_lock n a c u).node.current ≡ u.node.current
  tried c u = go (is_empty n (targets u.node.replica.members c.target))
    where
      go : (b : Bool) → (if b then close_call n a c false u
          else ask_lock n a c (targets u.node.replica.members c.target) u).node.current
          ≡ u.node.current
      go true = refl
      go false = refl

  one_retried : (p : LockPhase) (c : LockCall) (u : Turn) → (retry_in n a p c u).node.current ≡ u.node.current
  one_retried LockPhase.Waiting c u = tried (record c { retries = one_less c.retries }) u
  one_retried (LockPhase.Asking r) c u = refl
  one_retried (LockPhase.Deleting owing) c u = refl

  all_retried : (cs : List LockCall) (u : Turn) → (fold (λ turn c. retry_in n a c.phase c turn) u cs).node.current ≡ u.node.current
  all_retried [] u = refl
  all_retried (c ∷ cs) u = all_retried cs (retry_in n a c.phase c u) ∙ one_retried c.phase c u

  -- so who was refused asks then
  pub asks_again : (op : Op) (v : Node) → v.current ≡ Current.Waiting op
      → (start n a (retry_locks n a (retry_global n a v.current (begun v)))).node.current
      ≡ Current.Asking op (begin n v.replica.members)
  asks_again op v e = ap (λ (c : Current). (start_free n a c u).node.current) asks ∙ asks
    where
      u : Turn
      u = retry_locks n a (retry_global n a v.current (begun v))

      asks : u.node.current ≡ Current.Asking op (begin n v.replica.members)
      asks = all_retried (retry_global n a v.current (begun v)).node.calls (retry_global n a v.current (begun v))
          ∙ ap (λ (c : Current). (retry_global n a c (begun v)).node.current) e

-- a letter is delivered, or a node that may be is retried
abbrev pub is_stormy : Nodes → WorldEvent → Bool
is_stormy may (Deliver f t) = true
is_stormy may (At c Event.Retry) = may c
is_stormy may _ = false

module _ (o : Opening) (w : World) (W : Whole o w) (Q : IsQuiet (of_nodes o) w) (ops : ℕ → Option Op) (may : Nodes)
    (retries : (c : ℕ) (x : Op) → may c ≡ true → (w.node c).current ≡ Current.Waiting x → ops c ≡ Some x) (b : ℕ)
    (up_b : IsUp o w b) (limit : ℕ) where
  -- something was decided, and less is pending
  abbrev pub Less : World → Type 0
  Less v = Decided o w ops v × (pending (of_nodes o) v < limit)

  -- what is known of a world behind it, in which so much is pending at most, and less once something was decided; where it is
  -- hot somebody asks b, or has the lock there
  pub record Known (hot : Bool) (v : World) : Type 0 where
    pub base : Base o v
    pub admissions : AdmitsJoined o v
    pub stay : left v ≡ left w
    pub most : pending (of_nodes o) v ≤ limit
    pub state : (Still o w ops v × ((c : ℕ) → IsAt o w ops c v) × (hot ≡ true → Active o w ops b v)) ⊎ Less v

  chain_on : (hot : Bool) (t : ℕ) (rs : List Rule) (v : World) → Known hot v → Rules.MayAll o t rs v
      → list_all (is_mild (may t)) rs ≡ true
      → Known hot (Rules.effects o t rs v)
  chain_on hot t [] v k m h = k
  chain_on hot t (r ∷ rs) v k m h =
      let p : (is_mild (may t) r ≡ true) × (list_all (is_mild (may t)) rs ≡ true) =
      both (is_mild (may t) r) (list_all (is_mild (may t)) rs) h in
      let B : Base o (Rules.effect o t r v) = base_keeps o t v r k.base m.0 in
      let less : pending (of_nodes o) (Rules.effect o t r v) + decided_one (is_decision r) ≤ pending (of_nodes o) v =
      lower o t v k.base k.admissions r m.0 (mild_more (may t) r p.0) in
      let before : pending (of_nodes o) v ≤ limit = k.most in
      chain_on hot t rs (Rules.effect o t r v) (record {
        base = B;
        admissions = keeps o t v r k.base B m.0 k.admissions;
        stay = sym (ap left (effect-turn o t v r (mild_stays (may t) r p.0))) ∙ k.stay;
        most = omega (arith, less, before);
        state = on k.state p.0 less;
      }) m.1 p.1
    where
      on : (Still o w ops v × ((c : ℕ) → IsAt o w ops c v) × (hot ≡ true → Active o w ops b v)) ⊎ Less v
          → is_mild (may t) r ≡ true → pending (of_nodes o) (Rules.effect o t r v) + decided_one (is_decision r) ≤ pending (of_nodes o) v
          → (Still o w ops (Rules.effect o t r v) × ((c : ℕ) → IsAt o w ops c (Rules.effect o t r v))
          × (hot ≡ true → Active o w ops b (Rules.effect o t r v))) ⊎ Less (Rules.effect o t r v)
      on (inl s) mild less = elim (step o w W Q ops may retries v k.base s.0 s.1 t (m.0.inside, m.0.running) r m.0 mild) [
        | inl n ↦ inl (n.0, n.1, λ h. n.2 b up_b (s.2 h))
        | inr d ↦ let one : decided_one (is_decision r) ≡ 1 = ap decided_one d.1 in let before : pending (of_nodes o) v ≤ limit = k.most in
            inr (d.0, omega (arith, less, one, before))
      ]
      on (inr d) mild less = let before : pending (of_nodes o) v < limit = d.1 in
          inr (decided_on o w ops t v r d.0, omega (arith, less, before))

  event_on : (hot : Bool) (e : WorldEvent) → is_stormy may e ≡ true → (v : World) → Known hot v → Known hot (happens o v e)
  event_on hot (Deliver f t) s v k = go (refusal o v (Deliver f t)) refl
    where
      go : (x : Option Refusal) → refusal o v (Deliver f t) ≡ x → Known hot (if is_none x then accepted o v (Deliver f t) else v)
      go (Some x) e = k
      go None e =
          let h : OrderedWalk o v (Deliver f t) = walked_in_order o v (Deliver f t) k.base.ordered (wide o v k.base) e in
          subst (Known hot) h.walk.world (chain_on hot t (Rules.first_by_letter o t f (v.links.queue f t) ++ h.walk.rest) v k
          h.walk.may
          (list_all-append (is_mild (may t)) (Rules.first_by_letter o t f (v.links.queue f t)) h.walk.rest
          ∙ ap (λ (c : Bool). c && list_all (is_mild (may t)) h.walk.rest) (mild_first o (may t) t f (v.links.queue f t))
          ∙ mild_letters (may t) h.walk.rest h.walk.quiet h.allowed))
  event_on hot (At c Event.Retry) s v k = go (refusal o v (At c Event.Retry)) refl
    where
      go : (x : Option Refusal) → refusal o v (At c Event.Retry) ≡ x
          → Known hot (if is_none x then accepted o v (At c Event.Retry) else v)
      go (Some x) e = k
      go None e =
          let h : OrderedWalk o v (At c Event.Retry) = walked_in_order o v (At c Event.Retry) k.base.ordered (wide o v k.base) e in
          subst (Known hot) h.walk.world (chain_on hot c h.walk.rest v k h.walk.may
          (subst (λ (z : Bool). list_all (is_mild z) h.walk.rest ≡ true) (sym s) (mild_again h.walk.rest h.walk.quiet)))
  event_on hot (At c (Event.Calling x)) s v k = cc s
  event_on hot (At c (Event.Exiting p)) s v k = cc s
  event_on hot (At c Event.Leave) s v k = cc s

  pub run_on : (hot : Bool) (fs : List WorldEvent) → list_all (is_stormy may) fs ≡ true → (v : World) → Known hot v
      → Known hot (run o v fs)
  run_on hot [] s v k = k
  run_on hot (e ∷ fs) s v k =
      let p : (is_stormy may e ≡ true) × (list_all (is_stormy may) fs ≡ true) =
      both (is_stormy may e) (list_all (is_stormy may) fs) s in
      run_on hot fs p.1 (happens o v e) (event_on hot e p.0 v k)

  -- a retry of one that was refused makes its group hot
  pub heated : (a : ℕ) (op : Op) → may a ≡ true → (w.node a).current ≡ Current.Waiting op → boss o w ops a ≡ b → (v : World)
      → Known false v
      → refusal o v (At a Event.Retry) ≡ None → Known true (happens o v (At a Event.Retry))
  heated a op allowed waits home v k h = go k.state
    where
      next : Known false (happens o v (At a Event.Retry))
      next = event_on false (At a Event.Retry) allowed v k

      asks : (y : Op) → (v.node a).current ≡ Current.Waiting y
          → ((happens o v (At a Event.Retry)).node a).current ≡ Current.Asking y (begin o.bound (v.node a).replica.members)
      asks y e = ap (λ (u : World). (u.node a).current) (happens-accepted o v (At a Event.Retry) h)
          ∙ ap (λ (f : ℕ → Node). (f a).current) (accepted-node o v (At a Event.Retry))
          ∙ ap (λ (u : Node). u.current) (at_same v.node a (turn_of o v (At a Event.Retry)).node)
          ∙ asks_again o.bound a y (v.node a) e

      begins : (y : Op) → (v.node a).current ≡ Current.Waiting y → Known true (happens o v (At a Event.Retry))
      begins y e = record {
        base = next.base;
        admissions = next.admissions;
        stay = next.stay;
        most = next.most;
        state = by next.state;
      }
        where
          u : World
          u = happens o v (At a Event.Retry)

          by : (Still o w ops u × ((c : ℕ) → IsAt o w ops c u) × (false ≡ true → Active o w ops b u)) ⊎ Less u
              → (Still o w ops u × ((c : ℕ) → IsAt o w ops c u) × (true ≡ true → Active o w ops b u)) ⊎ Less u
          by (inr d) = inr d
          by (inl s) = inl (s.0, s.1, λ z. at (s.1 a))
            where
              at : IsAt o w ops a u → Active o w ops b u
              at (Before i) = cc (asks y e, i, waits)
              at (Again x m i) = cc (asks y e, i)
              at (Asking x r i R A) = subst (λ (c : ℕ). Active o w ops c u) home A

      go : (Still o w ops v × ((c : ℕ) → IsAt o w ops c v) × (false ≡ true → Active o w ops b v)) ⊎ Less v
          → Known true (happens o v (At a Event.Retry))
      go (inr d) = event_on true (At a Event.Retry) allowed v (record {
        base = k.base;
        admissions = k.admissions;
        stay = k.stay;
        most = k.most;
        state = inr d;
      })
      go (inl s) = at (s.1 a)
        where
          at : IsAt o w ops a v → Known true (happens o v (At a Event.Retry))
          at (Before i) = begins op (i ∙ waits)
          at (Again x m i) = begins x i
          at (Asking x r i R A) = event_on true (At a Event.Retry) allowed v (record {
            base = k.base;
            admissions = k.admissions;
            stay = k.stay;
            most = k.most;
            state = inl (s.0, s.1, λ z. subst (λ (c : ℕ). Active o w ops c v) home A);
          })

  -- once no letter waits again one of them is decided, and less is pending
  pub decided_at_last : (v : World) (V : Whole o v) (q : IsQuiet (of_nodes o) v) → Known true v → Less v
  decided_at_last v V q k = go k.state
    where
      is_up : (c : ℕ) → IsUp o w c → IsUp o v c
      is_up c u = (u.0, ap (λ (s : Nodes). s c) k.stay ∙ u.1)

      -- nobody asks or has the lock
      cold : Still o w ops v → Active o w ops b v → ⊥
      cold C (Asked r u some) = some (ap (found request_in) (q r b u.0 (is_up b up_b)))
      cold C (Held x n e) = by (in_world o x) refl (left w x) refl
        where
          by : (i : Bool) → in_world o x ≡ i → (g : Bool) → left w x ≡ g → ⊥
          by false i g j = cc (C.locks b (is_up b up_b) x (λ u. cc (u.0, i)), e)
          by true i true j = cc (C.locks b (is_up b up_b) x (λ u. cc (u.1, j)), e)
          by true i false j = unmarked (v.node x).current (registrars o v V q x (is_up x (i, j)))
              (granted P.0 (sym P.1.share ∙ e) P.2 P.3 (mark_in (v.node x).current b) P.1.mark)
            where
              P : (s : Stage) × Session v x b s × (requests_at s ≡ []) × (answers_at s ≡ [])
              P = still o v V q x b (is_up x (i, j)) (is_up b up_b)

              granted : (s : Stage) → share_at s ≡ Some n → requests_at s ≡ [] → answers_at s ≡ [] → (m : _) → fits s m ≡ true
                  → is_granted m ≡ true
              granted Sessions.HasGrant h y z m f = f
              granted Sessions.Returning h y z m f = cc y
              granted Sessions.AskedAgain h y z m f = cc y
              granted Sessions.GrantComing h y z m f = cc z
              granted Sessions.Free h y z m f = cc h
              granted Sessions.Asked h y z m f = cc h
              granted Sessions.RefusalComing h y z m f = cc h
              granted Sessions.HasRefusal h y z m f = cc h

              unmarked : (c : Current) → at_ease o v V q c ≡ true → is_granted (mark_in c b) ≡ true → ⊥
              unmarked Current.Free y z = cc z
              unmarked (Current.Waiting x) y z = cc z
              unmarked (Current.Joining x m) y z = cc z
              unmarked (Current.Asking x r) y z = cc y
              unmarked (Current.Writing x s awaited reply) y z = cc y

      go : (Still o w ops v × ((c : ℕ) → IsAt o w ops c v) × (true ≡ true → Active o w ops b v)) ⊎ Less v → Less v
      go (inr d) = d
      go (inl s) = absurd (cold s.0 (s.2 refl))

-- Where nothing waits all stands as it does
pub still_first : (o : Opening) (es : List WorldEvent) (Q : IsQuiet (of_nodes o) (world o es)) (ops : ℕ → Option Op)
    → Still o (world o es) ops (world o es)
still_first o es Q ops = record {
  stay = refl;
  parts = λ c. parts_self ((world o es).node c);
  letters = λ f c inside up. subst (Each (Plain o (world o es) ops f c)) (sym (Q f c inside up)) tt;
  locks = λ c up d out. none_shared d ((world o es).node c).locks (nobody_keeps_the_global_lock o es c d Q up);
  history = refl;
}
