-- Registrars get free: a world is settled by deliveries, and by a retry for each refused registrar that is left, one at a time.
use mathlib.Core.Logic.{◌⊎◌}
use Rattle.std.proofs.Common.{ℕ, zero, suc, Bool, true, false, ◌≡◌, ◌<◌, ◌≤◌, ◌+◌, Option, Some, None, List, [], ◌∷◌, ◌++◌, refl, sym, ap, subst, ◌∙◌, inl, inr, arith}
use Rattle.std.specs.Prelude.{◌&&◌, ◌||◌, is_none, filter, length, if◌then◌else◌}
use Rattle.std.specs.List.{list_all, list_any}
use Rattle.std.proofs.lemmas.Bool.{and_parts, ltb-true, cases_eq}
use Rattle.std.proofs.lemmas.List.{length-append}
use Rattle.std.proofs.lemmas.List.Elements.{filter-append}
use Rattle.std.proofs.lemmas.List.Folds.{list_all-append}
use Rattle.protocol_model.specs.Node.{Op, Current}
use Rattle.protocol_model.specs.Event.{Event, Refusal, is_waiting, is_waiting_call, can_retry}
use Rattle.protocol_model.specs.World.{Opening, in_world, World, left, WorldEvent, At, Deliver, opening_world, refusal, accepted, happens, run, next_delivery, deliveries_left}
use Rattle.protocol_model.specs.Delivering.{IsFirstDelivery}
use Rattle.protocol_model.specs.Course.{course}
use Rattle.protocol_model.specs.Quiet.{Runs}
use Rattle.protocol_model.proofs.Courses.{run-append}
use Rattle.protocol_model.proofs.Deliveries.{delivers_the_first}
use Rattle.no_dead_end.proofs.Indices.{both}
use Rattle.no_dead_end.proofs.Rules
use Rattle.no_dead_end.proofs.Rules.{Rule}
use Rattle.walk.proofs.Walk.{OrderedWalk, walked_in_order}
use Rattle.no_dead_end.proofs.Grounds.{Base, base_keeps, wide, Both, both_event}
use Rattle.no_dead_end.specs.Work.{work}
use Rattle.no_dead_end.specs.Answering.{NameCallsAreAnswered}
use Rattle.no_dead_end.proofs.AdmitsJoined.{AdmitsJoined, keeps, known}
use Rattle.no_dead_end.proofs.CallsAnswered.{rest_is_free, settled_worlds_answer}
use Rattle.no_dead_end.proofs.Deliveries.{settles}
use Rattle.no_dead_end.proofs.QuietWorlds.{quiet_worlds_rest}
use Rattle.getting_through.specs.Pending.{pending}
use Rattle.getting_through.specs.GettingThrough.{IsStorm}
use Rattle.getting_through.specs.GettingFree.{is_retry, retries, Storms, Calm, Storm, PendingStays, StormsAreFew, FewRetriesFree}
use Rattle.getting_through.proofs.Storm.{is_mild, is_decision}
use Rattle.getting_through.proofs.PendingRules.{decided_one}
use Rattle.getting_through.proofs.StormEvents.{mild_letters, mild_first, mild_again, lower}
use Rattle.getting_through.proofs.Laws.{someone_gets_through}
use Rattle.no_dead_end.specs.Worlds.{of_nodes, OfNodes, IsQuiet, IsSettled, is_delivery_or_retry}
use Rattle.no_dead_end.specs.Clauses.{Always, world}

-- retries of two lists
retries_append : (xs ys : List WorldEvent) → retries (xs ++ ys) ≡ retries xs + retries ys
retries_append xs ys = ap length (filter-append is_retry xs ys) ∙ length-append (filter is_retry xs) (filter is_retry ys)

-- a node of these whose registrar was refused, if there is one
abbrev pub Refused : (ℕ → Type 0) → World → Type 0
Refused Up v = (c : ℕ) × (op : Op) × Up c × ((v.node c).current ≡ Current.Waiting op)

abbrev pub NoneBelow : (ℕ → Type 0) → ℕ → World → Type 0
NoneBelow Up n v = (c : ℕ) (op : Op) → c < n → Up c → (v.node c).current ≡ Current.Waiting op → ⊥

pub refused_below : (Up : ℕ → Type 0) → ((c : ℕ) → Up c ⊎ (Up c → ⊥)) → (v : World) (n : ℕ) → Refused Up v ⊎ NoneBelow Up n v
refused_below Up is v zero = inr (λ c op l u e. absurd (omega (arith, l)))
refused_below Up is v (suc n) = elim (refused_below Up is v n) [
  | inl f ↦ inl f
  | inr none ↦ here none (is n) (v.node n).current refl
]
  where
    others : NoneBelow Up n v → ((op : Op) → Up n → (v.node n).current ≡ Current.Waiting op → ⊥) → NoneBelow Up (suc n) v
    others none at c op l u e = elim (cases_eq c n) [
      | inl same ↦ at op (subst Up same u) (ap (λ (y : ℕ). (v.node y).current) (sym same) ∙ e)
      | inr ne ↦ none c op (omega (arith, l, ne)) u e
    ]

    here : NoneBelow Up n v → (Up n ⊎ (Up n → ⊥)) → (x : Current) → (v.node n).current ≡ x → Refused Up v ⊎ NoneBelow Up (suc n) v
    here none (inr out) x g = inr (others none (λ op u k. out u))
    here none (inl u) (Current.Waiting op) g = inl (n, op, u, g)
    here none (inl u) Current.Free g = inr (others none (λ op u k. cc (k, g)))
    here none (inl u) (Current.Joining i m) g = inr (others none (λ op u k. cc (k, g)))
    here none (inl u) (Current.Asking x r) g = inr (others none (λ op u k. cc (k, g)))
    here none (inl u) (Current.Writing x s awaited reply) g = inr (others none (λ op u k. cc (k, g)))

module _ (o : Opening) where
  abbrev Kept : World → Type 0
  Kept v = Both o (AdmitsJoined o) (keeps o) v

  -- What is pending stays below what it was
  chain_stays : (t : ℕ) (rs : List Rule) (v : World) → Kept v → Rules.MayAll o t rs v → list_all (is_mild true) rs ≡ true
      → pending (of_nodes o) (Rules.effects o t rs v) ≤ pending (of_nodes o) v
  chain_stays t [] v k m h = omega arith
  chain_stays t (r ∷ rs) v k m h =
      let p : (is_mild true r ≡ true) × (list_all (is_mild true) rs ≡ true) =
      both (is_mild true r) (list_all (is_mild true) rs) h in
      let B : Base o (Rules.effect o t r v) = base_keeps o t v r k.base m.0 in
      let less : pending (of_nodes o) (Rules.effect o t r v) + decided_one (is_decision r) ≤ pending (of_nodes o) v =
      lower o t v k.base k.here r m.0 p.0 in
      let more : pending (of_nodes o) (Rules.effects o t rs (Rules.effect o t r v)) ≤ pending (of_nodes o) (Rules.effect o t r v) =
      chain_stays t rs (Rules.effect o t r v) (record { base = B; here = keeps o t v r k.base B m.0 k.here }) m.1 p.1 in
      omega (arith, less, more)

  event_stays : (e : WorldEvent) → is_delivery_or_retry e ≡ true → (v : World) → Kept v → refusal o v e ≡ None
      → pending (of_nodes o) (accepted o v e) ≤ pending (of_nodes o) v
  event_stays (Deliver f t) s v k e =
      let h : OrderedWalk o v (Deliver f t) = walked_in_order o v (Deliver f t) k.base.ordered (wide o v k.base) e in
      subst (λ (x : World). pending (of_nodes o) x ≤ pending (of_nodes o) v) h.walk.world
      (chain_stays t (Rules.first_by_letter o t f (v.links.queue f t) ++ h.walk.rest) v k h.walk.may
      (list_all-append (is_mild true) (Rules.first_by_letter o t f (v.links.queue f t)) h.walk.rest
      ∙ ap (λ (c : Bool). c && list_all (is_mild true) h.walk.rest) (mild_first o true t f (v.links.queue f t))
      ∙ mild_letters true h.walk.rest h.walk.quiet h.allowed))
  event_stays (At c Event.Retry) s v k e =
      let h : OrderedWalk o v (At c Event.Retry) = walked_in_order o v (At c Event.Retry) k.base.ordered (wide o v k.base) e in
      subst (λ (x : World). pending (of_nodes o) x ≤ pending (of_nodes o) v) h.walk.world
      (chain_stays c h.walk.rest v k h.walk.may (mild_again h.walk.rest h.walk.quiet))
  event_stays (At c (Event.Calling x)) s v k e = cc s
  event_stays (At c (Event.Exiting p)) s v k e = cc s
  event_stays (At c Event.Leave) s v k e = cc s

  happens_stays : (e : WorldEvent) → is_delivery_or_retry e ≡ true → (v : World) → Kept v
      → (pending (of_nodes o) (happens o v e) ≤ pending (of_nodes o) v) × Kept (happens o v e)
  happens_stays e s v k = go (refusal o v e) refl
    where
      go : (x : Option Refusal) → refusal o v e ≡ x → (pending (of_nodes o) (if is_none x then accepted o v e else v) ≤ pending (of_nodes o) v)
          × Kept (if is_none x then accepted o v e else v)
      go (Some x) h = (omega arith, k)
      go None h = (event_stays e s v k h, both_event o (AdmitsJoined o) (keeps o) v e k h)

  run_stays : (fs : List WorldEvent) → list_all is_delivery_or_retry fs ≡ true → (v : World) → Kept v
      → pending (of_nodes o) (run o v fs) ≤ pending (of_nodes o) v
  run_stays [] s v k = omega arith
  run_stays (e ∷ fs) s v k =
      let p : (is_delivery_or_retry e ≡ true) × (list_all is_delivery_or_retry fs ≡ true) =
      both (is_delivery_or_retry e) (list_all is_delivery_or_retry fs) s in
      let h : (pending (of_nodes o) (happens o v e) ≤ pending (of_nodes o) v) × Kept (happens o v e) = happens_stays e p.0 v k in
      let more : pending (of_nodes o) (run o (happens o v e) fs) ≤ pending (of_nodes o) (happens o v e) = run_stays fs p.1 (happens o v e) h.1 in
      let one : pending (of_nodes o) (happens o v e) ≤ pending (of_nodes o) v = h.0 in omega (arith, one, more)

  -- what is left to deliver is deliveries
  abbrev Deliveries : List WorldEvent → Type 0
  Deliveries fs = (list_all is_delivery_or_retry fs ≡ true) × (retries fs ≡ 0)

  left_delivers : (most : ℕ) (v : World) → Deliveries (deliveries_left o most v)
  left_delivers zero v = (refl, refl)
  left_delivers (suc most) v = go (next_delivery o v) refl (λ d. left_delivers most (happens o v d))
    where
      go : (x : Option WorldEvent) → next_delivery o v ≡ x
          → ((d : WorldEvent) → Deliveries (deliveries_left o most (happens o v d)))
          → Deliveries (elim x [ None ↦ [] | Some e ↦ e ∷ deliveries_left o most (happens o v e) ])
      go None e more = (refl, refl)
      go (Some d) e more = let F : IsFirstDelivery o v d = (delivers_the_first o v).some d e in
          subst (λ (x : WorldEvent). Deliveries (x ∷ deliveries_left o most (happens o v d))) (sym F.delivery) (more d)

  is_running : (v : World) (c : ℕ) → Runs o v c ⊎ (Runs o v c → ⊥)
  is_running v c = go (in_world o c) refl (left v c) refl
    where
      go : (i : Bool) → in_world o c ≡ i → (l : Bool) → left v c ≡ l → Runs o v c ⊎ (Runs o v c → ⊥)
      go true e false f = inl (e, f)
      go false e l f = inr (λ u. cc (u.0, e))
      go true e true f = inr (λ u. cc (u.1, f))

  -- it may be retried
  pub may_retry : (v : World) (a : ℕ) (op : Op) → Runs o v a → (v.node a).current ≡ Current.Waiting op
      → refusal o v (At a Event.Retry) ≡ None
  may_retry v a op up e = rw (up.0, up.1, can) refl
    where
      can : can_retry (v.node a) ≡ true
      can = ap (λ (c : Current). is_waiting c || list_any (λ c. is_waiting_call c.phase) (v.node a).calls) e

  -- Events behind which a world is settled
  abbrev Freed : List WorldEvent → Type 0
  Freed es = (fs : List WorldEvent) × (list_all is_delivery_or_retry fs ≡ true) × (retries fs ≤ pending (of_nodes o) (world o es))
      × IsSettled (of_nodes o) (run o (world o es) fs)

  none_left : (es : List WorldEvent) → IsQuiet (of_nodes o) (world o es) → NoneBelow (Runs o (world o es)) o.bound (world o es) → Freed es
  none_left es Q none = (
    [],
    refl,
    omega arith,
    record {
      quiet = Q;
      retried = λ c op u e. none c op (ltb-true c o.bound (and_parts _ (o.nodes c) u.0).0) u e;
    },
  )

  join : (es fs : List WorldEvent) → list_all is_delivery_or_retry fs ≡ true → Freed (es ++ fs)
      → retries fs + pending (of_nodes o) (world o (es ++ fs)) ≤ pending (of_nodes o) (world o es) → Freed es
  join es fs k R le = (
    fs ++ R.0,
    list_all-append is_delivery_or_retry fs R.0 ∙ ap (λ (b : Bool). b && list_all is_delivery_or_retry R.0) k ∙ R.1,
    (let few : retries R.0 ≤ pending (of_nodes o) (world o (es ++ fs)) = R.2 in
        let all : retries (fs ++ R.0) ≡ retries fs + retries R.0 = retries_append fs R.0 in omega (arith, few, all, le)),
    subst (IsSettled (of_nodes o)) (ap (λ (v : World). run o v R.0) (run-append o (opening_world o) es fs)
        ∙ sym (run-append o (world o es) fs R.0)) R.3,
  )

  -- a refused registrar is retried in a quiet world, and letters are delivered until none waits
  module _ (es : List WorldEvent) (Q : IsQuiet (of_nodes o) (world o es)) (f : Refused (Runs o (world o es)) (world o es)) where
    abbrev again : WorldEvent
    again = At f.0 Event.Retry

    abbrev asked : World
    asked = happens o (world o es) again

    abbrev rest : List WorldEvent
    rest = deliveries_left o (work o asked) asked

    allowed : refusal o (world o es) again ≡ None
    allowed = may_retry (world o es) f.0 f.1 f.2 f.3

    quiet : IsQuiet (of_nodes o) (run o asked rest)
    quiet = settles o (work o asked) asked (happens_stays again refl (world o es) (known o es)).1 (omega arith)

    less : pending (of_nodes o) (run o (world o es) (again ∷ rest)) < pending (of_nodes o) (world o es)
    less = (someone_gets_through o es f.0 f.1 [] rest f.2 f.3 (record {
      before = Q;
      first = refl;
      accepted = allowed;
      later = (left_delivers (work o asked) asked).0;
      behind = quiet;
    })).5

    same : world o (es ++ again ∷ rest) ≡ run o (world o es) (again ∷ rest)
    same = run-append o (opening_world o) es (again ∷ rest)

  -- so all are free in the end, from a quiet world
  quietly : (n : ℕ) (es : List WorldEvent) → IsQuiet (of_nodes o) (world o es) → pending (of_nodes o) (world o es) ≤ n → Freed es
  quietly zero es Q l = elim (refused_below (Runs o (world o es)) (is_running (world o es)) (world o es) o.bound) [
    | inl f ↦ let h : pending (of_nodes o) (run o (world o es) (again es Q f ∷ rest es Q f)) < pending (of_nodes o) (world o es) = less es Q f in
        absurd (omega (arith, h, l))
    | inr none ↦ none_left es Q none
  ]
  quietly (suc n) es Q l = elim (refused_below (Runs o (world o es)) (is_running (world o es)) (world o es) o.bound) [
    | inl f ↦
        let h : pending (of_nodes o) (run o (world o es) (again es Q f ∷ rest es Q f)) < pending (of_nodes o) (world o es) = less es Q f in
        let now : pending (of_nodes o) (world o (es ++ again es Q f ∷ rest es Q f))
        ≡ pending (of_nodes o) (run o (world o es) (again es Q f ∷ rest es Q f)) =
        ap (pending (of_nodes o)) (same es Q f) in
        let D : Deliveries (rest es Q f) = left_delivers (work o (asked es Q f)) (asked es Q f) in
        let none : retries (rest es Q f) ≡ 0 = D.1 in
        join es (again es Q f ∷ rest es Q f) D.0
        (quietly n (es ++ again es Q f ∷ rest es Q f) (subst (IsQuiet (of_nodes o)) (sym (same es Q f)) (quiet es Q f))
        (omega (arith, h, now, l)))
        (omega (arith, h, now, none))
    | inr none ↦ none_left es Q none
  ]

  -- and from any
  freed : (es : List WorldEvent) → Freed es
  freed es = join es ds D.0 (quietly (pending (of_nodes o) (world o (es ++ ds))) (es ++ ds)
      (subst (IsQuiet (of_nodes o)) (sym there) (settles o (work o (world o es)) (world o es) (known o es) (omega arith))) (omega arith))
      (let none : retries ds ≡ 0 = D.1 in
      let now : pending (of_nodes o) (world o (es ++ ds)) ≡ pending (of_nodes o) (run o (world o es) ds) = ap (pending (of_nodes o)) there in
      let less : pending (of_nodes o) (run o (world o es) ds) ≤ pending (of_nodes o) (world o es) = run_stays ds D.0 (world o es) (known o es) in
      omega (arith, none, now, less))
    where
      ds : List WorldEvent
      ds = deliveries_left o (work o (world o es)) (world o es)

      D : Deliveries ds
      D = left_delivers (work o (world o es)) (world o es)

      there : world o (es ++ ds) ≡ run o (world o es) ds
      there = run-append o (opening_world o) es ds

-- so it is of every world that events can reach
pub pending_never_rises : OfNodes PendingStays
pending_never_rises o es fs s = run_stays o fs s (world o es) (known o es)

pub registrars_get_free : Always FewRetriesFree
registrars_get_free o es = (
  F.0,
  record {
    kinds = F.1;
    settled = F.3;
    free = λ c up. (rests c up).0;
    idle = λ c up. (rests c up).1;
    answered = subst (λ (v : World). NameCallsAreAnswered (Runs o v) (course o (opening_world o) (es ++ F.0))) there
        (settled_worlds_answer o (es ++ F.0) settled);
  },
  F.2,
)
  where
    F : Freed o es
    F = freed o es

    there : world o (es ++ F.0) ≡ run o (world o es) F.0
    there = run-append o (opening_world o) es F.0

    settled : IsSettled (of_nodes o) (world o (es ++ F.0))
    settled = subst (IsSettled (of_nodes o)) (sym there) F.3

    rests : (c : ℕ) → Runs o (run o (world o es) F.0) c
        → (((run o (world o es) F.0).node c).current ≡ Current.Free) × (((run o (world o es) F.0).node c).queue ≡ [])
    rests c up = subst (λ (v : World). Runs o v c → ((v.node c).current ≡ Current.Free) × ((v.node c).queue ≡ [])) there
        (λ u. rest_is_free (Runs o (world o (es ++ F.0))) (world o (es ++ F.0)) c settled.retried u
        ((quiet_worlds_rest o (es ++ F.0) settled.quiet).registrars c u)) up

-- Whichever refused registrar is retried, there are no more such retries than are pending
module _ (o : Opening) where
  abbrev pub Lowers : World → Type 0
  Lowers v = (a : ℕ) (op : Op) (xs ys : List WorldEvent) → Runs o v a → (v.node a).current ≡ Current.Waiting op
      → IsStorm (of_nodes o) v a xs ys → pending (of_nodes o) (run o v (xs ++ At a Event.Retry ∷ ys)) < pending (of_nodes o) v

  pub lowers : (es : List WorldEvent) (v : World) → v ≡ world o es → Lowers v
  lowers es v e = subst Lowers (sym e) (λ a op xs ys up waits S. (someone_gets_through o es a op xs ys up waits S).5)

  few_storms : (es : List WorldEvent) (v : World) (n : ℕ) → v ≡ world o es → Storms (of_nodes o) v n → n ≤ pending (of_nodes o) v
  few_storms es v n e (Calm w) = omega arith
  few_storms es v n e (Storm w m a op xs ys up waits S more) =
      let less : pending (of_nodes o) (run o v (xs ++ At a Event.Retry ∷ ys)) < pending (of_nodes o) v = lowers es v e a op xs ys up waits S in
      let rest : m ≤ pending (of_nodes o) (run o v (xs ++ At a Event.Retry ∷ ys)) =
      few_storms (es ++ (xs ++ At a Event.Retry ∷ ys)) (run o v (xs ++ At a Event.Retry ∷ ys)) m
      (ap (λ (x : World). run o x (xs ++ At a Event.Retry ∷ ys)) e
      ∙ sym (run-append o (opening_world o) es (xs ++ At a Event.Retry ∷ ys))) more in omega (arith, less, rest)

pub storms_are_few : OfNodes StormsAreFew
storms_are_few o es n S = few_storms o es (world o es) n refl S
