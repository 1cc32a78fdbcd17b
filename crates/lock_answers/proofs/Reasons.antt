-- Along the rules of a step a bad mark in p's round, a denial on its way to p, or that p's call waits for a retry, means
-- that something happened for which p's try may fail.
use mathlib.Core.Logic.{◌⊎◌}
use Rattle.std.proofs.Common.{ℕ, Bool, true, false, ◌≡◌, ◌<◌, Some, [], ◌∷◌, refl, sym, ap, ◌∙◌, subst, arith, inl, inr}
use Rattle.std.specs.Prelude.{not, ◌&&◌, ◌||◌, nat_lt, if◌then◌else◌}
use Rattle.std.proofs.lemmas.Bool.Decides.{nat_tests}
use Rattle.std.proofs.Math.Bool.{and-true}
use Rattle.registry_model.specs.Process.{Process, Nodes, is_process}
use Rattle.protocol_model.specs.Letter.{Id, Letter, is_id}
use Rattle.protocol_model.proofs.Ids.{is_id_self}
use Rattle.protocol_model.specs.LockTable.{is_free_for, grant}
use Rattle.protocol_model.specs.Round.{Round, asked, is_over, GiveBack, ending}
use Rattle.protocol_model.specs.Watch.{is_dead}
use Rattle.protocol_model.specs.Node.{LockPhase, LockCall}
use Rattle.protocol_model.specs.Event.{is_waiting_call}
use Rattle.protocol_model.specs.Turn.{begun, send, sent_to, with_locks}
use Rattle.protocol_model.specs.Client.{in_phase, is_spent}
use Rattle.protocol_model.specs.ClientLocks.{Try, is_no_more}
use Rattle.protocol_model.specs.World.{Opening, in_world, World, left}
use Rattle.moves.proofs.Indices.{both}
use Rattle.moves.proofs.Rules
use Rattle.moves.proofs.Rules.{Rule, IsOpen, May, effect, is_quiet}
use Rattle.moves.proofs.Invariants.{Each}
use Rattle.walk.proofs.ChainKinds.{Hearing, suits, leaves_locks}
use Rattle.walk.proofs.Orders.{ordered_keeps}
use Rattle.leftovers.proofs.Base.{is_leave, effect-turn, after_turn, popped, each-one, each-popped, each-posted}
use Rattle.leftovers.proofs.Calls.{home_of_call}
use Rattle.leftovers.proofs.Chains.{up_before}
use Rattle.leftovers.proofs.Clients.{call_at, IsLive, live_parts, caller_lives}
use Rattle.leftovers.proofs.Growing.{Replying, replying_keeps}
use Rattle.leftovers.proofs.Ids.{is_process_same, is_process_self}
use Rattle.leftovers.proofs.Ongoing.{is_deleting}
use Rattle.leftovers.proofs.RoundNumbers.{is_tried}
use Rattle.leftovers.proofs.Tries.{IsTryOf, Fits, fits_chain}
use Rattle.leftovers.proofs.Grounds.{Base}
use Rattle.leftovers.proofs.RoundFacts.{asked_of_owes}
use Rattle.leftovers.proofs.Phases.{StepOk, Puts, Drops, step_of}
use Rattle.lock_answers.proofs.BadMarks.{is_bad, bad_answer, bad_down, failed_bad}
use Rattle.lock_answers.proofs.CallSteps.{AllCalls, found_at, calls_kept}
use Rattle.lock_answers.proofs.Denials.{Denies, each_calm, is_judging, calm_rule}
use Rattle.lock_answers.proofs.Nobody.{some_same}

-- where a round has a bad mark, or the call waits, this is so
abbrev pub MarksIn : Bool → LockPhase → Type 0
MarksIn so (LockPhase.Asking r) = (x : ℕ) → is_bad (r.mark x) ≡ true → so ≡ true
MarksIn so LockPhase.Waiting = so ≡ true
MarksIn so (LockPhase.Deleting owing) = Unit {0}

abbrev pub MarksOf : Process → Bool → Process → LockCall → Type 0
MarksOf p so q c = q ≡ p → MarksIn so c.phase

-- a round of the try's call asks those whom the try has to ask
pub asked_same : (w : World) (p : Process) (l : Try) → Fits w p (Some l) → (c : LockCall) → call_at w p ≡ Some c
    → (r : Round) → c.phase ≡ LockPhase.Asking r → (l.id ≡ c.id) × ((x : ℕ) → asked r x ≡ l.asks x)
asked_same w p l fit c e r phase =
    let own : (s : Try) × ((Some l ≡ Some s) × IsTryOf s c) = fit.own c e (ap is_deleting phase) in
    let T : IsTryOf l c = subst (λ (s : Try). IsTryOf s c) (sym (some_same l own.0 own.1.0)) own.1.1 in
    (T.id, λ x. by x T T.asks)
  where
    by : (x : ℕ) → IsTryOf l c → (is_waiting_call c.phase ≡ true)
        ⊎ ((id : Id) (y : ℕ) → is_tried id y c ≡ (is_id l.id id && l.asks y)) → asked r x ≡ l.asks x
    by x T (inl waits) = cc (ap is_waiting_call phase, waits)
    by x T (inr same) =
        sym (ap (λ (b : Bool). b && asked r x) (is_id_self c.id))
        ∙ sym (ap (λ (f : LockPhase). is_id c.id c.id && (elim f [ LockPhase.Asking r ↦ asked r x | _ ↦ false ])) phase)
        ∙ same c.id x ∙ ap (λ (i : Id). is_id i c.id && l.asks x) T.id ∙ ap (λ (b : Bool). b && l.asks x)
        (is_id_self c.id)

-- so: whether something happened since the try l of p began, for which it may fail. w0: the world before the step
module _ (o : Opening) (p : Process) (l : Try) (so : Bool) (w0 : World)
    (gone : (c : ℕ) → l.asks c ≡ true → left w0 c ≡ true → so ≡ true) where
  pub record Reasoned (w : World) : Type 0 where
    pub replying : Replying w
    pub fits : Fits w p (Some l)
    pub runs : (c : ℕ) → left w c ≡ left w0 c
    pub nodes : (c : ℕ) → l.asks c ≡ true → in_world o c ≡ true
    pub marks : AllCalls (MarksOf p so) w
    pub letters : is_no_more w p ≡ false → (c : ℕ) → l.asks c ≡ true → Each (Denies p so) (w.links.queue c p.node)

  -- where a node that the try has to ask denies p the lock, it is so
  abbrev pub JudgedSo : ℕ → World → Rule → Type 0
  JudgedSo a w (Rules.Judges f id q) = is_no_more w p ≡ false → q ≡ p → l.asks a ≡ true
      → is_free_for id q (w.node a).locks ≡ false → so ≡ true
  JudgedSo a w _ = Unit {0}

  -- a rule that leaves the lock table judges nobody
  pub judges_none : (a : ℕ) (w : World) (r : Rule) → leaves_locks r ≡ true → JudgedSo a w r
  judges_none a w (Rules.Judges f id q) h = cc
  judges_none a w _ h = tt

  pub judged_calm : (a : ℕ) (w : World) (r : Rule) → is_judging r ≡ false → JudgedSo a w r
  judged_calm a w (Rules.Judges f id q) h = cc
  judged_calm a w _ h = tt

  module _ (a : ℕ) (w : World) (B : Base o w) (K : Reasoned w) where
    -- an open call of p at this node
    found : (c : LockCall) (now : LockPhase) → IsOpen (w.node a) c now → c.holder ≡ p → call_at w p ≡ Some c
    found c now e i = subst (λ (q : Process). call_at w q ≡ Some c) i (found_at w a B.ordered c now e)

    home : (c : LockCall) (now : LockPhase) → IsOpen (w.node a) c now → c.holder ≡ p → p.node ≡ a
    home c now e i = ap (λ (q : Process). q.node) (sym i)
        ∙ home_of_call a c.holder (w.node a).calls c (B.ordered a) e.call

    -- whose process isn't gone
    stays : (c : LockCall) → call_at w p ≡ Some c → left w p.node ≡ false → is_no_more w p ≡ false
    stays c e up =
        let L : IsLive o w p = live_parts o w p (caller_lives o w B.num B.clients p c up e) in
        ap (λ (b : Bool). b || is_dead (w.node p.node).watch p.serial) L.up ∙ L.alive

    before : (c : LockCall) (r : Round) → IsOpen (w.node a) c (LockPhase.Asking r) → c.holder ≡ p → (x : ℕ)
        → is_bad (r.mark x) ≡ true → so ≡ true
    before c r e i = subst (MarksIn so) e.phase (K.marks c.holder c (found_at w a B.ordered c (LockPhase.Asking r) e) i)

    -- a round of p that has failed has a bad mark
    pub fails : (c : LockCall) (r : Round) (granted : Nodes) → IsOpen (w.node a) c (LockPhase.Asking r) → c.holder ≡ p
        → is_over o.bound r ≡ true → ending o.bound (asked r) r ≡ GiveBack granted
        → (x : ℕ) × (is_bad (r.mark x) ≡ true)
    fails c r granted e i over failed = failed_bad o.bound r granted over failed below
      where
        below : asked r r.boss ≡ true → r.boss < o.bound
        below k =
            let mine : l.asks r.boss ≡ true =
            sym ((asked_same w p l K.fits c (found c (LockPhase.Asking r) e i) r e.phase).1 r.boss) ∙ k in
            grind (arith, nat_tests, (both (nat_lt r.boss o.bound) (o.nodes r.boss) (K.nodes r.boss mine)).0)

    marks_put : (r : Rule) → suits Hearing r ≡ true → May o a w r
        → StepOk (λ c. MarksOf p so c.holder c) (step_of o.bound (w.node a) r)
    marks_put (Rules.HearsLock f id g c r) h m = λ i x bad. bad_answer f g r m.tested.3 so (denied i) x
        (before c r m.tested.2 i x) bad
      where
        denied : c.holder ≡ p → g ≡ false → so ≡ true
        denied i n =
            let here : p.node ≡ a = home c (LockPhase.Asking r) m.tested.2 i in
            let there : call_at w p ≡ Some c = found c (LockPhase.Asking r) m.tested.2 i in
            let mine : l.asks f ≡ true = sym ((asked_same w p l K.fits c there r m.tested.2.phase).1 f) ∙ asks in
            let all : Each (Denies p so) (w.links.queue f a) = subst (λ (y : ℕ). Each (Denies p so) (w.links.queue f y))
            here (K.letters (stays c there (ap (left w) here ∙ m.running)) f mine) in
            (subst (Each (Denies p so)) m.front.1.1 all).0
            (ap (λ (q : Process). is_process q p && not g) i ∙ ap (λ (b : Bool). b && not g) (is_process_self p)
            ∙ ap not n)
          where
            asks : asked r f ≡ true
            asks = asked_of_owes r f m.tested.3
    marks_put (Rules.MarksLockDown d c r) h m = λ i x bad. bad_down d r so (λ k. down_so i k) x
        (before c r m.tested.1 i x) bad
      where
        down_so : c.holder ≡ p → asked r d ≡ true → so ≡ true
        down_so i k = gone d
            (sym ((asked_same w p l K.fits c (found c (LockPhase.Asking r) m.tested.1 i) r m.tested.1.phase).1 d) ∙ k)
            (sym (K.runs d) ∙ B.all.proper.told_left a d m.running m.tested.0)
    marks_put (Rules.GivesUpLock c r granted) h m = go (is_spent c.retries)
      where
        go : (b : Bool) → StepOk (λ d. MarksOf p so d.holder d)
            (if b then Drops c.holder else Puts (in_phase LockPhase.Waiting c))
        go true = tt
        go false = λ i.
            let one : (x : ℕ) × (is_bad (r.mark x) ≡ true) =
            fails c r granted m.tested.0 i m.tested.1 m.tested.2 in
            before c r m.tested.0 i one.0 one.1
    marks_put (Rules.CountsGivenBack f c owing) h m = λ i. tt
    marks_put (Rules.CountsLockDown d c owing) h m = λ i. tt
    marks_put (Rules.AsksLock c) h m = cc
    marks_put (Rules.DeletesLock c) h m = cc
    marks_put r h m = tt

    -- what is sent to p
    sent : (r : Rule) → JudgedSo a w r → is_no_more w p ≡ false → l.asks a ≡ true
        → Each (Denies p so) (sent_to p.node (Rules.turn_by o a w r).sends)
    sent (Rules.Judges f id q) j up mine = go (is_free_for id q (w.node a).locks) refl
      where
        no_denial : (b : Bool) → (b && false) ≡ true → so ≡ true
        no_denial true d = cc
        no_denial false d = cc

        go : (b : Bool) → is_free_for id q (w.node a).locks ≡ b → Each (Denies p so) (sent_to p.node
            (send f (Letter.LockAnswer id q b) (if b then with_locks (grant id q) (begun (w.node a))
            else begun (w.node a))).sends)
        go true e = each-one (Denies p so) p.node f (Letter.LockAnswer id q true) (λ i d. no_denial (is_process q p) d)
        go false e = each-one (Denies p so) p.node f (Letter.LockAnswer id q false)
            (λ i d. j up (is_process_same q p (both (is_process q p) true d).0) mine e)
    sent r j up mine = each_calm p so (Rules.turn_by o a w r).sends (calm_rule o a w r refl) p.node

    letters_turn : (r : Rule) → May o a w r → JudgedSo a w r → is_no_more (effect o a r w) p ≡ false → (c : ℕ)
        → l.asks c ≡ true
        → Each (Denies p so)
        ((after_turn a w (Rules.turn_by o a w r) (Rules.takes o a r)).links.queue c p.node)
    letters_turn r m j up c mine = each-posted (Denies p so) a (λ y. sent_to y (Rules.turn_by o a w r).sends)
        (popped a (Rules.takes o a r) w.links) c p.node
        (each-popped (Denies p so) a (Rules.takes o a r) w.links.queue c p.node (K.letters was c mine))
        (λ i. sent r j was (ap l.asks (sym i) ∙ mine))
      where
        was : is_no_more w p ≡ false
        was = up_before o a (r ∷ []) w p up

    -- a rule keeps it
    pub reasoned_keeps : (r : Rule) → suits Hearing r ≡ true → is_leave r ≡ false → JudgedSo a w r → May o a w r
        → Reasoned (effect o a r w)
    reasoned_keeps r h stay j m = record {
      replying = replying_keeps o a w r m K.replying;
      fits = fits_chain o a (ordered_keeps o) (r ∷ []) w B.num p (Some l) (and-true (suits Hearing r) ∙ h) (m, tt)
          B.ordered K.replying K.fits;
      runs = λ c. ap (λ (v : World). left v c) (sym (effect-turn o a w r stay)) ∙ K.runs c;
      nodes = K.nodes;
      marks = calls_kept o a w r B.ordered m (MarksOf p so) (marks_put r h m) K.marks;
      letters = λ up c mine. subst (λ (v : World). Each (Denies p so) (v.links.queue c p.node))
          (effect-turn o a w r stay) (letters_turn r m j up c mine);
    }

  -- a rule behind the first of its step
  abbrev pub is_inner : Rule → Bool
  is_inner r = suits Hearing r && (leaves_locks r && is_quiet r)

  pub inner_hears : (r : Rule) → is_inner r ≡ true → suits Hearing r ≡ true
  inner_hears r h = (both (suits Hearing r) (leaves_locks r && is_quiet r) h).0

  quiet_stays : (r : Rule) → is_quiet r ≡ true → is_leave r ≡ false
  quiet_stays Rules.Leaves h = cc
  quiet_stays _ h = refl

  pub inner_keeps : (a : ℕ) (w : World) (r : Rule) → is_inner r ≡ true → May o a w r → Base o w → Reasoned w
      → Reasoned (effect o a r w)
  inner_keeps a w r h m B K =
      let two : (suits Hearing r ≡ true) × ((leaves_locks r && is_quiet r) ≡ true) =
      both (suits Hearing r) (leaves_locks r && is_quiet r) h in
      let more : (leaves_locks r ≡ true) × (is_quiet r ≡ true) = both (leaves_locks r) (is_quiet r) two.1 in
      reasoned_keeps a w B K r two.0 (quiet_stays r more.1) (judges_none a w r more.0) m
