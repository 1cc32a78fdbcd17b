-- Events by names raise the work by no more than they pay, and a restart doesn't raise it: the node that starts has nothing, and no node
-- has asked it for anything.
use Rattle.std.proofs.Common.{ℕ, Bool, true, false, ◌==◌, ◌≡◌, ◌<◌, ◌≤◌, ◌+◌, Option, Some, None, List, [], ◌∷◌, ◌++◌, refl, sym, ap, subst, ◌∙◌, inl, inr, arith}
use Rattle.std.specs.Prelude.{length, not, ◌&&◌, ◌||◌, is_none, All, if◌then◌else◌}
use Rattle.std.specs.List.{sum_by}
use Rattle.std.proofs.lemmas.Bool.{cases_eq, eq-eqb, false_from_ne_true}
use Rattle.std.proofs.lemmas.List.Elements.{All-head, All-tail}
use Rattle.std.proofs.lemmas.List.Sums.{fold-append, sum_by-cons}
use Rattle.registry_model.specs.Process.{Process, Nodes, nodes_of, nobody}
use Rattle.registry_model.proofs.Updates.{by_test}
use Rattle.protocol_model.specs.Round.{Mark, Out, Round, is_out, is_empty, asked}
use Rattle.protocol_model.specs.Watch.{Watch, is_dead}
use Rattle.protocol_model.specs.Node.{Node, Current, LockPhase, LockCall}
use Rattle.protocol_model.specs.Turn.{begun}
use Rattle.protocol_model.specs.Event.{Event, NoSuchNode}
use Rattle.protocol_model.specs.World.{Opening, in_world, World, left, WorldEvent, refusal, accepted, happens, all_answers}
use Rattle.walk.proofs.Events.{accepted_of}
use Rattle.walk.proofs.Runs.{happens-accepted}
use Rattle.walk.proofs.Walk.{OrderedWalk, walked_in_order}
use Rattle.named_events.proofs.Grounds.{wide}
use Rattle.named_events.specs.NodeNames.{NamedOpening, HasNumber, is_name, node_of, name_of, creation_of, opening_of}
use Rattle.named_events.specs.NamedWorld.{NamedWorld, NamedEvent, NamedRefusal, Plain, present_node, has_started, next_node, named_refusal, refusal_at, plain_refusal, plain, accepted_named, happens_named, run_named, opening_named, after_events}
use Rattle.named_events.specs.Restarts.{fresh_node, IsUp, StartsAnew}
use Rattle.named_events.proofs.Always.{always}
use Rattle.named_events.proofs.Inside.{IsCurrentIn, IsPhaseIn, IsCallIn, IsInside}
use Rattle.named_events.proofs.Catching
use Rattle.named_events.proofs.Numbers.{name-node, creation-node, node-number, inside-name}
use Rattle.named_events.proofs.Restarting.{MayRestart, may_restart, starts_anew}
use Rattle.named_events.proofs.Standing.{Sound, started_to, started_from, unrefused}
use Rattle.no_dead_end.specs.Weights.{sum_below, when, Weights, of_link, of_round, of_current, of_phase, of_node, of_place, total}
use Rattle.no_dead_end.specs.Work.{may_die, work_weights}
use Rattle.no_dead_end.specs.Payments.{event_pays}
use Rattle.no_dead_end.specs.NamedNoDeadEnd.{names_size, named_work, AlwaysNamed}
use Rattle.no_dead_end.specs.NamedPayments.{named_pays, named_paid, named_delivered, NamedEventsPay}
use Rattle.no_dead_end.proofs.Sums.{sum-same, sum-le, sum-zero, when-le}
use Rattle.no_dead_end.proofs.DeliveryWork.{total_less}
use Rattle.no_dead_end.proofs.AdmitsJoined.{along_begins, along_ready}
use Rattle.no_dead_end.proofs.NamedDeliveries.{counts_up, begun as known, few, named_lowers}
use Rattle.no_dead_end.proofs.Payments.{event_pays_work, leave_pays_work}
use Rattle.no_dead_end.proofs.EventsPay.{opens_idle}
use Rattle.named_events.specs.WorldsOfNames.{is_named_delivery, up}

-- One node n more counts, of which a node knows nothing. S: whom it knows
module _ (b : ℕ) (W : Weights) (clear : W.mark Out ≡ 0) (S : Nodes) (n : ℕ) (unknown : S n ≡ false) (more up : Nodes)
    (sub : (d : ℕ) → more d ≡ true → (d ≡ n → ⊥) → up d ≡ true) where
  when_but : (d k : ℕ) → (d ≡ n → k ≡ 0) → when (more d) k ≤ when (up d) k
  when_but d k zero = elim (cases_eq d n) [
    | inl same ↦ subst (λ (m : ℕ). when (more d) m ≤ when (up d) m) (sym (zero same)) (none (more d))
    | inr ne ↦ go ne (more d) refl
  ]
    where
      none : (t : Bool) → when t 0 ≤ when (up d) 0
      none true = omega arith
      none false = omega arith

      go : (d ≡ n → ⊥) → (t : Bool) → more d ≡ t → when t k ≤ when (up d) k
      go ne false e = omega arith
      go ne true e = subst (λ (s : Bool). k ≤ when s k) (sym (sub d e ne)) (omega arith)

  not_in : (s : Nodes) → ((c : ℕ) → s c ≡ true → S c ≡ true) → s n ≡ false
  not_in s known = false_from_ne_true (s n) (λ e. cc (known n e, unknown))

  mark_out : (m : Mark) → not (is_out m) ≡ false → W.mark m ≡ 0
  mark_out Out e = clear
  mark_out Mark.Later e = cc e
  mark_out Mark.Owes e = cc e
  mark_out Mark.Granted e = cc e
  mark_out Mark.Refused e = cc e
  mark_out Mark.Lost e = cc e
  mark_out Mark.Gone e = cc e

  round_but : (r : Round) → ((c : ℕ) → asked r c ≡ true → S c ≡ true) → of_round b W more r ≤ of_round b W up r
  round_but r known = sum-le b (λ c. when (more c) (W.mark (r.mark c))) (λ c. when (up c) (W.mark (r.mark c)))
      (λ c l. when_but c (W.mark (r.mark c)) (λ same. mark_out (r.mark c) (ap (asked r) same ∙ not_in (asked r) known)))

  current_but : (c : Current) → IsCurrentIn S c → of_current b W more c ≤ of_current b W up c
  current_but (Current.Asking op r) i = let h : of_round b W more r ≤ of_round b W up r = round_but r i.1 in omega (arith, h)
  current_but (Current.Waiting op) i = omega arith
  current_but Current.Free i = omega arith
  current_but (Current.Joining k m) i = omega arith
  current_but (Current.Writing op s awaited reply) i = sum-le b (λ c. when (more c && s c) W.back) (λ c. when (up c && s c) W.back)
      (λ c l. subst (λ (k : ℕ). k ≤ when (up c && s c) W.back) (as_nested (more c) (s c))
      (subst (λ (k : ℕ). when (more c) (when (s c) W.back) ≤ k) (as_nested (up c) (s c))
      (when_but c (when (s c) W.back) (λ same. ap (λ (t : Bool). when t W.back) (ap s same ∙ not_in s i)))))
    where
      as_nested : (x y : Bool) → when x (when y W.back) ≡ when (x && y) W.back
      as_nested true y = refl
      as_nested false y = refl

  phase_but : (ph : LockPhase) → IsPhaseIn S ph → of_phase b W more ph ≤ of_phase b W up ph
  phase_but (LockPhase.Asking r) i = round_but r i
  phase_but LockPhase.Waiting i = omega arith
  phase_but (LockPhase.Deleting owing) i = omega arith

  calls_but : (cs : List LockCall) → All (IsCallIn S) cs
      → sum_by (λ (call : LockCall). of_phase b W more call.phase) cs ≤ sum_by (λ (call : LockCall). of_phase b W up call.phase) cs
  calls_but [] i = omega arith
  calls_but (c ∷ cs) i =
      let first : of_phase b W more c.phase ≤ of_phase b W up c.phase = phase_but c.phase (All-head (IsCallIn S) c cs i).phase in
      let rest : _ = calls_but cs (All-tail (IsCallIn S) c cs i) in
      let p : _ = sum_by-cons (λ (call : LockCall). of_phase b W more call.phase) c cs in
      let q : _ = sum_by-cons (λ (call : LockCall). of_phase b W up call.phase) c cs in omega (arith, first, rest, p, q)

  pub node_but : (c : ℕ) (v : Node) → IsInside S (begun v) → of_node b W more c v ≤ of_node b W up c v
  node_but c v i =
      let current : of_current b W more v.current ≤ of_current b W up v.current = current_but v.current i.current in
      let calls : _ = calls_but v.calls i.called in omega (arith, current, calls)

-- A name comes back
module _ (o : NamedOpening) (w : NamedWorld) (s : Sound o w) (x : ℕ) (m : MayRestart o w x) where
  abbrev O : Opening
  O = opening_of o

  abbrev later : NamedWorld
  later = accepted_named o w (NamedEvent.Restart x)

  abbrev n : ℕ
  n = next_node o w x

  A : StartsAnew o w x later (all_answers O w.world (plain o w (NamedEvent.Restart x)))
  A = starts_anew o w s x m

  next_creation : HasNumber o (w.present x + 1)
  next_creation = let l : w.present x < o.last = m.further in record { first = omega arith; last = omega (arith, l) }

  name-n : name_of o n ≡ x
  name-n = name-node o x (w.present x + 1) next_creation

  creation-n : creation_of o n ≡ w.present x + 1
  creation-n = creation-node o x (w.present x + 1) next_creation

  unstarted : has_started o w n ≡ false
  unstarted = false_from_ne_true (has_started o w n) (λ e.
      let l : creation_of o n ≤ w.present (name_of o n) = started_to o w n e in
      let c : creation_of o n ≡ w.present x + 1 = creation-n in
      let p : w.present (name_of o n) ≡ w.present x = ap w.present name-n in absurd (omega (arith, l, c, p)))

  old : w.world.node n ≡ fresh_node nobody n
  old = (Catching.fresh o w s n unstarted (inside-name o n ∙ ap (is_name o) name-n ∙ m.known)).node

  -- who has started has started before, but for that node
  before : (c : ℕ) → has_started o later c ≡ true → (c ≡ n → ⊥) → has_started o w c ≡ true
  before c e ne = by_test x
      (λ y t. name_of o c ≡ y → creation_of o c ≤ (if t then w.present x + 1 else w.present y) → has_started o w c ≡ true)
      (λ q l. started_from o w c (subst (λ (y : ℕ). creation_of o c ≤ w.present y) (sym q) (elim (cases_eq (creation_of o c)
      (w.present x + 1)) [
        | inl same ↦ absurd (ne (sym (node-number o c) ∙ ap (λ (y : ℕ). node_of o y (creation_of o c)) q ∙ ap (node_of o x) same))
        | inr other ↦ omega (arith, other, l)
      ])))
      (λ y out q l. started_from o w c (subst (λ (z : ℕ). creation_of o c ≤ w.present z) (sym q) l))
      (name_of o c) refl (started_to o later c e)

  was_up : (c : ℕ) → up o later c ≡ true → (c ≡ n → ⊥) → up o w c ≡ true
  was_up c e ne = let u : IsUp o later c = counts_up o later c e in
      rw (u.inside, before c u.started ne, sym (ap (λ (l : Nodes). l c) A.departures) ∙ u.stays) refl

  same_watch : (c : ℕ) → (later.world.node c).watch ≡ (w.world.node c).watch
  same_watch c = elim (cases_eq c n) [
    | inl same ↦ subst (λ (y : ℕ). (later.world.node y).watch ≡ (w.world.node y).watch) (sym same)
        (ap (λ (v : Node). v.watch) A.node ∙ sym (ap (λ (v : Node). v.watch) old))
    | inr ne ↦ ap (λ (v : Node). v.watch) (A.others c ne)
  ]

  same_mortals : (p : Process) → may_die later.world p ≡ may_die w.world p
  same_mortals p = ap (λ (l : Nodes). not (l p.node || is_dead (later.world.node p.node).watch p.serial)) A.departures
      ∙ ap (λ (v : Watch). not (left w.world p.node || is_dead v p.serial)) (same_watch p.node)

  module _ (b : ℕ) (W : Weights) (clear : W.mark Out ≡ 0) where
    nothing : of_place b W (up o later) later.world n ≡ 0
    nothing =
        let node : of_node b W (up o later) n (later.world.node n) ≡ 0 = ap (of_node b W (up o later) n) A.node in
        let links : sum_below b (λ f. of_link W f n (later.world.links.queue f n)) ≡ 0 =
        sum-same b (λ f. of_link W f n (later.world.links.queue f n)) (λ f. 0) (λ f l. ap (of_link W f n) (A.here f)) ∙ sum-zero b in
        omega (arith, node, links)

    no_more : total b W (up o later) later.world ≤ total b W (up o w) w.world
    no_more = sum-le b (λ c. when (up o later c) (of_place b W (up o later) later.world c))
        (λ c. when (up o w c) (of_place b W (up o w) w.world c)) (λ c l. go c (up o later c) refl)
      where
        other : (c : ℕ) → up o later c ≡ true → (c ≡ n → ⊥) → of_place b W (up o later) later.world c
            ≤ of_place b W (up o w) w.world c
        other c e ne =
            let known : of_node b W (up o later) c (w.world.node c) ≤ of_node b W (up o w) c (w.world.node c) =
            node_but b W clear (has_started o w) n unstarted (up o later) (up o w) was_up c (w.world.node c)
            (s.apart.inside c (before c (counts_up o later c e).started ne)) in
            let same : of_node b W (up o later) c (later.world.node c) ≡ of_node b W (up o later) c (w.world.node c) =
            ap (of_node b W (up o later) c) (A.others c ne) in
            let links : sum_below b (λ f. of_link W f c (later.world.links.queue f c))
            ≡ sum_below b (λ f. of_link W f c (w.world.links.queue f c)) =
            sum-same b (λ f. of_link W f c (later.world.links.queue f c)) (λ f. of_link W f c (w.world.links.queue f c))
            (λ f l. ap (of_link W f c) (A.elsewhere f c ne)) in omega (arith, known, same, links)

        go : (c : ℕ) (t : Bool) → up o later c ≡ t → when t (of_place b W (up o later) later.world c)
            ≤ when (up o w c) (of_place b W (up o w) w.world c)
        go c false e = omega arith
        go c true e = elim (cases_eq c n) [
          | inl same ↦ subst (λ (k : ℕ). k ≤ when (up o w c) (of_place b W (up o w) w.world c))
              (sym (ap (of_place b W (up o later) later.world) same ∙ nothing)) (omega arith)
          | inr ne ↦ subst (λ (t : Bool). of_place b W (up o later) later.world c
              ≤ when t (of_place b W (up o w) w.world c)) (sym (was_up c e ne)) (other c e ne)
        ]

  pub restart_work : named_work o later ≤ named_work o w
  restart_work =
      let less : _ = total_less O.bound (names_size o) (up o later) (may_die w.world) (may_die later.world)
      (λ p h. sym (same_mortals p) ∙ h) later.world in
      let more : _ = no_more O.bound (work_weights (names_size o) (may_die w.world)) refl in omega (arith, less, more)

-- Events at nodes
module _ (o : NamedOpening) (es : List NamedEvent) where
  abbrev w : NamedWorld
  w = after_events o es

  s : Sound o w
  s = always o es

  abbrev turned : ℕ → Event → NamedWorld
  turned n e = record { world = accepted (opening_of o) w.world (WorldEvent.At n e); present = w.present }

  at_node : (n : ℕ) → has_started o w n ≡ true → (e : Event) → refusal (opening_of o) w.world (WorldEvent.At n e) ≡ None
      → length (nodes_of (opening_of o).bound (up o (turned n e))) ≤ names_size o
      → named_work o (turned n e) ≤ named_work o w + event_pays (names_size o) (w.world.node n) e
  at_node n started e r size = go e r size
      (walked_in_order (opening_of o) w.world (WorldEvent.At n e) (known o es).base.ordered
      (wide (opening_of o) w.world (known o es).base) r)
    where
      its : (y : Event) → refusal (opening_of o) w.world (WorldEvent.At n y) ≡ None
          → (in_world (opening_of o) n ≡ true) × (left w.world n ≡ false)
      its y q = (
        (accepted_of (opening_of o) w.world (WorldEvent.At n y) q).place_inside,
        (accepted_of (opening_of o) w.world (WorldEvent.At n y) q).running,
      )

      here : (in_world (opening_of o) n ≡ true) × (left w.world n ≡ false) → up o w n ≡ true
      here i = rw (i.0, started, i.1) refl

      some : (in_world (opening_of o) n ≡ true) × (left w.world n ≡ false)
          → is_empty (opening_of o).bound (w.world.node n).replica.members ≡ false
      some i = (along_ready (opening_of o) n w.world w.world (along_begins (opening_of o) w.world (known o es)) i.0 i.1).some

      go : (y : Event) → refusal (opening_of o) w.world (WorldEvent.At n y) ≡ None
          → length (nodes_of (opening_of o).bound (up o (turned n y))) ≤ names_size o
          → OrderedWalk (opening_of o) w.world (WorldEvent.At n y)
          → named_work o (turned n y) ≤ named_work o w + event_pays (names_size o) (w.world.node n) y
      go (Event.Calling c) q l h = event_pays_work (opening_of o) (names_size o) (up o w) (few o es) n w.world
          (here (its (Event.Calling c) q)) (its (Event.Calling c) q).0 (some (its (Event.Calling c) q)) (Event.Calling c) refl h
      go Event.Retry q l h = event_pays_work (opening_of o) (names_size o) (up o w) (few o es) n w.world
          (here (its Event.Retry q)) (its Event.Retry q).0 (some (its Event.Retry q)) Event.Retry refl h
      go (Event.Exiting p) q l h = event_pays_work (opening_of o) (names_size o) (up o w) (few o es) n w.world
          (here (its (Event.Exiting p) q)) (its (Event.Exiting p) q).0 (some (its (Event.Exiting p) q)) (Event.Exiting p) refl h
      go Event.Leave q l h = leave_pays_work (opening_of o) (names_size o) (up o w) (few o es) n w.world
          (here (its Event.Leave q)) (its Event.Leave q).0 (some (its Event.Leave q)) (up o (turned n Event.Leave)) l gone less h
        where
          gone : up o (turned n Event.Leave) n ≡ false
          gone = rw (eq-eqb n n refl) (none (in_world (opening_of o) n && has_started o w n))
            where
              none : (t : Bool) → (t && false) ≡ false
              none true = refl
              none false = refl

          less : (c : ℕ) → up o (turned n Event.Leave) c ≡ true → up o w c ≡ true
          less c e = let u : IsUp o (turned n Event.Leave) c = counts_up o (turned n Event.Leave) c e in
              rw (u.inside, u.started, by (c == n) (left w.world c) u.stays) refl
            where
              by : (t l : Bool) → (if t then true else l) ≡ false → l ≡ false
              by true l h = cc h
              by false l h = h

  -- an accepted event by names
  module _ (e : NamedEvent) (q : named_refusal o w e ≡ None) where
    behind : after_events o (es ++ e ∷ []) ≡ accepted_named o w e
    behind = fold-append (happens_named o) (opening_named o) es (e ∷ [])
        ∙ ap (λ (r : Option NamedRefusal). if is_none r then accepted_named o w e else w) q

    size : length (nodes_of (opening_of o).bound (up o (accepted_named o w e))) ≤ names_size o
    size = subst (λ (v : NamedWorld). length (nodes_of (opening_of o).bound (up o v)) ≤ names_size o) behind (few o (es ++ e ∷ []))

  -- at a node
  of_node_event : (n : ℕ) (e : Event) → refusal_at o w n e ≡ None
      → (has_started o w n ≡ true) × (refusal (opening_of o) w.world (WorldEvent.At n e) ≡ None)
  of_node_event n e q = go (has_started o w n) refl q
    where
      go : (t : Bool) → has_started o w n ≡ t
          → (if t then plain_refusal o w (WorldEvent.At n e) else Some (Plain NoSuchNode)) ≡ None
          → (has_started o w n ≡ true) × (refusal (opening_of o) w.world (WorldEvent.At n e) ≡ None)
      go true i h = (i, (unrefused o w s (WorldEvent.At n e) h).1)
      go false i h = cc h

  same_world : (n : ℕ) (e : Event) → refusal (opening_of o) w.world (WorldEvent.At n e) ≡ None
      → turned n e ≡ record { world = happens (opening_of o) w.world (WorldEvent.At n e); present = w.present }
  same_world n e r = ap (λ (v : World). let z : NamedWorld = record { world = v; present = w.present } in z)
      (sym (happens-accepted (opening_of o) w.world (WorldEvent.At n e) r))

  accepted_pays : (e : NamedEvent) → named_refusal o w e ≡ None → named_work o (accepted_named o w e) ≤ named_work o w + named_pays o w e
  accepted_pays (NamedEvent.At x e) q =
      let i : (has_started o w (present_node o w x) ≡ true)
      × (refusal (opening_of o) w.world (WorldEvent.At (present_node o w x) e) ≡ None) = of_node_event (present_node o w x) e q in
      subst (λ (v : NamedWorld). named_work o v ≤ named_work o w + event_pays (names_size o) (w.world.node (present_node o w x)) e)
      (same_world (present_node o w x) e i.1)
      (at_node (present_node o w x) i.0 e i.1 (subst (λ (v : NamedWorld). length (nodes_of (opening_of o).bound (up o v)) ≤ names_size o)
      (sym (same_world (present_node o w x) e i.1)) (size (NamedEvent.At x e) q)))
  accepted_pays (NamedEvent.AtNode n e) q =
      let i : (has_started o w n ≡ true) × (refusal (opening_of o) w.world (WorldEvent.At n e) ≡ None) = of_node_event n e q in
      subst (λ (v : NamedWorld). named_work o v ≤ named_work o w + event_pays (names_size o) (w.world.node n) e)
      (same_world n e i.1)
      (at_node n i.0 e i.1 (subst (λ (v : NamedWorld). length (nodes_of (opening_of o).bound (up o v)) ≤ names_size o)
      (sym (same_world n e i.1)) (size (NamedEvent.AtNode n e) q)))
  accepted_pays (NamedEvent.Deliver x y) q =
      let less : _ = named_lowers o es x y q in
      let same : named_work o (happens_named o w (NamedEvent.Deliver x y)) ≡ named_work o (accepted_named o w (NamedEvent.Deliver x y)) =
      ap (λ (r : Option NamedRefusal). named_work o (if is_none r then accepted_named o w (NamedEvent.Deliver x y) else w)) q in
      omega (arith, less, same)
  accepted_pays (NamedEvent.Restart x) q = let h : _ = restart_work o w s x (may_restart o w x q) in omega (arith, h)

  happens_pays : (e : NamedEvent)
      → named_work o (happens_named o w e) ≤ named_work o w + when (is_none (named_refusal o w e)) (named_pays o w e)
  happens_pays e = go (named_refusal o w e) refl
    where
      go : (r : Option NamedRefusal) → named_refusal o w e ≡ r
          → named_work o (if is_none r then accepted_named o w e else w) ≤ named_work o w + when (is_none r) (named_pays o w e)
      go None q = accepted_pays e q
      go (Some r) q = omega arith

  no_delivery : (e : NamedEvent) → is_named_delivery e ≡ false
      → when (is_none (named_refusal o w e) && is_named_delivery e) 1 + named_work o (happens_named o w e)
      ≤ named_work o w + when (is_none (named_refusal o w e)) (named_pays o w e)
  no_delivery e d =
      let h : _ = happens_pays e in
      let none : when (is_none (named_refusal o w e) && is_named_delivery e) 1 ≡ 0 =
      ap (λ (t : Bool). when (is_none (named_refusal o w e) && t) 1) d ∙ nothing (is_none (named_refusal o w e)) in
      omega (arith, h, none)
    where
      nothing : (t : Bool) → when (t && false) 1 ≡ 0
      nothing true = refl
      nothing false = refl

  -- a delivery that is accepted is paid for
  one_paid : (e : NamedEvent) → when (is_none (named_refusal o w e) && is_named_delivery e) 1 + named_work o (happens_named o w e)
      ≤ named_work o w + when (is_none (named_refusal o w e)) (named_pays o w e)
  one_paid (NamedEvent.Deliver x y) = go (named_refusal o w (NamedEvent.Deliver x y)) refl
    where
      go : (r : Option NamedRefusal) → named_refusal o w (NamedEvent.Deliver x y) ≡ r
          → when (is_none r && true) 1 + named_work o (happens_named o w (NamedEvent.Deliver x y)) ≤ named_work o w + when (is_none r) 0
      go None q = let less : _ = named_lowers o es x y q in omega (arith, less)
      go (Some r) q = let same : named_work o (happens_named o w (NamedEvent.Deliver x y)) ≡ named_work o w =
          ap (λ (z : Option NamedRefusal). named_work o (if is_none z then accepted_named o w (NamedEvent.Deliver x y) else w)) q in
          omega (arith, same)
  one_paid (NamedEvent.At x e) = no_delivery (NamedEvent.At x e) refl
  one_paid (NamedEvent.AtNode n e) = no_delivery (NamedEvent.AtNode n e) refl
  one_paid (NamedEvent.Restart x) = no_delivery (NamedEvent.Restart x) refl

module _ (o : NamedOpening) where
  run_paid : (fs es : List NamedEvent)
      → named_delivered o (after_events o es) fs + named_work o (run_named o (after_events o es) fs)
      ≤ named_work o (after_events o es) + named_paid o (after_events o es) fs
  run_paid [] es = omega arith
  run_paid (e ∷ fs) es =
      let one : when (is_none (named_refusal o (after_events o es) e) && is_named_delivery e) 1
      + named_work o (happens_named o (after_events o es) e)
      ≤ named_work o (after_events o es)
      + when (is_none (named_refusal o (after_events o es) e)) (named_pays o (after_events o es) e) = one_paid o es e in
      let more : named_delivered o (happens_named o (after_events o es) e) fs
      + named_work o (run_named o (happens_named o (after_events o es) e) fs)
      ≤ named_work o (happens_named o (after_events o es) e) + named_paid o (happens_named o (after_events o es) e) fs =
      subst (λ (v : NamedWorld). named_delivered o v fs + named_work o (run_named o v fs) ≤ named_work o v + named_paid o v fs)
      (fold-append (happens_named o) (opening_named o) es (e ∷ [])) (run_paid fs (es ++ e ∷ [])) in
      omega (arith, one, more)

pub events_by_names_pay : AlwaysNamed NamedEventsPay
events_by_names_pay o es = record {
  raises = λ e. let h : _ = happens_pays o es e in
      let most : when (is_none (named_refusal o (after_events o es) e)) (named_pays o (after_events o es) e)
      ≤ named_pays o (after_events o es) e =
      when-le (is_none (named_refusal o (after_events o es) e)) (named_pays o (after_events o es) e) in omega (arith, h, most);
  runs = λ fs. run_paid o fs es;
  all = let h : _ = run_paid o es [] in
      let none : named_work o (opening_named o) ≡ 0 =
      opens_idle (opening_of o) (names_size o) (up o (opening_named o)) in omega (arith, h, none);
}
