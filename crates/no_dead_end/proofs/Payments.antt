-- Events other than deliveries raise the work by no more than they pay. up: the nodes that count, at most n.
use Rattle.std.proofs.Common.{ℕ, Bool, true, false, ◌==◌, ◌≡◌, ◌<◌, ◌≤◌, ◌+◌, ◌-◌, ◌*◌, List, [], ◌++◌, refl, sym, ap, subst, ◌∙◌, arith}
use Rattle.std.specs.Prelude.{length, not, ◌&&◌, if◌then◌else◌}
use Rattle.std.specs.List.{sum_by}
use Rattle.std.proofs.lemmas.Bool.{and_parts, ltb-true, eq-eqb, ne_eqb}
use Rattle.std.proofs.lemmas.List.Sums.{sum_by-le-sum_by}
use Rattle.registry_model.specs.Process.{Process, Nodes, nodes_of}
use Rattle.protocol_model.specs.Letter.{Letter}
use Rattle.protocol_model.specs.Node.{Node, Current, LockPhase, LockCall}
use Rattle.protocol_model.specs.Round.{Round, is_empty}
use Rattle.protocol_model.specs.Turn.{Turn, begun}
use Rattle.protocol_model.specs.Event.{Event}
use Rattle.protocol_model.specs.World.{Opening, in_world, World, WorldEvent, At, place, turn_of, apply, accepted}
use Rattle.protocol_model.specs.ClientLocks.{is_no_more}
use Rattle.named_events.proofs.Chains.{up_before}
use Rattle.named_events.proofs.Rules
use Rattle.walk.proofs.Walk.{OrderedWalk}
use Rattle.no_dead_end.specs.Weights.{sum_below, when, Weights, of_link, of_round, of_current, of_phase, of_node, of_place, total}
use Rattle.no_dead_end.specs.Work.{may_die}
use Rattle.no_dead_end.specs.Payments.{event_pays}
use Rattle.no_dead_end.proofs.Counting.{Counting, weights}
use Rattle.no_dead_end.proofs.Sums.{sum-le, sum-but, sum-each}
use Rattle.no_dead_end.proofs.Totals.{turn_total, sent_each}
use Rattle.no_dead_end.proofs.DeliveryWork.{counted, total_less}
use Rattle.no_dead_end.proofs.TurnWork.{is_leaving, laden, event_work}

-- Fewer nodes count no more, where those that still do are as they were
module _ (b : ℕ) (W : Weights) (fewer up : Nodes) (sub : (c : ℕ) → fewer c ≡ true → up c ≡ true) where
  when_sub : (c k m : ℕ) → k ≤ m → when (fewer c) k ≤ when (up c) m
  when_sub c k m l = go (fewer c) refl
    where
      go : (t : Bool) → fewer c ≡ t → when t k ≤ when (up c) m
      go false e = omega arith
      go true e = subst (λ (s : Bool). k ≤ when s m) (sym (sub c e)) l

  round_sub : (r : Round) → of_round b W fewer r ≤ of_round b W up r
  round_sub r = sum-le b (λ c. when (fewer c) (W.mark (r.mark c))) (λ c. when (up c) (W.mark (r.mark c)))
      (λ c l. when_sub c (W.mark (r.mark c)) (W.mark (r.mark c)) (omega arith))

  current_sub : (c : Current) → of_current b W fewer c ≤ of_current b W up c
  current_sub (Current.Asking op r) = let h : of_round b W fewer r ≤ of_round b W up r = round_sub r in omega (arith, h)
  current_sub (Current.Waiting op) = omega arith
  current_sub Current.Free = omega arith
  current_sub (Current.Joining k m) = omega arith
  current_sub (Current.Writing op s awaited reply) = sum-le b (λ c. when (fewer c && s c) W.back) (λ c. when (up c && s c) W.back)
      (λ c l. by c (s c))
    where
      by : (c : ℕ) (t : Bool) → when (fewer c && t) W.back ≤ when (up c && t) W.back
      by c true = both (fewer c) (up c) (when_sub c W.back W.back (omega arith))
        where
          both : (x y : Bool) → when x W.back ≤ when y W.back → when (x && true) W.back ≤ when (y && true) W.back
          both true true h = h
          both true false h = h
          both false y h = omega arith
      by c false = none (fewer c)
        where
          none : (x : Bool) → when (x && false) W.back ≤ when (up c && false) W.back
          none true = omega arith
          none false = omega arith

  phase_sub : (ph : LockPhase) → of_phase b W fewer ph ≤ of_phase b W up ph
  phase_sub (LockPhase.Asking r) = round_sub r
  phase_sub LockPhase.Waiting = omega arith
  phase_sub (LockPhase.Deleting owing) = omega arith

  node_sub : (c : ℕ) (v : Node) → of_node b W fewer c v ≤ of_node b W up c v
  node_sub c v =
      let current : of_current b W fewer v.current ≤ of_current b W up v.current = current_sub v.current in
      let calls : sum_by (λ (call : LockCall). of_phase b W fewer call.phase) v.calls
      ≤ sum_by (λ (call : LockCall). of_phase b W up call.phase) v.calls =
      sum_by-le-sum_by (λ (call : LockCall). of_phase b W fewer call.phase) (λ (call : LockCall). of_phase b W up call.phase) v.calls
      (λ call. phase_sub call.phase) in omega (arith, current, calls)

  pub total_sub : (x y : World) → ((c : ℕ) → fewer c ≡ true → x.node c ≡ y.node c)
      → ((f c : ℕ) → fewer c ≡ true → x.links.queue f c ≡ y.links.queue f c) → total b W fewer x ≤ total b W up y
  total_sub x y node queue = sum-le b (λ c. when (fewer c) (of_place b W fewer x c)) (λ c. when (up c) (of_place b W up y c))
      (λ c l. go c (fewer c) refl)
    where
      go : (c : ℕ) (t : Bool) → fewer c ≡ t → when t (of_place b W fewer x c) ≤ when (up c) (of_place b W up y c)
      go c false e = omega arith
      go c true e =
          let here : of_node b W fewer c (x.node c) ≤ of_node b W up c (y.node c) =
          subst (λ (v : Node). of_node b W fewer c (x.node c) ≤ of_node b W up c v) (node c e) (node_sub c (x.node c)) in
          let links : sum_below b (λ f. of_link W f c (x.links.queue f c)) ≤ sum_below b (λ f. of_link W f c (y.links.queue f c)) =
          sum-le b (λ f. of_link W f c (x.links.queue f c)) (λ f. of_link W f c (y.links.queue f c))
          (λ f l. subst (λ (ls : List Letter). of_link W f c (x.links.queue f c) ≤ of_link W f c ls) (queue f c e) (omega arith)) in
          subst (λ (s : Bool). of_place b W fewer x c ≤ when s (of_place b W up y c)) (sym (sub c e)) (omega (arith, here, links))

module _ (o : Opening) (n : ℕ) (up : Nodes) (most : length (nodes_of o.bound up) ≤ n) (a : ℕ) (w : World)
    (here : up a ≡ true) (inside : in_world o a ≡ true) (some : is_empty o.bound (w.node a).replica.members ≡ false) where
  abbrev C : Counting
  C = record { opening = o; size = n; alive = may_die w; up = up; few = most; node = a }

  abbrev b : ℕ
  b = o.bound

  low : a < b
  low = ltb-true a b (and_parts _ (o.nodes a) inside).0

  -- an event other than a leave
  stepped : (e : Event) → is_leaving e ≡ false
      → total b (weights C) up (apply a (turn_of o w (At a e)) w) ≤ total b (weights C) up w + event_pays n (w.node a) e
  stepped e k =
      let turn : _ = turn_total b (weights C) up a (turn_of o w (At a e)) w low here in
      let spent : _ = event_work C (w.node a) some (in_world o) e k in omega (arith, turn, spent)

  -- who may die behind an event might before
  mortal : (e : WorldEvent) → OrderedWalk o w e → (p : Process) → may_die (accepted o w e) p ≡ true → may_die w p ≡ true
  mortal e h p k = go (is_no_more (accepted o w e) p) refl k
    where
      go : (t : Bool) → is_no_more (accepted o w e) p ≡ t → not t ≡ true → may_die w p ≡ true
      go true i j = cc j
      go false i j = ap not (up_before o (place e) (Rules.first_by o (place e) w e ++ h.walk.rest) w p
          (ap (λ (x : World). is_no_more x p) h.walk.world ∙ i))

  -- so its work, as it is counted behind it
  pub event_pays_work : (e : Event) → is_leaving e ≡ false → OrderedWalk o w (At a e)
      → counted o n up most a (accepted o w (At a e)) ≤ counted o n up most a w + event_pays n (w.node a) e
  event_pays_work e k h =
      let less : _ = total_less b n up (may_die w) (may_die (accepted o w (At a e))) (mortal (At a e) h) (accepted o w (At a e)) in
      let step : _ = stepped e k in go e k less step
    where
      go : (x : Event) → is_leaving x ≡ false
          → counted o n up most a (accepted o w (At a x)) ≤ total b (weights C) up (accepted o w (At a x))
          → total b (weights C) up (apply a (turn_of o w (At a x)) w) ≤ total b (weights C) up w + event_pays n (w.node a) x
          → counted o n up most a (accepted o w (At a x)) ≤ counted o n up most a w + event_pays n (w.node a) x
      go (Event.Calling c) i p q = omega (arith, p, q)
      go Event.Retry i p q = omega (arith, p, q)
      go (Event.Exiting p) i q r = omega (arith, q, r)
      go Event.Leave i p q = cc i

  -- a leave is told to all others that count
  module _ (fewer : Nodes) (few : length (nodes_of o.bound fewer) ≤ n)
      (gone : fewer a ≡ false) (sub : (c : ℕ) → fewer c ≡ true → up c ≡ true) (h : OrderedWalk o w (At a Event.Leave)) where
    abbrev x : World
    x = accepted o w (At a Event.Leave)

    abbrev u : Turn
    u = turn_of o w (At a Event.Leave)

    abbrev y : World
    y = apply a u w

    others : sum_below b (λ c. when (up c && not (c == a)) 1) + 1 ≤ n
    others =
        let but : sum_below b (λ c. when (up c && not (c == a)) 1) + when (up a) 1
        ≡ sum_below b (λ c. when (up c) 1) + when (up a && not (a == a)) 1 =
        sum-but b (λ c. when (up c && not (c == a)) 1) (λ c. when (up c) 1) a low
        (λ c ne. rw (ne_eqb c a ne) (plain (up c))) in
        let one : when (up a) 1 ≡ 1 = ap (λ (t : Bool). when t 1) here in
        let none : when (up a && not (a == a)) 1 ≡ 0 = rw (eq-eqb a a refl) (nothing (up a)) in
        let count : sum_below b (λ c. when (up c) 1) ≡ length (nodes_of b up) * 1 = sum-each b up 1 in
        omega (arith, but, one, none, count, most)
      where
        plain : (t : Bool) → when (t && true) 1 ≡ when t 1
        plain true = refl
        plain false = refl

        nothing : (t : Bool) → when (t && false) 1 ≡ 0
        nothing true = refl
        nothing false = refl

    told : laden C u ≤ laden C (begun (w.node a)) + sum_below b (λ c. when (up c && not (c == a)) 1)
    told =
        let sends : _ = sent_each b (weights C) up a b (λ c. in_world o c && not (c == a)) Letter.Down in
        let less : sum_below b (λ c. when (up c && (in_world o c && not (c == a))) 1)
        ≤ sum_below b (λ c. when (up c && not (c == a)) 1) =
        sum-le b (λ c. when (up c && (in_world o c && not (c == a))) 1) (λ c. when (up c && not (c == a)) 1)
        (λ c l. by (up c) (in_world o c) (not (c == a))) in omega (arith, sends, less)
      where
        by : (s t z : Bool) → when (s && (t && z)) 1 ≤ when (s && z) 1
        by true true z = omega arith
        by true false z = omega arith
        by false t z = omega arith

    other : (c : ℕ) → fewer c ≡ true → c ≡ a → ⊥
    other c e same = cc (e, ap fewer same, gone)

    pub leave_pays_work : counted o n fewer few a x ≤ counted o n up most a w + (n - 1)
    leave_pays_work =
        let less : _ = total_less b n fewer (may_die w) (may_die x) (mortal (At a Event.Leave) h) x in
        let closed : total b (weights C) fewer x ≤ total b (weights C) up y =
        total_sub b (weights C) fewer up sub x y (λ c e. refl)
        (λ f c e. ap (λ (t : Bool). if t then [] else y.links.queue f c) (ne_eqb c a (other c e))) in
        let turn : _ = turn_total b (weights C) up a u w low here in
        let spent : _ = told in
        let rest : _ = others in omega (arith, less, closed, turn, spent, rest)
