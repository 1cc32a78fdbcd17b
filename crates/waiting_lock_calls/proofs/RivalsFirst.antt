-- Behind the retry the call's request stands in front of its rivals', and all letters go to bosses.
-- w: the quiet world; a: the node; c: the call, which no rival comes before.
use Rattle.std.proofs.Common.{ℕ, zero, suc, Bool, true, false, ◌==◌, ◌≡◌, ◌<◌, ◌≤◌, Option, Some, None, List, [], ◌∷◌, ◌++◌, refl, sym, ap, subst, ◌∙◌, inl, inr, arith}
use Rattle.std.specs.Prelude.{not, ◌&&◌, ◌||◌, nat_lt, Contains, fold, if◌then◌else◌}
use Rattle.std.specs.List.{list_all}
use Rattle.std.proofs.Math.Bool.{or-true, and-false}
use Rattle.std.proofs.lemmas.Bool.{cases_eq, eq-eqb, eqb-true, lt-ltb, le-ltb}
use Rattle.std.proofs.lemmas.List.Elements.{Contains-append_left}
use Rattle.std.proofs.lemmas.List.Folds.{list_all-append}
use Rattle.std.proofs.lemmas.List.Sums.{fold-append}
use Rattle.registry_model.specs.Process.{Text, Process, is_process, Nodes}
use Rattle.registry_model.proofs.Lists.{Contains-cases, Contains-front, Contains-behind, Contains-nil, Contains-split}
use Rattle.registry_model.proofs.Updates.{by_test}
use Rattle.protocol_model.specs.Letter.{Id, Client, Letter, Global, is_id, is_resource}
use Rattle.protocol_model.specs.LockTable.{Locks}
use Rattle.protocol_model.specs.Round.{Round, is_empty, greatest, begin}
use Rattle.protocol_model.specs.Watch.{owed}
use Rattle.protocol_model.specs.Node.{Op, Current, LockPhase, LockCall, Retries, targets}
use Rattle.protocol_model.specs.Turn.{Turn, Send, begun, with_queue, sent_to}
use Rattle.protocol_model.specs.Registrar.{registrar, ask_join, contact_left, start_queue, start_next, start_free, start, retry_global}
use Rattle.protocol_model.specs.Client.{in_phase, one_less, close_call, ask_lock, try_lock, retry_in, retry_locks}
use Rattle.protocol_model.specs.Event.{Event}
use Rattle.protocol_model.specs.World.{Opening, World, At, turn_of, refusal, accepted}
use Rattle.protocol_model.proofs.Ids.{is_id_self}
use Rattle.getting_through.proofs.Indices.{both, not_true, not_false, some_of, greatest_in}
use Rattle.getting_through.proofs.Invariants.{Each, IsUp}
use Rattle.getting_through.proofs.Rules.{is_ordered}
use Rattle.getting_through.proofs.Sends.{sent_to-append, sent_to-one}
use Rattle.walk.proofs.Calls.{AllAfter, all_after, ordered_parts}
use Rattle.getting_through.proofs.Base.{each-map, each-posted, posted-here}
use Rattle.getting_through.proofs.Families.{Whole}
use Rattle.getting_through.proofs.GrantLists.{all_grants}
use Rattle.getting_through.proofs.Ids.{is_process_same}
use Rattle.getting_through.proofs.Ongoing.{asked_begin}
use Rattle.waiting_lock_calls.specs.Retried.{asks, IsRival}
use Rattle.waiting_lock_calls.specs.HeldUp.{boss_of, comes_before}
use Rattle.waiting_lock_calls.proofs.Asked.{AsksBoss, Begins, Begun, retry_begun}
use Rattle.waiting_lock_calls.proofs.Rounds.{rounds_first}
use Rattle.waiting_lock_calls.proofs.Unrivalled.{is_clear}
use Rattle.waiting_lock_calls.proofs.Front.{is_bad, is_own, is_in_front, none_bad, none_own, front_none_bad, front_append}
use Rattle.waiting_lock_calls.proofs.Rivals.{Fits, IsRoundOf, IsOrdered}
use Rattle.getting_through.specs.Worlds.{of_nodes, IsQuiet}

-- no node of a set is above its greatest
greatest_most : (n : ℕ) (s : Nodes) (x : ℕ) → x < n → s x ≡ true → x ≤ greatest n s
greatest_most zero s x l h = absurd (omega (arith, l))
greatest_most (suc n) s x l h = elim (cases_eq x n) [
  | inl e ↦ let top : greatest (suc n) s ≡ n = ap (λ (b : Bool). if b then n else greatest n s) (subst (λ (y : ℕ). s y ≡ true) e h) in
      omega (arith, e, top)
  | inr ne ↦ let below : x ≤ greatest n s = greatest_most n s x (omega (arith, l, ne)) h in go (s n) refl below
]
  where
    go : (b : Bool) → s n ≡ b → x ≤ greatest n s → x ≤ (if b then n else greatest n s)
    go true e i = omega (arith, l)
    go false e i = i

-- what comes behind a call is of a greater serial
after_all : (s : ℕ) (cs : List LockCall) → AllAfter s cs → (d : LockCall) → Contains cs d → nat_lt s d.holder.serial ≡ true
after_all s [] h d i = absurd (Contains-nil d i)
after_all s (x ∷ cs) h d i = elim (Contains-cases x cs d i) [
  | inl e ↦ subst (λ (y : LockCall). nat_lt s y.holder.serial ≡ true) e h.0
  | inr k ↦ after_all s cs h.1 d k
]

-- and what comes before it of a lesser one
before_all : (a : ℕ) (xs ys : List LockCall) (c : LockCall) → is_ordered a (xs ++ c ∷ ys) ≡ true → (d : LockCall) → Contains xs d
    → nat_lt d.holder.serial c.holder.serial ≡ true
before_all a [] ys c h d i = absurd (Contains-nil d i)
before_all a (x ∷ xs) ys c h d i = elim (Contains-cases x xs d i) [
  | inl e ↦ subst (λ (y : LockCall). nat_lt y.holder.serial c.holder.serial ≡ true) e
      (after_all x.holder.serial (xs ++ c ∷ ys) (all_after a x.holder.serial (xs ++ c ∷ ys)
      (ordered_parts a x (xs ++ c ∷ ys) h).2 (ordered_parts a x (xs ++ c ∷ ys) h).3) c (there xs))
  | inr k ↦ before_all a xs ys c (ordered_parts a x (xs ++ c ∷ ys) h).3 d k
]
  where
    there : (zs : List LockCall) → Contains (zs ++ c ∷ ys) c
    there [] = Contains-front c ys
    there (z ∷ zs) = Contains-behind z (zs ++ c ∷ ys) c (there zs)

-- and the calls behind it
behind_all : (a : ℕ) (xs ys : List LockCall) (c : LockCall) → is_ordered a (xs ++ c ∷ ys) ≡ true → (d : LockCall) → Contains ys d
    → nat_lt c.holder.serial d.holder.serial ≡ true
behind_all a [] ys c h d i = after_all c.holder.serial ys (all_after a c.holder.serial ys (ordered_parts a c ys h).2
    (ordered_parts a c ys h).3) d i
behind_all a (x ∷ xs) ys c h d i = behind_all a xs ys c (ordered_parts a x (xs ++ c ∷ ys) h).3 d i

-- Letters to one node, one after another
module _ (c : LockCall) (n a boss : ℕ) where
  abbrev to_boss : List Send → List Letter
  to_boss ss = sent_to boss ss

  -- one more, by a test of those to that node
  pushed : (test : Letter → Bool) (ss : List Send) (t : ℕ) (l : Letter) → list_all test (to_boss ss) ≡ true
      → (t ≡ boss → test l ≡ true) → list_all test (to_boss (ss ++ record { to = t; letter = l } ∷ [])) ≡ true
  pushed test ss t l h k = ap (list_all test) (sent_to-append boss ss (record { to = t; letter = l } ∷ []))
      ∙ list_all-append test (to_boss ss) (to_boss (record { to = t; letter = l } ∷ []))
      ∙ ap (λ (b : Bool). b && list_all test (to_boss (record { to = t; letter = l } ∷ []))) h
      ∙ ap (list_all test) (sent_to-one boss t l) ∙ go (t == boss) refl
    where
      go : (b : Bool) → (t == boss) ≡ b → list_all test (if b then l ∷ [] else []) ≡ true
      go true e = rw (k (eqb-true t boss e)) refl
      go false e = refl

  pushed_front : (ss : List Send) (t : ℕ) (l : Letter) → is_in_front c (to_boss ss) ≡ true → (t ≡ boss → is_own c l ≡ false)
      → is_in_front c (to_boss (ss ++ record { to = t; letter = l } ∷ [])) ≡ true
  pushed_front ss t l h k = subst (λ (ls : List Letter). is_in_front c ls ≡ true)
      (sym (sent_to-append boss ss (record { to = t; letter = l } ∷ [])))
      (front_append c (to_boss ss) (to_boss (record { to = t; letter = l } ∷ [])) h
      (ap (none_own c) (sent_to-one boss t l) ∙ go (t == boss) refl))
    where
      go : (b : Bool) → (t == boss) ≡ b → none_own c (if b then l ∷ [] else []) ≡ true
      go true e = rw (k (eqb-true t boss e)) refl
      go false e = refl

  -- calls that are tried one after another, where each letter keeps what is kept
  module _ (members : Nodes) (P : List Send → Type 0) (is_tried : LockCall → Type 0)
      (push : (d : LockCall) → is_tried d → is_empty n (targets members d.target) ≡ false → (ss : List Send) → P ss
      → P (ss ++ record { to = greatest n (targets members d.target); letter = Letter.SetLock d.id d.holder } ∷ [])) where
    pub record Kept (u : Turn) : Type 0 where
      pub same : u.node.replica.members ≡ members
      pub sends : P u.sends

    one_tried : (d : LockCall) → is_tried d → (k : Retries) (u : Turn) → Kept u → Kept (try_lock n a (record d { retries = k }) u)
    one_tried d i k u K = go (is_empty n (targets u.node.replica.members d.target)) refl
      where
        go : (b : Bool) → is_empty n (targets u.node.replica.members d.target) ≡ b
            → Kept (if b then close_call n a (record d { retries = k }) false u
            else ask_lock n a (record d { retries = k }) (targets u.node.replica.members d.target) u)
        go true e = record { same = K.same; sends = K.sends }
        go false e = record {
          same = K.same;
          sends = subst (λ (m : Nodes). P (u.sends ++ record {
            to = greatest n (targets m d.target);
            letter = Letter.SetLock d.id d.holder;
          } ∷ [])) (sym K.same) (push d i (ap (λ (m : Nodes). is_empty n (targets m d.target)) (sym K.same) ∙ e) u.sends K.sends);
        }

    some_tried : (cs : List LockCall) → ((d : LockCall) → Contains cs d → is_tried d) → (u : Turn) → Kept u
        → Kept (fold (λ turn d. retry_in n a d.phase d turn) u cs)
    some_tried [] i u K = K
    some_tried (d ∷ cs) i u K = some_tried cs (λ e k. i e (Contains-behind d cs e k)) (retry_in n a d.phase d u) (go d.phase)
      where
        go : (f : LockPhase) → Kept (retry_in n a f d u)
        go LockPhase.Waiting = one_tried d (i d (Contains-front d cs)) (one_less d.retries) u K
        go (LockPhase.Asking r) = K
        go (LockPhase.Deleting owing) = K

  -- what starts then asks for no client's lock
  start_front : (u : Turn) → is_in_front c (to_boss u.sends) ≡ true → is_in_front c (to_boss (start n a u).sends) ≡ true
  start_front u h = go u.node.current
    where
      queue : (ops : List Op) (x : Turn) → is_in_front c (to_boss x.sends) ≡ true
          → is_in_front c (to_boss (start_queue n a ops x).sends) ≡ true
      queue [] x k = k
      queue (Op.Join i m ∷ ops) x k = by (x.node.replica.told m) (queue ops (contact_left n a i m x) k)
        where
          by : (b : Bool) → is_in_front c (to_boss (start_queue n a ops (contact_left n a i m x)).sends) ≡ true
              → is_in_front c (to_boss (if b then start_queue n a ops (contact_left n a i m x)
              else ask_join n a i m (with_queue ops x)).sends) ≡ true
          by true e = e
          by false e = pushed_front x.sends m (Letter.JoinAsk x.node.replica.table) k (λ i. refl)
      queue (op ∷ ops) x k = pushed_front x.sends (greatest n x.node.replica.members) (Letter.SetLock (Global a) (registrar a)) k
          (λ i. refl)

      next : (s : Option ℕ) → is_in_front c (to_boss (start_next n a s u).sends) ≡ true
      next (Some s) = pushed_front u.sends (greatest n u.node.replica.members) (Letter.SetLock (Global a) (registrar a)) h (λ i. refl)
      next None = queue u.node.queue u h

      go : (x : Current) → is_in_front c (to_boss (start_free n a x u).sends) ≡ true
      go Current.Free = next (owed a u.node.replica.table u.node.watch)
      go (Current.Asking op r) = h
      go (Current.Waiting op) = h
      go (Current.Writing op s awaited reply) = h
      go (Current.Joining k m) = h

module _ (o : Opening) (w : World) (a : ℕ) (c : LockCall) (r z : Text) (of : c.id ≡ Client r z) (client : (c.holder.serial == 0) ≡ false)
    (unique : (b d : LockCall) → Contains (w.node a).calls b → Contains (w.node a).calls d → b.holder ≡ d.holder → b ≡ d)
    (clients : (b : LockCall) → Contains (w.node a).calls b → (b.holder.serial == 0) ≡ false)
    (listed : Contains (w.node a).calls c) (mine : asks w a c (boss_of o w a c) ≡ true)
    (W : Whole o w) (Q : IsQuiet (of_nodes o) w) (h : refusal o w (At a Event.Retry) ≡ None)
    (below : (d : LockCall) (x : ℕ) → asks w a d x ≡ true → x < o.bound)
    (none_before : (d : LockCall) → IsRival w a c d → comes_before o w a d c ≡ true → ⊥)
    (free : (x : ℕ) → asks w a c x ≡ true → all_grants (is_clear c) (w.node x).locks ≡ true) where
  abbrev boss : ℕ
  boss = boss_of o w a c

  abbrev u : Turn
  u = turn_of o w (At a Event.Retry)

  abbrev members : Nodes
  members = (w.node a).replica.members

  abbrev Ordered : World → Type 0
  Ordered v = IsOrdered o w a c r z of client unique clients listed mine v

  abbrev RoundOf : LockCall → Round → Type 0
  RoundOf d round = IsRoundOf o w a c r z of client unique clients listed mine d round

  abbrev Fit : ℕ → ℕ → Letter → Type 0
  Fit f t l = Fits o w a c r z of client unique clients listed mine f t l

  begun_turn : Begun w a o.bound u
  begun_turn = retry_begun w a o.bound

  -- who is in the call's way where it asks is a rival
  rival : (d : LockCall) → Contains (w.node a).calls d → (q : Process) → is_clear c d.id q ≡ false → (x : ℕ) → asks w a c x ≡ true
      → asks w a d x ≡ true → IsRival w a c d
  rival d i q e x k l =
      let parts : (is_resource d.id c.id ≡ true) × (not (is_id d.id c.id) ≡ true) =
      both (is_resource d.id c.id) (not (is_id d.id c.id)) (not_false (is_resource d.id c.id && not (is_id d.id c.id)) e) in
      record {
        listed = i;
        resource = parts.0;
        requester = not_true (is_id d.id c.id) parts.1;
        node = x;
        asked = k;
        asked_too = l;
      }

  -- so it asks the call's boss first, where that is a node that the call asks
  at_boss : (d : LockCall) → Contains (w.node a).calls d → (q : Process) → is_clear c d.id q ≡ false → (x : ℕ)
      → asks w a d x ≡ true → x ≡ boss_of o w a d → asks w a c x ≡ true → x ≡ boss
  at_boss d i q e x l top k = elim (cases_eq x boss) [
    | inl same ↦ same
    | inr ne ↦
        let at_most : x ≤ boss = greatest_most o.bound (asks w a c) x (below c x k) k in
        let less : nat_lt (boss_of o w a d) boss ≡ true = subst (λ (y : ℕ). nat_lt y boss ≡ true) top
        (lt-ltb x boss (omega (arith, at_most, ne))) in
        absurd (none_before d (rival d i q e x k l) (ap (λ (b : Bool). b
        || (boss_of o w a d == boss) && nat_lt d.holder.serial c.holder.serial) less))
  ]

  letters : (y : ℕ) (l : Letter) → Begins w a o.bound y l → Fit a y l
  letters y (Letter.SetLock id q) b = λ ne.
      let A : AsksBoss w a o.bound y id q = b ne in
      record {
        call = A.0;
        waited = A.1;
        its_id = A.2;
        its_holder = A.3;
        asked = A.4;
        first = λ k unclear. at_boss A.0 A.1 q (ap (λ (i : Id). is_clear c i q) A.2 ∙ unclear) y A.4 A.5 k;
      }
  letters y (Letter.LockAnswer id q g) b = absurd b
  letters y l b = tt

  -- calls before it aren't in its way at its boss
  before_clear : (xs ys : List LockCall) → (w.node a).calls ≡ xs ++ c ∷ ys → (d : LockCall) → Contains xs d
      → is_empty o.bound (asks w a d) ≡ false → boss_of o w a d ≡ boss → not (is_bad c (Letter.SetLock d.id d.holder)) ≡ true
  before_clear xs ys split d i some same = go (not (d.holder.serial == 0) && not (is_clear c d.id d.holder)) refl
    where
      there : Contains (w.node a).calls d
      there = subst (λ (cs : List LockCall). Contains cs d) (sym split) (Contains-append_left xs (c ∷ ys) d i)

      less : nat_lt d.holder.serial c.holder.serial ≡ true
      less = before_all a xs ys c (subst (λ (cs : List LockCall). is_ordered a cs ≡ true) split (W.base.ordered a)) d i

      go : (b : Bool) → (not (d.holder.serial == 0) && not (is_clear c d.id d.holder)) ≡ b → not b ≡ true
      go false e = refl
      go true e =
          let unclear : is_clear c d.id d.holder ≡ false = not_true (is_clear c d.id d.holder)
          (both (not (d.holder.serial == 0)) (not (is_clear c d.id d.holder)) e).1 in
          let one : (x : ℕ) × (x < o.bound) × (asks w a d x ≡ true) = some_of o.bound (asks w a d) some in
          let asks_boss : asks w a d boss ≡ true = subst (λ (y : ℕ). asks w a d y ≡ true) same
          (greatest_in o.bound (asks w a d) one.0 one.1 one.2) in
          absurd (none_before d (rival d there d.holder unclear boss mine asks_boss)
          (ap (λ (b : Bool). nat_lt (boss_of o w a d) boss || b) (rw (eq-eqb (boss_of o w a d) boss same, less) refl)
          ∙ or-true (nat_lt (boss_of o w a d) boss)))

  -- nor are calls behind it the same
  behind_other : (xs ys : List LockCall) → (w.node a).calls ≡ xs ++ c ∷ ys → (d : LockCall) → Contains ys d
      → is_own c (Letter.SetLock d.id d.holder) ≡ false
  behind_other xs ys split d i = go (not (d.holder.serial == 0) && is_process d.holder c.holder) refl
    where
      more : nat_lt c.holder.serial d.holder.serial ≡ true
      more = behind_all a xs ys c (subst (λ (cs : List LockCall). is_ordered a cs ≡ true) split (W.base.ordered a)) d i

      go : (b : Bool) → (not (d.holder.serial == 0) && is_process d.holder c.holder) ≡ b → b ≡ false
      go false e = refl
      go true e =
          let same : d.holder ≡ c.holder = is_process_same d.holder c.holder
          (both (not (d.holder.serial == 0)) (is_process d.holder c.holder) e).1 in
          cc (
            subst (λ (p : Process). nat_lt c.holder.serial p.serial ≡ true) same more,
            le-ltb c.holder.serial c.holder.serial (omega arith),
          )

  own_clear : not (is_bad c (Letter.SetLock c.id c.holder)) ≡ true
  own_clear = rw (is_id_self c.id, and-false (is_resource c.id c.id), and-false (not (c.holder.serial == 0))) refl

  abbrev retried : Turn → LockCall → Turn
  retried x d = retry_in o.bound a d.phase d x

  abbrev NoneBad : List Send → Type 0
  NoneBad ss = none_bad c (sent_to boss ss) ≡ true

  abbrev InFront : List Send → Type 0
  InFront ss = is_in_front c (sent_to boss ss) ≡ true

  -- those before the call, then the call, then those behind it
  module _ (xs ys : List LockCall) (split : (w.node a).calls ≡ xs ++ c ∷ ys) where
    abbrev Early : LockCall → Type 0
    Early d = is_empty o.bound (asks w a d) ≡ false → boss_of o w a d ≡ boss → not (is_bad c (Letter.SetLock d.id d.holder)) ≡ true

    early_push : (d : LockCall) → Early d → is_empty o.bound (targets members d.target) ≡ false → (ss : List Send) → NoneBad ss
        → NoneBad (ss ++ record { to = greatest o.bound (targets members d.target); letter = Letter.SetLock d.id d.holder } ∷ [])
    early_push d i some ss k = pushed c o.bound a boss (λ l. not (is_bad c l)) ss (greatest o.bound (targets members d.target))
        (Letter.SetLock d.id d.holder) k (i some)

    abbrev Late : LockCall → Type 0
    Late d = is_own c (Letter.SetLock d.id d.holder) ≡ false

    late_push : (d : LockCall) → Late d → is_empty o.bound (targets members d.target) ≡ false → (ss : List Send) → InFront ss
        → InFront (ss ++ record { to = greatest o.bound (targets members d.target); letter = Letter.SetLock d.id d.holder } ∷ [])
    late_push d i some ss k = pushed_front c o.bound a boss ss (greatest o.bound (targets members d.target))
        (Letter.SetLock d.id d.holder) k (λ e. i)

    all_in_front : (x : Turn) → x.node.replica.members ≡ members → NoneBad x.sends → InFront (fold retried x (w.node a).calls).sends
    all_in_front x same none = subst (λ (cs : List LockCall). InFront (fold retried x cs).sends) (sym split)
        (subst (λ (t : Turn). InFront t.sends) (sym (fold-append retried x xs (c ∷ ys))) last.sends)
      where
        one : Kept c o.bound a boss members NoneBad Early early_push (fold retried x xs)
        one = some_tried c o.bound a boss members NoneBad Early early_push xs (λ d i. before_clear xs ys split d i) x
            (record { same = same; sends = none })

        two : Kept c o.bound a boss members NoneBad Early early_push (fold retried (fold retried x xs) (c ∷ []))
        two = some_tried c o.bound a boss members NoneBad Early early_push (c ∷ []) own (fold retried x xs) one
          where
            own : (d : LockCall) → Contains (c ∷ []) d → Early d
            own d i some e = elim (Contains-cases c [] d i) [
              | inl k ↦ subst (λ (y : LockCall). not (is_bad c (Letter.SetLock y.id y.holder)) ≡ true) k own_clear
              | inr k ↦ absurd (Contains-nil d k)
            ]

        last : Kept c o.bound a boss members InFront Late late_push (fold retried (fold retried (fold retried x xs) (c ∷ [])) ys)
        last = some_tried c o.bound a boss members InFront Late late_push ys (λ d i. behind_other xs ys split d i)
            (fold retried (fold retried x xs) (c ∷ []))
            (record {
              same = two.same;
              sends = front_none_bad c (sent_to boss (fold retried (fold retried x xs) (c ∷ [])).sends) two.sends;
            })

  front : is_in_front c (sent_to boss u.sends) ≡ true
  front = start_front c o.bound a boss (retry_locks o.bound a (retry_global o.bound a (w.node a).current (begun (w.node a))))
      (by (Contains-split (w.node a).calls c listed))
    where
      by : (xs : List LockCall) × (ys : List LockCall) × ((w.node a).calls ≡ xs ++ c ∷ ys)
          → InFront (retry_locks o.bound a (retry_global o.bound a (w.node a).current (begun (w.node a)))).sends
      by (xs, ys, split) = go (w.node a).current
        where
          go : (x : Current) → InFront (retry_locks o.bound a (retry_global o.bound a x (begun (w.node a)))).sends
          go (Current.Waiting op) = all_in_front xs ys split (retry_global o.bound a (Current.Waiting op) (begun (w.node a))) refl
              (pushed c o.bound a boss (λ l. not (is_bad c l)) [] (greatest o.bound members) (Letter.SetLock (Global a) (registrar a))
              refl (λ e. refl))
          go Current.Free = all_in_front xs ys split (begun (w.node a)) refl refl
          go (Current.Asking op r) = all_in_front xs ys split (begun (w.node a)) refl refl
          go (Current.Writing op s awaited reply) = all_in_front xs ys split (begun (w.node a)) refl refl
          go (Current.Joining k m) = all_in_front xs ys split (begun (w.node a)) refl refl

  -- a call that is tried anew has its round
  begins : (b : LockCall) → Contains (w.node a).calls b
      → RoundOf (in_phase (LockPhase.Asking (begin o.bound (asks w a b))) (record b { retries = one_less b.retries }))
      (begin o.bound (asks w a b))
  begins b there = record {
    call = b;
    waited = there;
    its_id = refl;
    its_holder = refl;
    its_boss = refl;
    asks_those = λ x k. sym (asked_begin o.bound (asks w a b) x) ∙ k;
  }

  pub ordered_first : IsUp o w a → IsUp o w boss → Ordered (accepted o w (At a Event.Retry))
  ordered_first up_a up_boss = record {
    stay = refl;
    rounds = rounds_first o w RoundOf a W Q begins;
    letters = λ f y inside up. each-posted (Fit f y) a (λ n. sent_to n u.sends) w.links f y
        (subst (Each (Fit f y)) (sym (Q f y inside up)) tt)
        (λ i. subst (λ (n : ℕ). Each (Fit n y) (sent_to y u.sends)) (sym i)
        (each-map (Begins w a o.bound y) (Fit a y) (letters y) (sent_to y u.sends) (begun_turn.sends y)));
    front = subst (λ (ls : List Letter). is_in_front c ls ≡ true) (sym (posted-here a (λ n. sent_to n u.sends) w.links boss up_boss.1
        ∙ ap (λ (ls : List Letter). ls ++ sent_to boss u.sends) (Q a boss up_a.0 up_boss))) front;
    ways = λ y k. by_test a (λ n b. asks w a c n ≡ true
        → all_grants (is_clear c) (if b then u.node else w.node n).locks ≡ true)
        (λ i. subst (λ (ls : Locks). all_grants (is_clear c) ls ≡ true) (sym begun_turn.locks) (free a i)) (λ n ne i. free n i) y k;
  }
