-- Deliveries and retries begin no lock call: each that is open behind them was open before. So there are fewer of them where one is over.
-- v0: the world before.
use Rattle.std.proofs.Common.{ℕ, zero, suc, Bool, true, false, ◌≡◌, ◌<◌, ◌≤◌, Option, Some, None, List, [], ◌∷◌, ◌++◌, length, refl, sym, ap, subst, ◌∙◌, inl, inr, arith}
use Rattle.std.specs.Prelude.{not, ◌&&◌, is_none, nat_lt, if◌then◌else◌}
use Rattle.std.specs.List.{list_all}
use Rattle.std.proofs.lemmas.Bool.{cases_eq, le-ltb}
use Rattle.registry_model.specs.Process.{Process, is_process, Nodes}
use Rattle.protocol_model.specs.Round.{is_empty}
use Rattle.protocol_model.specs.Node.{LockPhase, LockCall, call_of, drop_call, targets}
use Rattle.protocol_model.specs.Client.{in_phase, is_spent}
use Rattle.protocol_model.specs.Event.{Event, Refusal}
use Rattle.protocol_model.specs.World.{Opening, in_world, World, left, WorldEvent, At, Deliver, opening_world, refusal, accepted, happens}
use Rattle.getting_through.proofs.Invariants.{IsUp}
use Rattle.getting_through.proofs.Rules
use Rattle.getting_through.proofs.Rules.{Rule, May, is_ordered}
use Rattle.walk.proofs.Calls.{AllAfter, all_after, ordered_parts, is_ordered-drop_call}
use Rattle.walk.proofs.ChainKinds.{Hearing, suits}
use Rattle.walk.proofs.Walk.{OrderedWalk}
use Rattle.getting_through.proofs.Tied.{run-push}
use Rattle.getting_through.proofs.Calls.{call_of-drop, holder_of_call, home_of_call}
use Rattle.getting_through.proofs.Families.{whole}
use Rattle.getting_through.proofs.RoundNumbers.{round_count}
use Rattle.getting_through.proofs.Clients.{Numbers, call_at}
use Rattle.getting_through.proofs.Grounds.{Base, lock_state}
use Rattle.getting_through.proofs.Ids.{is_process_same, is_process_self}
use Rattle.getting_through.proofs.Phases.{StepOk, Puts, Drops, step_of}
use Rattle.getting_through.proofs.Told.{chain_of}
use Rattle.getting_through.proofs.Behind.{Known, walk_of, plain_hears}
use Rattle.getting_through.proofs.CallSteps.{AllCalls, found_at, calls_kept}
use Rattle.getting_through.proofs.CallTurns.{some_unless, anew_in, anew}
use Rattle.getting_through.proofs.EventTurns.{AgainTurn, again_turn}
use Rattle.getting_through.proofs.Verdicts.{kept_in}
use Rattle.getting_through.specs.Weights.{sum_below, when}
use Rattle.getting_through.proofs.Sums.{sum-le}
use Rattle.waiting_lock_calls.proofs.Tried.{along}
use Rattle.getting_through.specs.Worlds.{running, is_delivery_or_retry}
use Rattle.getting_through.specs.Clauses.{world}

-- Lists of calls
without_less : (p : Process) (cs : List LockCall) → length (drop_call p cs) ≤ length cs
without_less p [] = omega arith
without_less p (d ∷ cs) = go (is_process d.holder p) (without_less p cs)
  where
    go : (b : Bool) → length (drop_call p cs) ≤ length cs
        → length (if not b then d ∷ drop_call p cs else drop_call p cs) ≤ length (d ∷ cs)
    go true h = omega (arith, h)
    go false h = omega (arith, h)

-- one less, where there is one
without_one : (p : Process) (cs : List LockCall) (c : LockCall) → call_of p cs ≡ Some c → length (drop_call p cs) < length cs
without_one p [] c e = cc e
without_one p (d ∷ cs) c e = go (is_process d.holder p) e (without_less p cs) (without_one p cs c)
  where
    go : (b : Bool) → (if b then Some d else call_of p cs) ≡ Some c → length (drop_call p cs) ≤ length cs
        → (call_of p cs ≡ Some c → length (drop_call p cs) < length cs)
        → length (if not b then d ∷ drop_call p cs else drop_call p cs) < length (d ∷ cs)
    go true k h more = omega (arith, h)
    go false k h more = let m : length (drop_call p cs) < length cs = more k in omega (arith, m)

-- and at most one, since a process has one at most
after_kept : (p : Process) (cs : List LockCall) → AllAfter p.serial cs → length (drop_call p cs) ≡ length cs
after_kept p [] h = refl
after_kept p (d ∷ cs) h = ap (λ (b : Bool). length (if not b then d ∷ drop_call p cs else drop_call p cs))
    (other (is_process d.holder p) refl)
    ∙ ap suc (after_kept p cs h.1)
  where
    other : (b : Bool) → is_process d.holder p ≡ b → b ≡ false
    other false e = refl
    other true e = cc (
      ap (λ (q : Process). nat_lt p.serial q.serial) (is_process_same d.holder p e),
      h.0,
      le-ltb p.serial p.serial (omega arith),
    )

at_most_one : (a : ℕ) (p : Process) (cs : List LockCall) → is_ordered a cs ≡ true → length cs ≤ suc (length (drop_call p cs))
at_most_one a p [] h = omega arith
at_most_one a p (d ∷ cs) h = go (is_process d.holder p) refl (at_most_one a p cs (ordered_parts a d cs h).3)
  where
    go : (b : Bool) → is_process d.holder p ≡ b → length cs ≤ suc (length (drop_call p cs))
        → length (d ∷ cs) ≤ suc (length (if not b then d ∷ drop_call p cs else drop_call p cs))
    go true e more = let same : length (drop_call p cs) ≡ length cs = after_kept p cs (subst (λ (q : Process). AllAfter q.serial cs)
        (is_process_same d.holder p e) (all_after a d.holder.serial cs (ordered_parts a d cs h).2 (ordered_parts a d cs h).3)) in
        omega (arith, same)
    go false e more = omega (arith, more)

-- whose processes are among those of others, there are no more of them
no_more_calls : (a : ℕ) (xs ys : List LockCall) → is_ordered a ys ≡ true
    → ((q : Process) (d : LockCall) → call_of q ys ≡ Some d → (b : LockCall) × (call_of q xs ≡ Some b)) → length ys ≤ length xs
no_more_calls a [] [] sorted sub = omega arith
no_more_calls a [] (y ∷ ys) sorted sub = cc (sub y.holder y (rw (is_process_self y.holder) refl)).1
no_more_calls a (x ∷ xs) ys sorted sub =
    let less : length (drop_call x.holder ys) ≤ length xs = no_more_calls a xs (drop_call x.holder ys)
    (is_ordered-drop_call a x.holder ys sorted) rest in
    let one : length ys ≤ suc (length (drop_call x.holder ys)) = at_most_one a x.holder ys sorted in
    omega (arith, less, one)
  where
    rest : (q : Process) (d : LockCall) → call_of q (drop_call x.holder ys) ≡ Some d → (b : LockCall) × (call_of q xs ≡ Some b)
    rest q d e = go (is_process x.holder q) refl (sym (call_of-drop q x.holder ys) ∙ e)
      where
        go : (b : Bool) → is_process x.holder q ≡ b → (if b then None else call_of q ys) ≡ Some d
            → (k : LockCall) × (call_of q xs ≡ Some k)
        go true i k = cc k
        go false i k = let S : (b : LockCall) × (call_of q (x ∷ xs) ≡ Some b) = sub q d k in
            (S.0, sym (ap (λ (b : Bool). if b then Some x else call_of q xs) i) ∙ S.1)

-- and fewer where one of those isn't
fewer_calls : (a : ℕ) (xs ys : List LockCall) (p : Process) (c : LockCall) → is_ordered a ys ≡ true
    → ((q : Process) (d : LockCall) → call_of q ys ≡ Some d → (b : LockCall) × (call_of q xs ≡ Some b)) → call_of p xs ≡ Some c
    → call_of p ys ≡ None → length ys < length xs
fewer_calls a xs ys p c sorted sub there gone =
    let less : length ys ≤ length (drop_call p xs) = no_more_calls a (drop_call p xs) ys sorted rest in
    let one : length (drop_call p xs) < length xs = without_one p xs c there in omega (arith, less, one)
  where
    rest : (q : Process) (d : LockCall) → call_of q ys ≡ Some d → (b : LockCall) × (call_of q (drop_call p xs) ≡ Some b)
    rest q d e = go (is_process p q) refl
      where
        S : (b : LockCall) × (call_of q xs ≡ Some b)
        S = sub q d e

        go : (b : Bool) → is_process p q ≡ b → (k : LockCall) × (call_of q (drop_call p xs) ≡ Some k)
        go true i = cc (subst (λ (r : Process). call_of r ys ≡ None) (is_process_same p q i) gone, e)
        go false i = (S.0, call_of-drop q p xs ∙ ap (λ (b : Bool). if b then None else call_of q xs) i ∙ S.1)

-- a lesser sum
pub sum_less : (n : ℕ) (f g : ℕ → ℕ) (a : ℕ) → ((x : ℕ) → x < n → f x ≤ g x) → a < n → f a < g a → sum_below n f < sum_below n g
sum_less zero f g a all l less = absurd (omega (arith, l))
sum_less (suc n) f g a all l less = elim (cases_eq a n) [
  | inl e ↦
      let below : sum_below n f ≤ sum_below n g = sum-le n f g (λ x k. all x (omega (arith, k))) in
      let here : f n < g n = subst (λ (y : ℕ). f y < g y) e less in omega (arith, below, here)
  | inr ne ↦
      let below : sum_below n f < sum_below n g = sum_less n f g a (λ x k. all x (omega (arith, k))) (omega (arith, l, ne)) less in
      let here : f n ≤ g n = all n (omega arith) in omega (arith, below, here)
]

-- how many lock calls are open at nodes that run
abbrev pub open_calls : Opening → World → ℕ
open_calls o v = sum_below o.bound (λ x. when (running o v x) (length (v.node x).calls))

module _ (o : Opening) (v0 : World) where
  -- an open call was open before, under the same number
  abbrev pub Was : Process → LockCall → Type 0
  Was q d = (b : LockCall) × (call_at v0 q ≡ Some b) × (b.number ≡ d.number)

  pub was_self : AllCalls Was v0
  was_self q d e = (d, e, refl)

  was_put : (t : ℕ) (v : World) → Base o v → AllCalls Was v → (x : Rule) → suits Hearing x ≡ true → May o t v x
      → StepOk (λ d. Was d.holder d) (step_of o.bound (v.node t) x)
  was_put t v B K (Rules.HearsLock f id g d round) h m = K d.holder d (found_at v t B.ordered d (LockPhase.Asking round) m.tested.2)
  was_put t v B K (Rules.MarksLockDown e d round) h m = K d.holder d (found_at v t B.ordered d (LockPhase.Asking round) m.tested.1)
  was_put t v B K (Rules.GivesUpLock d round granted) h m = go (is_spent d.retries)
    where
      go : (b : Bool) → StepOk (λ e. Was e.holder e) (if b then Drops d.holder else Puts (in_phase LockPhase.Waiting d))
      go true = tt
      go false = K d.holder d (found_at v t B.ordered d (LockPhase.Asking round) m.tested.0)
  was_put t v B K (Rules.CountsGivenBack f d owing) h m = K d.holder d (found_at v t B.ordered d (LockPhase.Deleting owing) m.tested.1)
  was_put t v B K (Rules.CountsLockDown e d owing) h m = K d.holder d (found_at v t B.ordered d (LockPhase.Deleting owing) m.tested.1)
  was_put t v B K (Rules.AsksLock d) h m = cc h
  was_put t v B K (Rules.DeletesLock d) h m = cc h
  was_put t v B K x h m = tt

  -- so it is behind a delivery or a retry
  pub was_next : (v : World) (num : Numbers) → Known o v num → Base o v → (d : WorldEvent) → is_delivery_or_retry d ≡ true
      → AllCalls Was v → AllCalls Was (happens o v d)
  was_next v num S B (At b (Event.Calling x)) k K = cc k
  was_next v num S B (At b (Event.Exiting q)) k K = cc k
  was_next v num S B (At b Event.Leave) k K = cc k
  was_next v num S B (Deliver f t) k K = go (refusal o v (Deliver f t)) refl
    where
      go : (x : Option Refusal) → refusal o v (Deliver f t) ≡ x
          → AllCalls Was (if is_none x then accepted o v (Deliver f t) else v)
      go (Some x) e = K
      go None e = subst (AllCalls Was) W.walk.world (kept_in o t (suits Hearing) (λ x i. i) (AllCalls Was)
          (λ u x h m C L. calls_kept o t u x C.ordered m Was (was_put t u C L x h m) L)
          (chain_of o v (Deliver f t) W.walk.rest) v (plain_hears o v num S (Deliver f t) W.walk.rest refl W.in_order) W.walk.may B K)
        where
          W : OrderedWalk o v (Deliver f t)
          W = walk_of o v num S (Deliver f t) e
  was_next v num S B (At b Event.Retry) k K = go (refusal o v (At b Event.Retry)) refl
    where
      T : AgainTurn o v B.ordered b
      T = again_turn o v B.ordered b

      tried : (q : Process) (d : LockCall) → q.node ≡ b → (x : Option LockCall) → call_at v q ≡ x
          → anew o.bound b (v.node b).replica.members x ≡ Some d → Was q d
      tried q d home None i j = cc j
      tried q d home (Some y) i j = by y.phase refl
        where
          was : Was q y
          was = K q y i

          by : (f : LockPhase) → y.phase ≡ f → Was q d
          by f e = (was.0, was.1, was.2 ∙ number f (sym (ap (λ (g : LockPhase). anew_in o.bound b (v.node b).replica.members g y) e) ∙ j))
            where
              number : (g : LockPhase) → anew_in o.bound b (v.node b).replica.members g y ≡ Some d → y.number ≡ d.number
              number LockPhase.Waiting n = ap (λ (z : LockCall). z.number)
                  (some_unless (is_empty o.bound (targets (v.node b).replica.members y.target)) _ d n)
              number (LockPhase.Asking r) n = ap (λ (z : LockCall). z.number) (some_unless false y d n)
              number (LockPhase.Deleting owing) n = ap (λ (z : LockCall). z.number) (some_unless false y d n)

      here : AllCalls Was (accepted o v (At b Event.Retry))
      here q d e = elim (cases_eq q.node b) [
        | inl home ↦ tried q d home (call_at v q) refl (sym (T.calls q home) ∙ e)
        | inr ne ↦ K q d (sym (T.away q ne) ∙ e)
      ]

      go : (x : Option Refusal) → refusal o v (At b Event.Retry) ≡ x
          → AllCalls Was (if is_none x then accepted o v (At b Event.Retry) else v)
      go (Some x) e = K
      go None e = here

  -- nobody leaves by them
  pub none_leaves : (v : World) (d : WorldEvent) → is_delivery_or_retry d ≡ true → left (happens o v d) ≡ left v
  none_leaves v (At b (Event.Calling x)) k = cc k
  none_leaves v (At b (Event.Exiting q)) k = cc k
  none_leaves v (At b Event.Leave) k = cc k
  none_leaves v (Deliver f t) k = go (is_none (refusal o v (Deliver f t)))
    where
      go : (x : Bool) → left (if x then accepted o v (Deliver f t) else v) ≡ left v
      go true = refl
      go false = refl
  none_leaves v (At b Event.Retry) k = go (is_none (refusal o v (At b Event.Retry)))
    where
      go : (x : Bool) → left (if x then accepted o v (At b Event.Retry) else v) ≡ left v
      go true = refl
      go false = refl

-- Behind deliveries and retries no more calls are open, and fewer where one of those before isn't
module _ (o : Opening) (es : List WorldEvent) where
  pub record IsLater (xs : List WorldEvent) : Type 0 where
    pub was : AllCalls (Was o (world o es)) (world o xs)
    pub stay : left (world o xs) ≡ left (world o es)

  pub later : (fs : List WorldEvent) → list_all is_delivery_or_retry fs ≡ true → IsLater (es ++ fs)
  later fs k = along is_delivery_or_retry IsLater next fs es k (record { was = was_self o (world o es); stay = refl })
    where
      next : (xs : List WorldEvent) (d : WorldEvent) → is_delivery_or_retry d ≡ true → IsLater xs → IsLater (xs ++ d ∷ [])
      next xs d i L = record {
        was = subst (AllCalls (Was o (world o es))) (sym (run-push o (opening_world o) xs d))
            (was_next o (world o es) (world o xs) (λ q j x. round_count o xs q j x) (lock_state o xs) (whole o xs).base d i L.was);
        stay = ap left (run-push o (opening_world o) xs d) ∙ none_leaves o (world o es) (world o xs) d i ∙ L.stay;
      }

  module _ (xs : List WorldEvent) (L : IsLater xs) where
    at_node : (x : ℕ) (q : Process) (d : LockCall) → call_of q ((world o xs).node x).calls ≡ Some d
        → (b : LockCall) × (call_of q ((world o es).node x).calls ≡ Some b)
    at_node x q d e =
        let home : q.node ≡ x = sym (ap (λ (y : Process). y.node) (holder_of_call q ((world o xs).node x).calls d e))
        ∙ home_of_call x q ((world o xs).node x).calls d ((whole o xs).base.ordered x) e in
        let W : Was o (world o es) q d = L.was q d (ap (λ (y : ℕ). call_of q ((world o xs).node y).calls) home ∙ e) in
        (W.0, ap (λ (y : ℕ). call_of q ((world o es).node y).calls) (sym home) ∙ W.1)

    pub at_each : (x : ℕ) → when (running o (world o xs) x) (length ((world o xs).node x).calls)
        ≤ when (running o (world o es) x) (length ((world o es).node x).calls)
    at_each x = subst (λ (s : Nodes). when (in_world o x && not (s x)) (length ((world o xs).node x).calls)
        ≤ when (running o (world o es) x) (length ((world o es).node x).calls)) (sym L.stay) (go (running o (world o es) x))
      where
        go : (b : Bool) → when b (length ((world o xs).node x).calls) ≤ when b (length ((world o es).node x).calls)
        go true = no_more_calls x ((world o es).node x).calls ((world o xs).node x).calls ((whole o xs).base.ordered x) (at_node x)
        go false = omega arith

    pub no_more : open_calls o (world o xs) ≤ open_calls o (world o es)
    no_more = sum-le o.bound (λ x. when (running o (world o xs) x) (length ((world o xs).node x).calls))
        (λ x. when (running o (world o es) x) (length ((world o es).node x).calls)) (λ x l. at_each x)

    pub less_at : (a : ℕ) → IsUp o (world o es) a → (p : Process) (c : LockCall)
        → call_of p ((world o es).node a).calls ≡ Some c → call_of p ((world o xs).node a).calls ≡ None
        → when (running o (world o xs) a) (length ((world o xs).node a).calls)
        < when (running o (world o es) a) (length ((world o es).node a).calls)
    less_at a up p c there gone = rw (now, runs) (fewer_calls a ((world o es).node a).calls ((world o xs).node a).calls p c
        ((whole o xs).base.ordered a) (at_node a) there gone)
      where
        runs : running o (world o es) a ≡ true
        runs = rw (up.0, up.1) refl

        now : running o (world o xs) a ≡ true
        now = ap (λ (s : Nodes). in_world o a && not (s a)) L.stay ∙ runs

    pub fewer : (a : ℕ) → IsUp o (world o es) a → a < o.bound → (p : Process) (c : LockCall)
        → call_of p ((world o es).node a).calls ≡ Some c → call_of p ((world o xs).node a).calls ≡ None
        → open_calls o (world o xs) < open_calls o (world o es)
    fewer a up below p c there gone = sum_less o.bound (λ x. when (running o (world o xs) x) (length ((world o xs).node x).calls))
        (λ x. when (running o (world o es) x) (length ((world o es).node x).calls)) a (λ x l. at_each x) below
        (less_at a up p c there gone)
