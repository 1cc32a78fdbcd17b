-- The work of rounds: what begins one pays for its letters, an answer that opens it pays for those that it sends by the marks that
-- it changes, and no other answer or departure adds to it.
use mathlib.Core.Logic.{◌⊎◌}
use Rattle.std.proofs.Common.{ℕ, Bool, true, false, ◌==◌, ◌≡◌, ◌<◌, ◌≤◌, ◌+◌, ◌*◌, refl, sym, subst, inl, inr, arith}
use Rattle.std.specs.Prelude.{length, not, ◌&&◌, if◌then◌else◌}
use Rattle.std.proofs.lemmas.Bool.{cases_eq}
use Rattle.registry_model.specs.Process.{Nodes, nodes_of}
use Rattle.registry_model.proofs.Updates.{by_test}
use Rattle.protocol_model.specs.Round.{Mark, Out, Later, Owes, Granted, Refused, Lost, Gone, Round, is_empty, greatest, is_owes, is_out, is_gone, is_granted, begin, asked, rest, owes, asked_too, opens, answer, mark_down, down, granted}
use Rattle.named_events.proofs.Indices.{both, some_of, greatest_in, greatest_below}
use Rattle.named_events.proofs.Rounds.{is_unasked, mark_by, answer_opens, answer_owed}
use Rattle.no_dead_end.specs.Weights.{sum_below, when}
use Rattle.no_dead_end.specs.Work.{mark_work}
use Rattle.no_dead_end.proofs.Counting.{Counting, marks}
use Rattle.no_dead_end.proofs.Sums.{sum-le, sum-add, sum-each, sum-one}

module _ (C : Counting) where
  open C use {opening.{bound as b}, size as n, alive, up}

  -- a round begins, with one letter on its way
  pub begin_work : (s : Nodes) → is_empty b s ≡ false
      → marks C (begin b s) + when (up (greatest b s)) 2 ≤ length (nodes_of b up) * 3
  begin_work s e =
      let one : (c : ℕ) × (c < b) × (s c ≡ true) = some_of b s e in
      let inside : s g ≡ true = greatest_in b s one.0 one.1 one.2 in
      let low : g < b = greatest_below b s (omega (arith, one.1)) in
      let all : sum_below b (λ c. when (up c) (mark_work ((begin b s).mark c)) + when (c == g) (when (up g) 2))
      ≤ sum_below b (λ c. when (up c) 3) =
      sum-le b (λ c. when (up c) (mark_work ((begin b s).mark c)) + when (c == g) (when (up g) 2)) (λ c. when (up c) 3)
      (λ c l. each inside c) in
      let split : sum_below b (λ c. when (up c) (mark_work ((begin b s).mark c)) + when (c == g) (when (up g) 2))
      ≡ marks C (begin b s) + sum_below b (λ c. when (c == g) (when (up g) 2)) =
      sum-add b (λ c. when (up c) (mark_work ((begin b s).mark c))) (λ c. when (c == g) (when (up g) 2)) in
      let two : sum_below b (λ c. when (c == g) (when (up g) 2)) ≡ when (up g) 2 = sum-one b g (when (up g) 2) low in
      let count : sum_below b (λ c. when (up c) 3) ≡ length (nodes_of b up) * 3 = sum-each b up 3 in
      omega (arith, all, split, two, count)
    where
      g : ℕ
      g = greatest b s

      other : (u t : Bool) → when u (mark_work (if t then (if false then Owes else Later) else Out)) + 0 ≤ when u 3
      other true true = omega arith
      other true false = omega arith
      other false t = omega arith

      boss : (u : Bool) → when u (mark_work Owes) + when u 2 ≤ when u 3
      boss true = omega arith
      boss false = omega arith

      each : s g ≡ true → (c : ℕ) → when (up c) (mark_work ((begin b s).mark c)) + when (c == g) (when (up g) 2) ≤ when (up c) 3
      each h = by_test g (λ c t. when (up c) (mark_work (if s c then (if t then Owes else Later) else Out))
          + when t (when (up g) 2) ≤ when (up c) 3)
          (rw h (boss (up g))) (λ c ne. other (up c) (s c))

  -- an answer that is owed, in a round in which nobody who runs has gone down; told: who isn't asked any more
  pub answer_work : (told : Nodes) (f : ℕ) (g : Bool) (r : Round) → owes r f ≡ true
      → (opens f g r ≡ true → (x : ℕ) → (x ≡ f → ⊥) → is_unasked (r.mark x) ≡ true)
      → ((x : ℕ) → up x ≡ true → is_gone (r.mark x) ≡ false)
      → marks C (answer f g r) + sum_below b (λ x. when (up x && (opens f g r && (rest r x && not (told x)))) 2) ≤ marks C r
  answer_work told f g r owe fit gone =
      let split : sum_below b (λ x. when (up x) (mark_work ((answer f g r).mark x)) + sends x) ≡ marks C (answer f g r)
      + sum_below b sends =
      sum-add b (λ x. when (up x) (mark_work ((answer f g r).mark x))) sends in
      let all : sum_below b (λ x. when (up x) (mark_work ((answer f g r).mark x)) + sends x) ≤ marks C r =
      sum-le b (λ x. when (up x) (mark_work ((answer f g r).mark x)) + sends x) (λ x. when (up x) (mark_work (r.mark x)))
      (λ x l. wrap (up x) (opens f g r && (rest r x && not (told x))) (mark_work ((answer f g r).mark x)) (mark_work (r.mark x))
      (go (opens f g r) refl x)) in
      omega (arith, split, all)
    where
      sends : ℕ → ℕ
      sends x = when (up x && (opens f g r && (rest r x && not (told x)))) 2

      wrap : (u s : Bool) (k m : ℕ) → k + when (u && s) 2 ≤ m → when u k + when (u && s) 2 ≤ when u m
      wrap true s k m h = h
      wrap false s k m h = omega arith

      -- what is sent to a node, by its mark
      opened : (m : Mark) (u t boss : Bool) → is_unasked m ≡ true → (u ≡ true → is_gone m ≡ false)
          → mark_work (asked_too m) + when (u && (true && ((not (is_out m) && not boss) && not t))) 2 ≤ mark_work m
      opened Out true t boss e h = omega arith
      opened Out false t boss e h = omega arith
      opened Later true true true e h = omega arith
      opened Later true true false e h = omega arith
      opened Later true false true e h = omega arith
      opened Later true false false e h = omega arith
      opened Later false t boss e h = omega arith
      opened Gone true t boss e h = cc (h refl)
      opened Gone false t boss e h = omega arith
      opened Owes u t boss e h = cc e
      opened Granted u t boss e h = cc e
      opened Refused u t boss e h = cc e
      opened Lost u t boss e h = cc e

      own : (m : Mark) (k : Mark) → is_owes m ≡ true → mark_work k ≡ 1 → mark_work k + 0 ≤ mark_work m
      own Owes k e h = omega (arith, h)
      own Out k e h = cc e
      own Later k e h = cc e
      own Granted k e h = cc e
      own Refused k e h = cc e
      own Lost k e h = cc e
      own Gone k e h = cc e

      stays : (k : ℕ) → k + 0 ≤ k
      stays k = omega arith

      go : (o : Bool) → opens f g r ≡ o → (x : ℕ) → mark_work ((answer f g r).mark x) + sends x ≤ mark_work (r.mark x)
      go true e x = subst (λ (m : Mark). mark_work m + when (up x && (opens f g r && (rest r x && not (told x)))) 2
          ≤ mark_work (r.mark x))
          (sym (answer_opens f g r e x)) (rw e (by_test f
          (λ y t. (y ≡ f → ⊥) ⊎ (y ≡ f) → mark_work (if t then Granted else asked_too (r.mark y))
          + when (up y && (true && (rest r y && not (told y)))) 2 ≤ mark_work (r.mark y)) (λ k. here) (λ y ne k. there y ne) x
          (elim (cases_eq x f) [ inl k ↦ inr k | inr k ↦ inl k ])))
        where
          boss : (f == r.boss) ≡ true
          boss = (both g (f == r.boss) (both (g && (f == r.boss)) (owes r f) e).0).1

          nothing : (u o : Bool) → when (u && (true && ((o && not true) && not (told f)))) 2 ≡ 0
          nothing true true = refl
          nothing true false = refl
          nothing false o = refl

          here : 1 + when (up f && (true && (rest r f && not (told f)))) 2 ≤ mark_work (r.mark f)
          here = rw boss (let z : when (up f && (true && ((not (is_out (r.mark f)) && not true) && not (told f)))) 2 ≡ 0 =
              nothing (up f) (not (is_out (r.mark f))) in let h : mark_work Granted + 0 ≤ mark_work (r.mark f) =
              own (r.mark f) Granted owe refl in
              omega (arith, z, h))

          there : (y : ℕ) → (y ≡ f → ⊥) → mark_work (asked_too (r.mark y)) + when (up y && (true && (rest r y && not (told y)))) 2
              ≤ mark_work (r.mark y)
          there y ne = opened (r.mark y) (up y) (told y) (y == r.boss) (fit e y ne) (gone y)
      go false e x = subst (λ (m : Mark). mark_work m + when (up x && (opens f g r && (rest r x && not (told x)))) 2
          ≤ mark_work (r.mark x))
          (sym (answer_owed f g r e owe x)) (rw e (idle (up x)))
        where
          by : (k : Bool) → mark_work (mark_by k) ≡ 1
          by true = refl
          by false = refl

          stays_or : (y : ℕ) → mark_work (if y == f then mark_by g else r.mark y) + 0 ≤ mark_work (r.mark y)
          stays_or = by_test f (λ y t. mark_work (if t then mark_by g else r.mark y) + 0 ≤ mark_work (r.mark y))
              (own (r.mark f) (mark_by g) owe (by g)) (λ y ne. stays (mark_work (r.mark y)))

          idle : (u : Bool) → mark_work (if x == f then mark_by g else r.mark x) + when (u && false) 2 ≤ mark_work (r.mark x)
          idle true = stays_or x
          idle false = stays_or x

  -- a departure
  pub down_work : (d : ℕ) (r : Round) → marks C (down d r) ≤ marks C r
  down_work d r = sum-le b (λ x. when (up x) (mark_work ((down d r).mark x))) (λ x. when (up x) (mark_work (r.mark x)))
      (λ x l. wrap (up x) (mark_work ((down d r).mark x)) (mark_work (r.mark x)) (at_each x))
    where
      wrap : (u : Bool) (k m : ℕ) → k ≤ m → when u k ≤ when u m
      wrap true k m h = h
      wrap false k m h = omega arith

      less : (m : Mark) → mark_work (mark_down m) ≤ mark_work m
      less Out = omega arith
      less Later = omega arith
      less Owes = omega arith
      less Granted = omega arith
      less Refused = omega arith
      less Lost = omega arith
      less Gone = omega arith

      at_each : (x : ℕ) → mark_work ((down d r).mark x) ≤ mark_work (r.mark x)
      at_each = by_test d (λ x t. mark_work (if t then mark_down (r.mark d) else r.mark x) ≤ mark_work (r.mark x))
          (less (r.mark d)) (λ x ne. omega arith)

  -- who granted gets the lock back, and so does whoever was asked
  pub granted_work : (r : Round) → sum_below b (λ c. when (up c && granted r c) 1) ≤ marks C r
  granted_work r = sum-le b (λ c. when (up c && granted r c) 1) (λ c. when (up c) (mark_work (r.mark c)))
      (λ c l. one (up c) (r.mark c))
    where
      one : (u : Bool) (m : Mark) → when (u && is_granted m) 1 ≤ when u (mark_work m)
      one false m = omega arith
      one true Granted = omega arith
      one true Out = omega arith
      one true Later = omega arith
      one true Owes = omega arith
      one true Refused = omega arith
      one true Lost = omega arith
      one true Gone = omega arith

  pub asked_work : (r : Round) → sum_below b (λ c. when (up c && asked r c) 1) ≤ marks C r
  asked_work r = sum-le b (λ c. when (up c && asked r c) 1) (λ c. when (up c) (mark_work (r.mark c))) (λ c l. one (up c) (r.mark c))
    where
      one : (u : Bool) (m : Mark) → when (u && not (is_out m)) 1 ≤ when u (mark_work m)
      one false m = omega arith
      one true Out = omega arith
      one true Later = omega arith
      one true Owes = omega arith
      one true Granted = omega arith
      one true Refused = omega arith
      one true Lost = omega arith
      one true Gone = omega arith
