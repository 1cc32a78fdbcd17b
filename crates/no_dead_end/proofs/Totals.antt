-- What becomes of a total where a letter is taken, where a node goes on and sends letters, and where it is closed out. up: the
-- nodes that count; W: the weights; b: above all nodes.
use Rattle.std.proofs.Common.{ℕ, zero, suc, Bool, true, false, ◌==◌, ◌≡◌, ◌<◌, ◌≤◌, ◌+◌, List, [], ◌∷◌, ◌++◌, refl, sym, ap, subst, ◌∙◌, inl, inr, arith}
use Rattle.std.specs.Prelude.{not, ◌&&◌, drop, map, if◌then◌else◌}
use Rattle.std.proofs.lemmas.Bool.{cases_eq, eq-eqb, ne_eqb}
use Rattle.std.proofs.lemmas.List.Sums.{sum_by-cons, sum_by-append}
use Rattle.registry_model.specs.Process.{Nodes, at, nodes_of}
use Rattle.registry_model.proofs.Updates.{at_same, at_other}
use Rattle.protocol_model.specs.Letter.{Letter}
use Rattle.protocol_model.specs.Links.{posted, taken}
use Rattle.protocol_model.specs.Node.{Node}
use Rattle.protocol_model.specs.Turn.{Send, Turn, sent_to}
use Rattle.protocol_model.specs.World.{World, apply, letter_taken, Deliver}
use Rattle.no_dead_end.specs.Weights.{sum_below, when, Weights, of_link, of_node, of_place, total}
use Rattle.no_dead_end.proofs.Sums.{sum-same, sum-le, sum-add, sum-but, sum-most, sum-zero}

module _ (b : ℕ) (W : Weights) (up : Nodes) where
  -- the letters of a turn of node a, to nodes that count
  abbrev pub sent_work : ℕ → List Send → ℕ
  sent_work a [] = 0
  sent_work a (s ∷ ss) = when (up s.to) (W.letter a s.to s.letter) + sent_work a ss

  pub sent_work-append : (a : ℕ) (xs ys : List Send) → sent_work a (xs ++ ys) ≡ sent_work a xs + sent_work a ys
  sent_work-append a [] ys = omega arith
  sent_work-append a (s ∷ xs) ys = let more : sent_work a (xs ++ ys) ≡ sent_work a xs + sent_work a ys = sent_work-append a xs ys in
      omega (arith, more)

  -- they are as much as they are by receivers
  by_receivers : (a : ℕ) (ss : List Send)
      → sum_below b (λ c. when (up c) (of_link W a c (sent_to c ss))) ≤ sent_work a ss
  by_receivers a [] = subst (λ (k : ℕ). k ≤ 0)
      (sym (sum-same b (λ c. when (up c) (of_link W a c [])) (λ c. 0) (λ c l. none (up c)) ∙ sum-zero b))
      (omega arith)
    where
      none : (t : Bool) → when t 0 ≡ 0
      none true = refl
      none false = refl
  by_receivers a (s ∷ ss) =
      let more : sum_below b (λ c. when (up c) (of_link W a c (sent_to c ss))) ≤ sent_work a ss = by_receivers a ss in
      let split : sum_below b (λ c. when (c == s.to) (when (up s.to) (W.letter a s.to s.letter))
      + when (up c) (of_link W a c (sent_to c ss)))
      ≡ sum_below b (λ c. when (c == s.to) (when (up s.to) (W.letter a s.to s.letter)))
      + sum_below b (λ c. when (up c) (of_link W a c (sent_to c ss)))
      = sum-add b (λ c. when (c == s.to) (when (up s.to) (W.letter a s.to s.letter)))
      (λ c. when (up c) (of_link W a c (sent_to c ss))) in
      let same : sum_below b (λ c. when (up c) (of_link W a c (sent_to c (s ∷ ss))))
      ≡ sum_below b (λ c. when (c == s.to) (when (up s.to) (W.letter a s.to s.letter)) + when (up c) (of_link W a c (sent_to c ss)))
      = sum-same b (λ c. when (up c) (of_link W a c (sent_to c (s ∷ ss))))
      (λ c. when (c == s.to) (when (up s.to) (W.letter a s.to s.letter)) + when (up c) (of_link W a c (sent_to c ss)))
      (λ c l. each c) in
      let one : sum_below b (λ c. when (c == s.to) (when (up s.to) (W.letter a s.to s.letter)))
      ≤ when (up s.to) (W.letter a s.to s.letter) =
      sum-most b s.to (when (up s.to) (W.letter a s.to s.letter)) in
      omega (arith, more, split, same, one)
    where
      each : (c : ℕ) → when (up c) (of_link W a c (sent_to c (s ∷ ss)))
          ≡ when (c == s.to) (when (up s.to) (W.letter a s.to s.letter)) + when (up c) (of_link W a c (sent_to c ss))
      each c = elim (cases_eq c s.to) [
        | inl e ↦ here e
        | inr ne ↦ rw (ne_eqb s.to c (λ k. ne (sym k)), ne_eqb c s.to ne) (omega arith)
      ]
        where
          by : (t : Bool) (k m : ℕ) → when t (k + m) ≡ when t k + when t m
          by true k m = refl
          by false k m = refl

          here : c ≡ s.to → when (up c) (of_link W a c (sent_to c (s ∷ ss)))
              ≡ when (c == s.to) (when (up s.to) (W.letter a s.to s.letter)) + when (up c) (of_link W a c (sent_to c ss))
          here e = subst (λ (y : ℕ). when (up y) (of_link W a y (sent_to y (s ∷ ss)))
              ≡ when (y == s.to) (when (up s.to) (W.letter a s.to s.letter)) + when (up y) (of_link W a y (sent_to y ss))) (sym e)
              (rw (eq-eqb s.to s.to refl) (ap (when (up s.to)) (sum_by-cons (W.letter a s.to) s.letter (sent_to s.to ss))
              ∙ by (up s.to) (W.letter a s.to s.letter) (of_link W a s.to (sent_to s.to ss))))

  -- a node goes on by a turn
  pub turn_total : (a : ℕ) (u : Turn) (w : World) → a < b → up a ≡ true
      → total b W up (apply a u w) + of_node b W up a (w.node a) ≤ total b W up w + of_node b W up a u.node + sent_work a u.sends
  turn_total a u w l e =
      let more : total b W up (apply a u w) ≤ sum_below b (λ c. kept c + come c) =
      sum-le b (λ c. when (up c) (of_place b W up (apply a u w) c)) (λ c. kept c + come c) (λ c k. each c) in
      let split : sum_below b (λ c. kept c + come c) ≡ sum_below b kept + sum_below b come = sum-add b kept come in
      let sent : sum_below b come ≤ sent_work a u.sends = by_receivers a u.sends in
      let but : sum_below b kept + old a ≡ sum_below b old + kept a = sum-but b kept old a l
      (λ c ne. ap (λ (v : Node). when (up c) (of_node b W up c v + letters c)) (at_other w.node a u.node c ne)) in
      let here : kept a ≡ of_node b W up a u.node + letters a =
      ap (λ (v : Node). when (up a) (of_node b W up a v + letters a)) (at_same w.node a u.node)
      ∙ ap (λ (t : Bool). when t (of_node b W up a u.node + letters a)) e in
      let there : old a ≡ of_node b W up a (w.node a) + letters a =
      ap (λ (t : Bool). when t (of_node b W up a (w.node a) + letters a)) e in
      let whole : sum_below b old ≡ total b W up w = refl in
      omega (arith, more, split, sent, but, here, there, whole)
    where
      letters : ℕ → ℕ
      letters c = sum_below b (λ f. of_link W f c (w.links.queue f c))

      old : ℕ → ℕ
      old c = when (up c) (of_node b W up c (w.node c) + letters c)

      kept : ℕ → ℕ
      kept c = when (up c) (of_node b W up c (at w.node a u.node c) + letters c)

      come : ℕ → ℕ
      come c = when (up c) (of_link W a c (sent_to c u.sends))

      -- one link
      link : (f c : ℕ) → of_link W f c ((posted a (λ t. sent_to t u.sends) w.links).queue f c)
          ≤ of_link W f c (w.links.queue f c) + when (f == a) (of_link W a c (sent_to c u.sends))
      link f c = elim (cases_eq f a) [
        | inl i ↦ subst (λ (x : ℕ). of_link W x c (if x == a && not (w.links.closed c) then w.links.queue x c ++ sent_to c u.sends
            else w.links.queue x c) ≤ of_link W x c (w.links.queue x c) + when (x == a) (of_link W a c (sent_to c u.sends))) (sym i)
            (rw (eq-eqb a a refl) (by (not (w.links.closed c))))
        | inr ne ↦ rw (ne_eqb f a ne) (omega arith)
      ]
        where
          by : (t : Bool) → of_link W a c (if t then w.links.queue a c ++ sent_to c u.sends else w.links.queue a c)
              ≤ of_link W a c (w.links.queue a c) + of_link W a c (sent_to c u.sends)
          by true = let h : of_link W a c (w.links.queue a c ++ sent_to c u.sends)
              ≡ of_link W a c (w.links.queue a c) + of_link W a c (sent_to c u.sends) =
              sum_by-append (W.letter a c) (w.links.queue a c) (sent_to c u.sends) in omega (arith, h)
          by false = omega arith

      links : (c : ℕ) → sum_below b (λ f. of_link W f c ((posted a (λ t. sent_to t u.sends) w.links).queue f c))
          ≤ letters c + of_link W a c (sent_to c u.sends)
      links c =
          let le : sum_below b (λ f. of_link W f c ((posted a (λ t. sent_to t u.sends) w.links).queue f c))
          ≤ sum_below b (λ f. of_link W f c (w.links.queue f c) + when (f == a) (of_link W a c (sent_to c u.sends))) =
          sum-le b (λ f. of_link W f c ((posted a (λ t. sent_to t u.sends) w.links).queue f c))
          (λ f. of_link W f c (w.links.queue f c) + when (f == a) (of_link W a c (sent_to c u.sends))) (λ f k. link f c) in
          let split : sum_below b (λ f. of_link W f c (w.links.queue f c) + when (f == a) (of_link W a c (sent_to c u.sends)))
          ≡ letters c + sum_below b (λ f. when (f == a) (of_link W a c (sent_to c u.sends))) =
          sum-add b (λ f. of_link W f c (w.links.queue f c)) (λ f. when (f == a) (of_link W a c (sent_to c u.sends))) in
          let one : sum_below b (λ f. when (f == a) (of_link W a c (sent_to c u.sends))) ≤ of_link W a c (sent_to c u.sends) =
          sum-most b a (of_link W a c (sent_to c u.sends)) in
          omega (arith, le, split, one)

      each : (c : ℕ) → when (up c) (of_place b W up (apply a u w) c) ≤ kept c + come c
      each c = go (up c)
        where
          go : (t : Bool) → when t (of_place b W up (apply a u w) c) ≤ when t (of_node b W up c (at w.node a u.node c) + letters c)
              + when t (of_link W a c (sent_to c u.sends))
          go true = let h : sum_below b (λ f. of_link W f c ((posted a (λ t. sent_to t u.sends) w.links).queue f c))
              ≤ letters c + of_link W a c (sent_to c u.sends) = links c in omega (arith, h)
          go false = omega arith

  -- a letter is taken
  pub taken_total : (f a : ℕ) (w : World) (l : Letter) (ls : List Letter) → f < b → a < b → up a ≡ true → w.links.queue f a ≡ l ∷ ls
      → total b W up (letter_taken (Deliver f a) w) + W.letter f a l ≡ total b W up w
  taken_total f a w l ls lf la e q =
      let but : total b W up (letter_taken (Deliver f a) w) + when (up a) (of_place b W up w a)
      ≡ total b W up w + when (up a) (of_place b W up (letter_taken (Deliver f a) w) a) =
      sum-but b (λ c. when (up c) (of_place b W up (letter_taken (Deliver f a) w) c)) (λ c. when (up c) (of_place b W up w c)) a la
      (λ c ne. ap (λ (k : ℕ). when (up c) (of_node b W up c (w.node c) + k)) (sum-same b
      (λ x. of_link W x c ((taken f a w.links).queue x c)) (λ x. of_link W x c (w.links.queue x c)) (λ x k. other x c ne))) in
      let here : sum_below b new + gone ≡ sum_below b was + left_over =
      sum-but b new was f lf (λ x ne. rw (ne_eqb x f ne) refl) in
      let first : gone ≡ W.letter f a l + of_link W f a ls =
      ap (of_link W f a) q ∙ sum_by-cons (W.letter f a) l ls in
      let behind : left_over ≡ of_link W f a ls =
      rw (eq-eqb f f refl, eq-eqb a a refl) (ap (λ (x : List Letter). of_link W f a (drop 1 x)) q) in
      let before : when (up a) (of_place b W up w a) ≡ of_node b W up a (w.node a) + sum_below b was =
      ap (λ (t : Bool). when t (of_place b W up w a)) e in
      let after : when (up a) (of_place b W up (letter_taken (Deliver f a) w) a) ≡ of_node b W up a (w.node a) + sum_below b new =
      ap (λ (t : Bool). when t (of_place b W up (letter_taken (Deliver f a) w) a)) e in
      omega (arith, but, here, first, behind, before, after)
    where
      new : ℕ → ℕ
      new x = of_link W x a ((taken f a w.links).queue x a)

      was : ℕ → ℕ
      was x = of_link W x a (w.links.queue x a)

      gone : ℕ
      gone = of_link W f a (w.links.queue f a)

      left_over : ℕ
      left_over = of_link W f a ((taken f a w.links).queue f a)

      other : (x c : ℕ) → (c ≡ a → ⊥) → of_link W x c ((taken f a w.links).queue x c) ≡ of_link W x c (w.links.queue x c)
      other x c ne = rw (ne_eqb c a ne) (by (x == f))
        where
          by : (t : Bool) → of_link W x c (if t && false then drop 1 (w.links.queue x c) else w.links.queue x c)
              ≡ of_link W x c (w.links.queue x c)
          by true = refl
          by false = refl

  -- the same letter to each node of a set
  pub sent_each : (a m : ℕ) (s : Nodes) (l : Letter)
      → sent_work a (map (λ c. record { to = c; letter = l }) (nodes_of m s))
      ≡ sum_below m (λ c. when (up c && s c) (W.letter a c l))
  sent_each a zero s l = refl
  sent_each a (suc m) s l = go (s m) refl (sent_each a m s l)
    where
      letters : List ℕ → List Send
      letters cs = map (λ c. record { to = c; letter = l }) cs

      all : List ℕ → ℕ
      all cs = sent_work a (letters cs)

      push : (cs : List ℕ) → all (cs ++ m ∷ []) ≡ all cs + when (up m) (W.letter a m l)
      push [] = omega arith
      push (c ∷ cs) = let more : all (cs ++ m ∷ []) ≡ all cs + when (up m) (W.letter a m l) = push cs in omega (arith, more)

      none : (cs : List ℕ) → all (cs ++ []) ≡ all cs
      none [] = refl
      none (c ∷ cs) = let more : all (cs ++ []) ≡ all cs = none cs in omega (arith, more)

      both_true : (t : Bool) (k : ℕ) → when t k ≡ when (t && true) k
      both_true true k = refl
      both_true false k = refl

      both_false : (t : Bool) (k : ℕ) → 0 ≡ when (t && false) k
      both_false true k = refl
      both_false false k = refl

      go : (t : Bool) → s m ≡ t → all (nodes_of m s) ≡ sum_below m (λ c. when (up c && s c) (W.letter a c l))
          → all (nodes_of m s ++ (if t then m ∷ [] else []))
          ≡ sum_below m (λ c. when (up c && s c) (W.letter a c l)) + when (up m && t) (W.letter a m l)
      go true e h = let p : all (nodes_of m s ++ m ∷ []) ≡ all (nodes_of m s) + when (up m) (W.letter a m l) =
          push (nodes_of m s) in
          let q : when (up m) (W.letter a m l) ≡ when (up m && true) (W.letter a m l) = both_true (up m) (W.letter a m l) in
          omega (arith, h, p, q)
      go false e h = let p : all (nodes_of m s ++ []) ≡ all (nodes_of m s) = none (nodes_of m s) in
          let q : 0 ≡ when (up m && false) (W.letter a m l) = both_false (up m) (W.letter a m l) in omega (arith, h, p, q)
