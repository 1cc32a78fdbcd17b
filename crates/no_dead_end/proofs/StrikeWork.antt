-- A strike that begins is paid by the names that it may take away.
use Rattle.std.proofs.Common.{ℕ, Bool, true, false, ◌==◌, ◌≡◌, ◌≤◌, ◌+◌, ◌*◌, Option, Some, None, List, [], ◌∷◌, refl, sym, ap, subst, ◌∙◌, arith}
use Rattle.std.specs.Prelude.{not, nat_lt, ◌&&◌, ◌||◌, if◌then◌else◌}
use Rattle.std.proofs.lemmas.Bool.{eq-eqb}
use Rattle.std.proofs.lemmas.List.Sums.{sum_by-cons}
use Rattle.registry_model.specs.Process.{Process, is_process}
use Rattle.registry_model.specs.Table.{Pair, Table, owns}
use Rattle.protocol_model.specs.Round.{Round, is_empty, greatest, begin}
use Rattle.protocol_model.specs.Letter.{Letter, Global}
use Rattle.protocol_model.specs.Watch.{owed, least_owner, lesser}
use Rattle.protocol_model.specs.Node.{Node, Op, Current}
use Rattle.protocol_model.specs.Turn.{begun}
use Rattle.protocol_model.specs.Registrar.{registrar, ask_global}
use Rattle.named_events.proofs.Ids.{is_process_same, is_process_self}
use Rattle.no_dead_end.specs.Weights.{when}
use Rattle.no_dead_end.specs.Work.{undecided_work}
use Rattle.no_dead_end.proofs.Counting.{Counting, at_current}
use Rattle.no_dead_end.proofs.RegistrarWork.{own, sent, Spends, asks, fewer}

-- who is owed a strike owns a name
least_owns : (a : ℕ) (t : Table) (ss : List ℕ) (k : ℕ) → least_owner a t ss ≡ Some k
    → owns (record { node = a; serial = k }) t ≡ true
least_owns a t [] k e = cc e
least_owns a t (s ∷ ss) k e = go (owns (record { node = a; serial = s }) t) (least_owner a t ss) refl refl
    e (λ x q. least_owns a t ss x q)
  where
    is : (x y : ℕ) → Some x ≡ Some y → x ≡ y
    is x y h = cc h

    go : (c : Bool) (r : Option ℕ) → owns (record { node = a; serial = s }) t ≡ c → least_owner a t ss ≡ r
        → (if owns (record { node = a; serial = s }) t then Some (lesser s (least_owner a t ss)) else least_owner a t ss) ≡ Some k
        → ((x : ℕ) → least_owner a t ss ≡ Some x → owns (record { node = a; serial = x }) t ≡ true)
        → owns (record { node = a; serial = k }) t ≡ true
    go true None h q i m = subst (λ (x : ℕ). owns (record { node = a; serial = x }) t ≡ true)
        (is s k (sym (ap (λ (c : Bool). if c then Some (lesser s (least_owner a t ss)) else least_owner a t ss) h
        ∙ ap (λ (x : Option ℕ). Some (lesser s x)) q) ∙ i)) h
    go true (Some x) h q i m = by (nat_lt x s) refl (is (lesser s (Some x)) k
        (sym (ap (λ (c : Bool). if c then Some (lesser s (least_owner a t ss)) else least_owner a t ss) h
        ∙ ap (λ (y : Option ℕ). Some (lesser s y)) q) ∙ i))
      where
        by : (c : Bool) → nat_lt x s ≡ c → (if nat_lt x s then x else s) ≡ k → owns (record { node = a; serial = k }) t ≡ true
        by true l j = subst (λ (y : ℕ). owns (record { node = a; serial = y }) t ≡ true)
            (sym (ap (λ (c : Bool). if c then x else s) l) ∙ j) (m x q)
        by false l j = subst (λ (y : ℕ). owns (record { node = a; serial = y }) t ≡ true)
            (sym (ap (λ (c : Bool). if c then x else s) l) ∙ j) h
    go false r h q i m = m k (sym (ap (λ (c : Bool). if c then Some (lesser s (least_owner a t ss)) else least_owner a t ss) h) ∙ i)

module _ (C : Counting) where
  open C use {opening.{bound as b}, size as n, alive, up, few as most, node as a}

  -- the names of a process of a, which its strike takes away
  struck_more : (p : Process) (r : Round) (t : Table) → p.node ≡ a → owns p t ≡ true
      → own C (Current.Asking (Op.Strike p) r) t + 5 * n ≤ own C Current.Free t
  struck_more p r [] home o = cc o
  struck_more p r (pair ∷ t) home o =
      let free : own C Current.Free (pair ∷ t) ≡ f pair + own C Current.Free t = sum_by-cons f pair t in
      let asking : own C (Current.Asking (Op.Strike p) r) (pair ∷ t) ≡ g pair + own C (Current.Asking (Op.Strike p) r) t =
      sum_by-cons g pair t in
      let rest : own C (Current.Asking (Op.Strike p) r) t ≤ own C Current.Free t =
      fewer C Current.Free (Current.Asking (Op.Strike p) r) t (λ q k. cc k) in
      go (is_process pair.owner p) refl free asking rest (λ q. struck_more p r t home q)
    where
      f : Pair → ℕ
      f x = when ((x.owner.node == a) && not false) (5 * n)

      g : Pair → ℕ
      g x = when ((x.owner.node == a) && not (is_process p x.owner)) (5 * n)

      less : (h s : Bool) → when (h && not s) (5 * n) ≤ when (h && not false) (5 * n)
      less true true = omega arith
      less true false = omega arith
      less false s = omega arith

      here : is_process pair.owner p ≡ true → (f pair ≡ 5 * n) × (g pair ≡ 0)
      here e = let same : pair.owner ≡ p = is_process_same pair.owner p e in (
        rw (eq-eqb pair.owner.node a (ap (λ (x : Process). x.node) same ∙ home)) refl,
        rw (eq-eqb pair.owner.node a (ap (λ (x : Process). x.node) same ∙ home))
            (ap (λ (x : Process). when (true && not (is_process p x)) (5 * n)) same
            ∙ ap (λ (c : Bool). when (true && not c) (5 * n)) (is_process_self p)),
      )

      go : (c : Bool) → is_process pair.owner p ≡ c
          → own C Current.Free (pair ∷ t) ≡ f pair + own C Current.Free t
          → own C (Current.Asking (Op.Strike p) r) (pair ∷ t) ≡ g pair + own C (Current.Asking (Op.Strike p) r) t
          → own C (Current.Asking (Op.Strike p) r) t ≤ own C Current.Free t
          → (owns p t ≡ true → own C (Current.Asking (Op.Strike p) r) t + 5 * n ≤ own C Current.Free t)
          → own C (Current.Asking (Op.Strike p) r) (pair ∷ t) + 5 * n ≤ own C Current.Free (pair ∷ t)
      go true e free asking rest m = let h : (f pair ≡ 5 * n) × (g pair ≡ 0) = here e in omega (arith, free, asking, rest, h.0, h.1)
      go false e free asking rest m =
          let more : own C (Current.Asking (Op.Strike p) r) t + 5 * n ≤ own C Current.Free t =
          m (sym (ap (λ (c : Bool). c || owns p t) e) ∙ o) in
          let one : g pair ≤ f pair = less (pair.owner.node == a) (is_process p pair.owner) in
          omega (arith, free, asking, more, one)

  -- an owed strike begins
  pub begins_strike_work : (s : ℕ) (v : Node) → v.current ≡ Current.Free → owed a v.replica.table v.watch ≡ Some s
      → is_empty b v.replica.members ≡ false
      → Spends C v (ask_global b a (Op.Strike (record { node = a; serial = s })) (begun v)) 0
  begins_strike_work s v e o some =
      let h : at_current C (Current.Asking op (begin b v.replica.members))
      + sent C (record { to = greatest b v.replica.members; letter = Letter.SetLock (Global a) (registrar a) } ∷ [])
      ≤ n * 3 + undecided_work n op = asks C op v some in
      let was : at_current C v.current ≡ 0 = ap (at_current C) e in
      let same : own C v.current v.replica.table ≡ own C Current.Free v.replica.table =
      ap (λ (c : Current). own C c v.replica.table) e in
      let names : own C (Current.Asking op (begin b v.replica.members)) v.replica.table + 5 * n
      ≤ own C Current.Free v.replica.table =
      struck_more (record { node = a; serial = s }) (begin b v.replica.members) v.replica.table refl
      (least_owns a v.replica.table v.watch.dead s o) in
      omega (arith, h, was, same, names)
    where
      op : Op
      op = Op.Strike (record { node = a; serial = s })
