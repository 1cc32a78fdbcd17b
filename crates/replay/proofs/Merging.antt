-- Logs that are merged entry by entry.
use Rattle.std.proofs.Common.{ℕ, zero, suc, Bool, true, false, ◌==◌, ◌≡◌, ◌<◌, ◌≤◌, ◌+◌, ◌⊎◌, inl, inr, Some, List, [], ◌∷◌, ◌++◌, length, length-append, map, filter, take, refl, sym, ap, subst, ◌∙◌, arith}
use Rattle.std.proofs.lemmas.Bool.{cases_eq, eq-eqb, eqb-true}
use Rattle.std.proofs.lemmas.Bool.Decides.{nat_tests}
use Rattle.std.proofs.lemmas.List.{append_assoc, append-nil, take_all}
use Rattle.std.proofs.lemmas.Option.{slice_get-map}
use Rattle.std.specs.List.{slice_get}
use Rattle.std.specs.Option.{option_map}
use Rattle.std.specs.Prelude.{if◌then◌else◌, ◌||◌, ◌&&◌, nat_lt, MatchBool}
use Rattle.std.proofs.Math.Bool.{or-true}
use Rattle.cluster_world.specs.NodeNames.{NamedOpening}
use Rattle.term.specs.NodeSets.{set_of}
use Rattle.node_log.specs.Openings.{repeats}
use Rattle.node_log.specs.Entries.{SeatedEntry, Logged}
use Rattle.replay.specs.Steps.{Step, steps_of, log_of, next_of, is_before}
use Rattle.replay.specs.Merging.{IsInOrder, IsMerged, IsNext, Rises, RisesBehind}
use Rattle.replay.specs.Playing.{Takes, world_behind, AreTaken}

some_one : {X : Type 0} (x y : X) → Some x ≡ Some y → x ≡ y
some_one x y e = cc

true_or_false : (b : Bool) → (b ≡ true) ⊎ (b ≡ false)
true_or_false true = inl refl
true_or_false false = inr refl

-- the steps of a node, one more and another's
pub steps_of-own : (a : ℕ) (ss : List Step) (s : Step) → s.node ≡ a → steps_of a (ss ++ s ∷ []) ≡ steps_of a ss ++ s.entry ∷ []
steps_of-own a [] s e = ap (λ (b : Bool). map (λ (r : Step). r.entry) (if b then s ∷ [] else [])) (eq-eqb s.node a e)
steps_of-own a (r ∷ ss) s e = go (r.node == a) (steps_of-own a ss s e)
  where
    go : (b : Bool) → steps_of a (ss ++ s ∷ []) ≡ steps_of a ss ++ s.entry ∷ []
        → map (λ (t : Step). t.entry)
        (if b then r ∷ filter (λ (t : Step). t.node == a) (ss ++ s ∷ []) else filter (λ (t : Step). t.node == a) (ss ++ s ∷ []))
        ≡ map (λ (t : Step). t.entry)
        (if b then r ∷ filter (λ (t : Step). t.node == a) ss else filter (λ (t : Step). t.node == a) ss) ++ s.entry ∷ []
    go true h = ap (λ (es : List SeatedEntry). r.entry ∷ es) h
    go false h = h

other_false : (a b : ℕ) → (a ≡ b → ⊥) → (a == b) ≡ false
other_false a b ne = elim (true_or_false (a == b)) [ inl e ↦ absurd (ne (eqb-true a b e)) | inr e ↦ e ]

pub steps_of-other : (a : ℕ) (ss : List Step) (s : Step) → (s.node ≡ a → ⊥) → steps_of a (ss ++ s ∷ []) ≡ steps_of a ss
steps_of-other a [] s ne = ap (λ (b : Bool). map (λ (r : Step). r.entry) (if b then s ∷ [] else [])) (other_false s.node a ne)
steps_of-other a (r ∷ ss) s ne = go (r.node == a) (steps_of-other a ss s ne)
  where
    go : (b : Bool) → steps_of a (ss ++ s ∷ []) ≡ steps_of a ss
        → map (λ (t : Step). t.entry)
        (if b then r ∷ filter (λ (t : Step). t.node == a) (ss ++ s ∷ []) else filter (λ (t : Step). t.node == a) (ss ++ s ∷ []))
        ≡ map (λ (t : Step). t.entry)
        (if b then r ∷ filter (λ (t : Step). t.node == a) ss else filter (λ (t : Step). t.node == a) ss)
    go true h = ap (λ (es : List SeatedEntry). r.entry ∷ es) h
    go false h = h

pub length-push : {X : Type 0} (xs : List X) (x : X) → length (xs ++ x ∷ []) ≡ length xs + 1
length-push xs x = length-append xs (x ∷ [])

pub count-own : (a : ℕ) (ss : List Step) (s : Step) → s.node ≡ a
    → length (steps_of a (ss ++ s ∷ [])) ≡ length (steps_of a ss) + 1
count-own a ss s e = ap (λ (es : List SeatedEntry). length es) (steps_of-own a ss s e) ∙ length-push (steps_of a ss) s.entry

pub count-other : (a : ℕ) (ss : List Step) (s : Step) → (s.node ≡ a → ⊥)
    → length (steps_of a (ss ++ s ∷ [])) ≡ length (steps_of a ss)
count-other a ss s ne = ap (λ (es : List SeatedEntry). length es) (steps_of-other a ss s ne)

-- of two steps of different nodes, one is before the other
either_before : (x y m n : ℕ) → (nat_lt x y || ((x == y) && nat_lt m n)) ≡ false → (m ≡ n → ⊥)
    → (nat_lt y x || ((y == x) && nat_lt n m)) ≡ true
either_before x y m n h ne = grind (arith, nat_tests)

rises_before : (x y m n : ℕ) → x < y → (nat_lt x y || ((x == y) && nat_lt m n)) ≡ true
rises_before x y m n h = grind (arith, nat_tests)

pub is_before-trans : (s t u : Step) → is_before s t ≡ true → is_before t u ≡ true → is_before s u ≡ true
is_before-trans s t u h k =
    go s.entry.stamp t.entry.stamp u.entry.stamp s.node t.node u.node h k
  where
    go : (x y z l m n : ℕ) → (nat_lt x y || ((x == y) && nat_lt l m)) ≡ true → (nat_lt y z || ((y == z) && nat_lt m n)) ≡ true
        → (nat_lt x z || ((x == z) && nat_lt l n)) ≡ true
    go x y z l m n h k = grind (arith, nat_tests)

pub is_before-anti : (s : Step) → is_before s s ≡ false
is_before-anti s = go s.entry.stamp s.node
  where
    go : (x m : ℕ) → (nat_lt x x || ((x == x) && nat_lt m m)) ≡ false
    go x m = grind (arith, nat_tests)

suc-is : (k : ℕ) → k + 1 ≡ suc k
suc-is k = omega arith

-- what comes next behind what came next is behind it
next_behind : (logs : List Logged) (b : List Step) (t s : Step) → IsNext logs b t → IsNext logs (b ++ t ∷ []) s
    → RisesBehind logs (b ++ t ∷ []) s → is_before t s ≡ true
next_behind logs b t s T S up = elim (cases_eq t.node s.node) [ inl e ↦ own e | inr ne ↦ other ne ]
  where
    own : t.node ≡ s.node → is_before t s ≡ true
    own e =
        let counted : length (steps_of s.node (b ++ t ∷ [])) ≡ suc (length (steps_of s.node b)) =
        count-own s.node b t e ∙ suc-is (length (steps_of s.node b)) in
        let rises : Rises (log_of s.node logs) (suc (length (steps_of s.node b))) =
        subst (Rises (log_of s.node logs)) counted up in
        rises_before t.entry.stamp s.entry.stamp t.node s.node
        (rises t.entry s.entry
        (ap (λ (c : ℕ). next_of c logs b) (sym e) ∙ T.head)
        (ap (slice_get (log_of s.node logs)) (sym counted) ∙ S.head))

    other : (t.node ≡ s.node → ⊥) → is_before t s ≡ true
    other ne =
        either_before s.entry.stamp t.entry.stamp s.node t.node
        (T.least s (ap (slice_get (log_of s.node logs)) (sym (count-other s.node b t ne)) ∙ S.head))
        (λ e. ne (sym e))

module _ (logs : List Logged) (o : NamedOpening) where
  -- so steps that were taken are in order
  in_order : (b : List Step) (t : Step) (ss : List Step) → IsNext logs b t → AreTaken logs o (b ++ t ∷ []) ss
      → IsInOrder (t ∷ ss)
  in_order b t [] T h = tt
  in_order b t (s ∷ ss) T h = (next_behind logs b t s T h.0 h.1, in_order (b ++ t ∷ []) s ss h.0 h.3)

  pub taken_in_order : (ss : List Step) → AreTaken logs o [] ss → IsInOrder ss
  taken_in_order [] h = tt
  taken_in_order (s ∷ ss) h = in_order [] s ss h.0 h.3

  -- one step more is taken
  taken_behind : (all before ss : List Step) (t : Step) → all ≡ before ++ ss → AreTaken logs o before ss
      → IsNext logs all t → RisesBehind logs all t → Takes o (world_behind o all) t → AreTaken logs o before (ss ++ t ∷ [])
  taken_behind all before [] t e h next up takes =
      let same : all ≡ before = e ∙ append-nil before in (
        subst (λ (l : List Step). IsNext logs l t) same next,
        subst (λ (l : List Step). RisesBehind logs l t) same up,
        subst (λ (l : List Step). Takes o (world_behind o l) t) same takes,
        tt,
      )
  taken_behind all before (s ∷ ss) t e h next up takes = (
    h.0,
    h.1,
    h.2,
    taken_behind all (before ++ s ∷ []) ss t (e ∙ sym (append_assoc before (s ∷ []) ss)) h.3 next up takes,
  )

  pub taken_push : (ss : List Step) (t : Step) → AreTaken logs o [] ss → IsNext logs ss t → RisesBehind logs ss t
      → Takes o (world_behind o ss) t → AreTaken logs o [] (ss ++ t ∷ [])
  taken_push ss t = taken_behind ss [] ss t refl

  take-next : {X : Type 0} (xs : List X) (k : ℕ) (x : X) → slice_get xs k ≡ Some x → take k xs ++ x ∷ [] ≡ take (suc k) xs
  take-next [] k x h = cc
  take-next {X} (y ∷ ys) zero x h = ap (λ (z : X). z ∷ []) (some_one x y (sym h))
  take-next {X} (y ∷ ys) (suc k) x h = ap (λ (zs : List X). y ∷ zs) (take-next ys k x h)

  -- each node's steps are the beginning of its log
  Begin : List Step → Type 0
  Begin ss = (a : ℕ) → steps_of a ss ≡ take (length (steps_of a ss)) (log_of a logs)

  begin_push : (ss : List Step) (s : Step) → Begin ss → IsNext logs ss s → Begin (ss ++ s ∷ [])
  unfolding Begin
  begin_push ss s B N a = elim (cases_eq s.node a) [ inl e ↦ own e | inr ne ↦ other ne ]
    where
      own : s.node ≡ a → steps_of a (ss ++ s ∷ []) ≡ take (length (steps_of a (ss ++ s ∷ []))) (log_of a logs)
      own e = steps_of-own a ss s e ∙ ap (λ (es : List SeatedEntry). es ++ s.entry ∷ []) (B a)
          ∙ take-next (log_of a logs) (length (steps_of a ss)) s.entry (ap (λ (c : ℕ). next_of c logs ss) (sym e) ∙ N.head)
          ∙ ap (λ (k : ℕ). take k (log_of a logs)) (sym (count-own a ss s e ∙ suc-is (length (steps_of a ss))))

      other : (s.node ≡ a → ⊥) → steps_of a (ss ++ s ∷ []) ≡ take (length (steps_of a (ss ++ s ∷ []))) (log_of a logs)
      other ne = steps_of-other a ss s ne ∙ B a
          ∙ ap (λ (k : ℕ). take k (log_of a logs)) (sym (count-other a ss s ne))

  begins : (before ss : List Step) → Begin before → AreTaken logs o before ss → Begin (before ++ ss)
  begins before [] B h = subst Begin (sym (append-nil before)) B
  begins before (s ∷ ss) B h =
      subst Begin (append_assoc before (s ∷ []) ss) (begins (before ++ s ∷ []) ss (begin_push before s B h.0) h.3)

  begin_nothing : Begin []
  unfolding Begin
  begin_nothing a = refl

  -- where no log has an entry left, all were merged
  pub all_merged : (ss : List Step) → AreTaken logs o [] ss → ((a : ℕ) → length (log_of a logs) ≤ length (steps_of a ss))
      → IsMerged logs ss
  unfolding Begin
  all_merged ss h past = record {
    order = taken_in_order ss h;
    whole = λ a. begins [] ss begin_nothing h a ∙ take_all (length (steps_of a ss)) (log_of a logs) (past a);
  }

-- where a node's log stands among these
pub record Stands (a : ℕ) (logs : List Logged) : Type 0 where
  pub place : ℕ
  pub log : Logged
  pub here : slice_get logs place ≡ Some log
  pub whose : log.node ≡ a
  pub is : log_of a logs ≡ log.entries

pub found : (a : ℕ) (logs : List Logged) → (log_of a logs ≡ []) ⊎ Stands a logs
found a [] = inl refl
found a (l ∷ ls) = go (l.node == a) refl (found a ls)
  where
    go : (b : Bool) → (l.node == a) ≡ b → (log_of a ls ≡ []) ⊎ Stands a ls → (log_of a (l ∷ ls) ≡ []) ⊎ Stands a (l ∷ ls)
    go true e h = inr (record {
      place = 0;
      log = l;
      here = refl;
      whose = eqb-true l.node a e;
      is = ap (λ (b : Bool). if b then l.entries else log_of a ls) e;
    })
    go false e (inl h) = inl (ap (λ (b : Bool). if b then l.entries else log_of a ls) e ∙ h)
    go false e (inr S) = inr (record {
      place = suc S.place;
      log = S.log;
      here = S.here;
      whose = S.whose;
      is = ap (λ (b : Bool). if b then l.entries else log_of a ls) e ∙ S.is;
    })

never_both : (b : Bool) → b ≡ true → b ≡ false → ⊥
never_both b e f = cc

-- the node of a log that stands there has a log
later_log : (a : ℕ) (m : Logged) (ms : List Logged) → (m.node == a) ≡ false → Stands a ms → Stands a (m ∷ ms)
later_log a m ms e S = record {
  place = suc S.place;
  log = S.log;
  here = S.here;
  whose = S.whose;
  is = ap (λ (b : Bool). if b then m.entries else log_of a ms) e ∙ S.is;
}

first_log : (a : ℕ) (m : Logged) (ms : List Logged) → (m.node == a) ≡ true → Stands a (m ∷ ms)
first_log a m ms e = record {
  place = 0;
  log = m;
  here = refl;
  whose = eqb-true m.node a e;
  is = ap (λ (b : Bool). if b then m.entries else log_of a ms) e;
}

pub stands : (logs : List Logged) (k : ℕ) (l : Logged) → slice_get logs k ≡ Some l → Stands l.node logs
stands [] k l h = cc
stands (m ∷ ms) zero l h = first_log l.node m ms (eq-eqb m.node l.node (ap (λ (x : Logged). x.node) (some_one m l h)))
stands (m ∷ ms) (suc k) l h =
    elim (true_or_false (m.node == l.node)) [
      | inl e ↦ first_log l.node m ms e
      | inr e ↦ later_log l.node m ms e (stands ms k l h)
    ]

-- the node at a place is one of the list
pub set_of-at : (xs : List ℕ) (k c : ℕ) → slice_get xs k ≡ Some c → set_of xs c ≡ true
set_of-at [] k c h = cc
set_of-at (x ∷ xs) zero c h = ap (λ (b : Bool). b || set_of xs c) (eq-eqb x c (some_one x c h))
set_of-at (x ∷ xs) (suc k) c h = ap (λ (b : Bool). (x == c) || b) (set_of-at xs k c h) ∙ or-true (x == c)

or_parts : (a b : Bool) → (a || b) ≡ false → (a ≡ false) × (b ≡ false)
or_parts true b h = cc
or_parts false b h = (refl, h)

-- no node stands twice
pub alone : (xs : List ℕ) (j k c : ℕ) → repeats xs ≡ false → slice_get xs j ≡ Some c → slice_get xs k ≡ Some c → j ≡ k
alone [] j k c h p q = cc
alone (x ∷ xs) zero zero c h p q = refl
alone (x ∷ xs) zero (suc k) c h p q =
    absurd (never (set_of xs c) (set_of-at xs k c q) (ap (set_of xs) (sym (some_one x c p)) ∙ (or_parts (set_of xs x) (repeats xs) h).0))
  where
    never : (b : Bool) → b ≡ true → b ≡ false → ⊥
    never b e f = cc
alone (x ∷ xs) (suc j) zero c h p q =
    absurd (never (set_of xs c) (set_of-at xs j c p) (ap (set_of xs) (sym (some_one x c q)) ∙ (or_parts (set_of xs x) (repeats xs) h).0))
  where
    never : (b : Bool) → b ≡ true → b ≡ false → ⊥
    never b e f = cc
alone (x ∷ xs) (suc j) (suc k) c h p q = ap suc (alone xs j k c (or_parts (set_of xs x) (repeats xs) h).1 p q)

-- whether the stamp of an entry rises
pub rises_by : (es : List SeatedEntry) (at before : ℕ) (d e : SeatedEntry) → at ≡ suc before → slice_get es before ≡ Some d
    → slice_get es at ≡ Some e → MatchBool (nat_lt d.stamp e.stamp) (Rises es at) (Rises es at → ⊥)
rises_by es at before d e is h i =
    subst (λ (k : ℕ). MatchBool (nat_lt d.stamp e.stamp) (Rises es k) (Rises es k → ⊥)) (sym is)
    (go (nat_lt d.stamp e.stamp) refl (ap (slice_get es) (sym is) ∙ i))
  where
    below : (x y : ℕ) → nat_lt x y ≡ true → x < y
    below x y e = grind (arith, nat_tests)

    above : (x y : ℕ) → nat_lt x y ≡ false → x < y → ⊥
    above x y e l = grind (arith, nat_tests)

    go : (b : Bool) → nat_lt d.stamp e.stamp ≡ b → slice_get es (suc before) ≡ Some e
        → MatchBool b (Rises es (suc before)) (Rises es (suc before) → ⊥)
    go true l j = λ f g p q.
        let first : d ≡ f = some_one d f (sym h ∙ p) in
        let second : e ≡ g = some_one e g (sym j ∙ q) in
        subst (λ (x : SeatedEntry). f.stamp < x.stamp) second
        (subst (λ (x : SeatedEntry). x.stamp < e.stamp) first (below d.stamp e.stamp l))
    go false l j = λ rises. above d.stamp e.stamp l (rises d e h j)

-- the log of a node is the one that stands there, where no node has two
pub log_is : (logs : List Logged) → repeats (map (λ (l : Logged). l.node) logs) ≡ false → (k : ℕ) (l : Logged)
    → slice_get logs k ≡ Some l → log_of l.node logs ≡ l.entries
log_is logs once k l h = at (stands logs k l h)
  where
    node_at : (j : ℕ) (m : Logged) → slice_get logs j ≡ Some m → m.node ≡ l.node
        → slice_get (map (λ (n : Logged). n.node) logs) j ≡ Some l.node
    node_at j m i e = slice_get-map (λ (n : Logged). n.node) logs j ∙ ap (option_map (λ (n : Logged). n.node)) i
        ∙ ap (λ (c : ℕ). Some c) e

    at : Stands l.node logs → log_of l.node logs ≡ l.entries
    at S = S.is
        ∙ ap (λ (m : Logged). m.entries) (some_one S.log l (sym S.here
        ∙ ap (slice_get logs) (alone (map (λ (n : Logged). n.node) logs) S.place k l.node once
        (node_at S.place S.log S.here S.whose) (node_at k l h refl)) ∙ h))
