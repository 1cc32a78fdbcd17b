-- Readers that stand behind the steps that were taken.
use Rattle.std.proofs.Common.{ℕ, zero, suc, Bool, true, false, ◌≡◌, ◌<◌, ◌≤◌, ◌+◌, ◌⊎◌, inl, inr, Some, None, List, [], ◌∷◌, ◌++◌, length, set, map, refl, sym, ap, subst, ◌∙◌, arith}
use Rattle.std.proofs.lemmas.Bool.{cases_eq}
use Rattle.std.proofs.lemmas.Option.{slice_get_within, slice_get-map}
use Rattle.std.specs.List.{slice_get}
use Rattle.std.specs.Option.{option_map}
use Rattle.std.specs.Prelude.{Option, is_some}
use Rattle.node_log.specs.Openings.{repeats}
use Rattle.node_log.specs.Entries.{SeatedEntry, Logged}
use Rattle.replay.specs.declared.merge.Reader.{Reader}
use Rattle.replay.specs.Least.{AllSuch, IsLeastOther}
use Rattle.replay.specs.Merging.{IsNext}
use Rattle.replay.specs.Reading.{head_of, step_of, goes_first, StandBehind}
use Rattle.replay.specs.Steps.{Step, steps_of, log_of, next_of, is_before}
use Rattle.replay.proofs.Merging.{Stands, found, log_is, alone, count-own, count-other, length-push, is_before-trans, is_before-anti}

some_one : {X : Type 0} (x y : X) → Some x ≡ Some y → x ≡ y
some_one x y e = cc

node_of : Logged → ℕ
node_of l = l.node

-- what goes first
first_of_two : Reader → Reader → Option SeatedEntry → Option SeatedEntry → Bool
first_of_two r s h k =
    elim h [ None ↦ false | Some e ↦ elim k [ None ↦ false | Some f ↦ is_before (step_of r e) (step_of s f) ] ]

pub goes_first-trans : (r s t : Reader) → goes_first r s ≡ true → goes_first s t ≡ true → goes_first r t ≡ true
unfolding first_of_two
goes_first-trans r s t h k = go (head_of r) (head_of s) (head_of t) h k
  where
    go : (a b c : Option SeatedEntry) → first_of_two r s a b ≡ true → first_of_two s t b c ≡ true → first_of_two r t a c ≡ true
    go None b c h k = cc
    go (Some e) None c h k = cc
    go (Some e) (Some f) None h k = cc
    go (Some e) (Some f) (Some g) h k = is_before-trans (step_of r e) (step_of s f) (step_of t g) h k

pub goes_first-anti : (r : Reader) → goes_first r r ≡ false
unfolding first_of_two
goes_first-anti r = go (head_of r)
  where
    go : (a : Option SeatedEntry) → first_of_two r r a a ≡ false
    go None = refl
    go (Some e) = is_before-anti (step_of r e)

first_at : (r s : Reader) (e f : SeatedEntry) → head_of r ≡ Some e → head_of s ≡ Some f → goes_first r s
    ≡ is_before (step_of r e) (step_of s f)
unfolding first_of_two
first_at r s e f h k = ap (λ (a : Option SeatedEntry). first_of_two r s a (head_of s)) h
    ∙ ap (λ (b : Option SeatedEntry). first_of_two r s (Some e) b) k

there : {X : Type 0} (xs : List X) (k : ℕ) → k < length xs → (x : X) × (slice_get xs k ≡ Some x)
there [] k l = absurd (omega (arith, l))
there (x ∷ xs) zero l = (x, refl)
there (x ∷ xs) (suc k) l = there xs k (omega (arith, l))

set-same : {X : Type 0} (xs : List X) (k : ℕ) (x y : X) → slice_get xs k ≡ Some x → slice_get (set xs k y) k ≡ Some y
set-same [] k x y h = cc
set-same (z ∷ zs) zero x y h = refl
set-same (z ∷ zs) (suc k) x y h = set-same zs k x y h

set-other : {X : Type 0} (xs : List X) (j k : ℕ) (y : X) → (j ≡ k → ⊥) → slice_get (set xs k y) j ≡ slice_get xs j
set-other [] j k y ne = refl
set-other (z ∷ zs) zero zero y ne = absurd (ne refl)
set-other (z ∷ zs) zero (suc k) y ne = refl
set-other (z ∷ zs) (suc j) zero y ne = refl
set-other (z ∷ zs) (suc j) (suc k) y ne = set-other zs j k y (λ e. ne (ap suc e))

length-set : {X : Type 0} (xs : List X) (k : ℕ) (y : X) → length (set xs k y) ≡ length xs
length-set [] k y = refl
length-set (z ∷ zs) zero y = refl
length-set (z ∷ zs) (suc k) y = ap suc (length-set zs k y)

-- readers of logs, no two of one node
module _ (logs : List Logged) (once : repeats (map (λ (l : Logged). l.node) logs) ≡ false) (ss : List Step) (rs : List Reader) (stand : StandBehind logs ss rs) where
  lone_place : (j k : ℕ) (l m : Logged) → slice_get logs j ≡ Some l → slice_get logs k ≡ Some m → l.node ≡ m.node → j ≡ k
  lone_place j k l m h i e =
      alone (map (λ (l : Logged). l.node) logs) j k m.node once
      (slice_get-map (λ (l : Logged). l.node) logs j ∙ ap (option_map (λ (l : Logged). l.node)) h
      ∙ ap (λ (c : ℕ). Some c) e)
      (slice_get-map (λ (l : Logged). l.node) logs k ∙ ap (option_map (λ (l : Logged). l.node)) i)

  never : {X : Type 0} (x : X) → None ≡ Some x → ⊥
  never x e = cc

  -- the log of a reader's node is the one that it reads
  pub own_log : (k : ℕ) (r : Reader) → slice_get rs k ≡ Some r → log_of r.log.now.node logs ≡ r.log.now.entries
  own_log k r h = log_is logs once k r.log.now (stand.reads k r h)

  -- a log that has an entry left is that of a reader that has it
  pub reader_of : (a : ℕ) (e : SeatedEntry) → next_of a logs ss ≡ Some e
      → (k : ℕ) × (r : Reader) × (slice_get rs k ≡ Some r) × (r.log.now.node ≡ a) × (head_of r ≡ Some e)
  reader_of a e h = elim (found a logs) [ inl none ↦ absurd (empty none) | inr S ↦ at S ]
    where
      empty : log_of a logs ≡ [] → ⊥
      empty none = never e (sym (ap (λ (es : List SeatedEntry). slice_get es (length (steps_of a ss))) none) ∙ h)

      at : Stands a logs → (k : ℕ) × (r : Reader) × (slice_get rs k ≡ Some r) × (r.log.now.node ≡ a) × (head_of r ≡ Some e)
      at S =
          let item = there rs S.place (subst (λ (n : ℕ). S.place < n) (sym stand.long) (slice_get_within logs S.place S.log S.here)) in
          let is : item.0.log.now ≡ S.log = some_one item.0.log.now S.log (sym (stand.reads S.place item.0 item.1) ∙ S.here) in
          let whose : item.0.log.now.node ≡ a = ap (λ (l : Logged). l.node) is ∙ S.whose in (
            S.place,
            item.0,
            item.1,
            whose,
            ap (slice_get item.0.log.now.entries) (stand.at S.place item.0 item.1
                ∙ ap (λ (c : ℕ). length (steps_of c ss)) whose)
                ∙ ap (λ (es : List SeatedEntry). slice_get es (length (steps_of a ss)))
                (ap (λ (l : Logged). l.entries) is ∙ sym S.is) ∙ h,
          )

  -- what the first reader has comes next
  pub comes_next : (k : ℕ) (L : IsLeastOther (λ r. head_of r ≡ None) goes_first rs (length rs) k) (e : SeatedEntry)
      → head_of L.item ≡ Some e → IsNext logs ss (step_of L.item e)
  comes_next k L e h = record {
    head = ap (λ (es : List SeatedEntry). slice_get es (length (steps_of L.item.log.now.node ss))) (own_log k L.item L.here)
        ∙ ap (slice_get L.item.log.now.entries) (sym (stand.at k L.item L.here)) ∙ h;
    least = λ t n. later t (reader_of t.node t.entry n);
  }
    where
      later : (t : Step)
          → (j : ℕ) × (r : Reader) × (slice_get rs j ≡ Some r) × (r.log.now.node ≡ t.node) × (head_of r ≡ Some t.entry)
          → is_before t (step_of L.item e) ≡ false
      later t w =
          ap (λ (a : ℕ). is_before (record { node = a; entry = t.entry }) (step_of L.item e)) (sym w.3)
          ∙ sym (first_at w.1 L.item t.entry e w.4 h)
          ∙ L.least w.0 w.1 (slice_get_within rs w.0 w.1 w.2) w.2 (λ none. never t.entry (sym none ∙ w.4))

  -- and when it is read, the readers stand behind it
  pub read_on : (k : ℕ) (r : Reader) (e : SeatedEntry) → slice_get rs k ≡ Some r
      → StandBehind logs (ss ++ step_of r e ∷ []) (set rs k (record r { at = r.at + 1 }))
  read_on k r e h = record {
    long = length-set rs k (record r { at = r.at + 1 }) ∙ stand.long;
    reads = λ j q i. elim (cases_eq j k) [
      | inl same ↦ ap (slice_get logs) same ∙ stand.reads k r h ∙ ap (λ (l : Logged). Some l) (sym (ap (λ (x : Reader). x.log.now) (it j q i same)))
      | inr ne ↦ stand.reads j q (sym (set-other rs j k (record r { at = r.at + 1 }) ne) ∙ i)
    ];
    at = λ j q i. elim (cases_eq j k) [
      | inl same ↦ ap (λ (x : Reader). x.at) (it j q i same) ∙ ap (λ (n : ℕ). n + 1) (stand.at k r h)
          ∙ sym (count-own r.log.now.node ss (step_of r e) refl)
          ∙ ap (λ (x : Reader). length (steps_of x.log.now.node (ss ++ step_of r e ∷ []))) (sym (it j q i same))
      | inr ne ↦ other j q (sym (set-other rs j k (record r { at = r.at + 1 }) ne) ∙ i) ne
    ];
  }
    where
      it : (j : ℕ) (q : Reader) → slice_get (set rs k (record r { at = r.at + 1 })) j ≡ Some q → j ≡ k
          → q ≡ record r { at = r.at + 1 }
      it j q i same = some_one q (record r { at = r.at + 1 })
          (sym i ∙ ap (slice_get (set rs k (record r { at = r.at + 1 }))) same ∙ set-same rs k r (record r { at = r.at + 1 }) h)

      other : (j : ℕ) (q : Reader) → slice_get rs j ≡ Some q → (j ≡ k → ⊥)
          → q.at ≡ length (steps_of q.log.now.node (ss ++ step_of r e ∷ []))
      other j q i ne =
          stand.at j q i
          ∙ sym (count-other q.log.now.node ss (step_of r e)
          (λ e. ne (lone_place j k q.log.now r.log.now (stand.reads j q i) (stand.reads k r h) (sym e))))

  -- where no reader has an entry left, all logs were read
  pub all_read : AllSuch (λ (r : Reader). head_of r ≡ None) rs (length rs) → (a : ℕ) → length (log_of a logs) ≤ length (steps_of a ss)
  all_read none a = past (log_of a logs) (length (steps_of a ss)) (λ e h.
      let w = reader_of a e h in never e (sym (none w.0 w.1 (slice_get_within rs w.0 w.1 w.2) w.2) ∙ w.4))
    where
      past : (es : List SeatedEntry) (n : ℕ) → ((e : SeatedEntry) → slice_get es n ≡ Some e → ⊥) → length es ≤ n
      past [] n h = omega arith
      past (e ∷ es) zero h = absurd (h e refl)
      past (e ∷ es) (suc n) h = omega (arith, past es n h)

-- a reader with an entry left has one
pub has_head : {A B : Type 0} (f : A → B) (o : Option A) (h : Option B) → option_map f o ≡ h → is_some o ≡ true → h ≡ None → ⊥
has_head f None h e some g = cc
has_head f (Some a) h e some g = never (f a) (e ∙ g)
  where
    never : {B : Type 0} (b : B) → Some b ≡ None → ⊥
    never b e = cc

-- of a list with one more at its end
at_end : {X : Type 0} (xs : List X) (x y : X) (k : ℕ) → slice_get (xs ++ x ∷ []) k ≡ Some y
    → (slice_get xs k ≡ Some y) ⊎ ((k ≡ length xs) × (x ≡ y))
at_end [] x y zero h = inr (refl, some_one x y h)
at_end [] x y (suc k) h = cc
at_end (z ∷ zs) x y zero h = inl h
at_end (z ∷ zs) x y (suc k) h = elim (at_end zs x y k h) [ inl p ↦ inl p | inr p ↦ inr (ap suc p.0, p.1) ]

-- readers that stand at the beginning, and one more
module _ (logs : List Logged) (rs qs : List Reader) (n : ℕ) (r : Reader) (are : qs ≡ rs ++ r ∷ []) (long : length rs ≡ n) where
  pub longer : length qs ≡ n + 1
  longer = ap (λ (xs : List Reader). length xs) are ∙ length-push rs r ∙ ap (λ (m : ℕ). m + 1) long

  pub reads_more : slice_get logs n ≡ Some r.log.now
      → ((k : ℕ) (q : Reader) → slice_get rs k ≡ Some q → slice_get logs k ≡ Some q.log.now)
      → (k : ℕ) (q : Reader) → slice_get qs k ≡ Some q → slice_get logs k ≡ Some q.log.now
  reads_more at below k q h =
      elim (at_end rs r q k (ap (λ (xs : List Reader). slice_get xs k) (sym are) ∙ h)) [
        | inl p ↦ below k q p
        | inr p ↦ ap (slice_get logs) (p.0 ∙ long) ∙ at ∙ ap (λ (x : Reader). Some x.log.now) p.1
      ]

  pub begins_more : r.at ≡ 0 → ((k : ℕ) (q : Reader) → slice_get rs k ≡ Some q → q.at ≡ 0)
      → (k : ℕ) (q : Reader) → slice_get qs k ≡ Some q → q.at ≡ 0
  begins_more at below k q h =
      elim (at_end rs r q k (ap (λ (xs : List Reader). slice_get xs k) (sym are) ∙ h)) [
        | inl p ↦ below k q p
        | inr p ↦ ap (λ (x : Reader). x.at) (sym p.1) ∙ at
      ]
