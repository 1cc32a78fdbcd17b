-- A least one is looked for along a list.
use Rattle.std.proofs.Common.{ℕ, Bool, true, false, ◌≡◌, ◌<◌, ◌≤◌, ◌+◌, ◌⊎◌, inl, inr, Some, None, List, refl, sym, ap, subst, ◌∙◌, arith}
use Rattle.std.proofs.lemmas.Bool.Decides.{nat_tests}
use Rattle.std.specs.List.{slice_get}
use Rattle.std.specs.Prelude.{Option, IfSome, if◌then◌else◌, nat_lt}
use Rattle.replay.specs.Least.{AllSuch, IsLeastOther, LeastOther, IsChosen}

below_or : (j n : ℕ) → j < n + 1 → (j < n) ⊎ (j ≡ n)
below_or j n h = grind arith

false_or_true : (b : Bool) → (b ≡ true → ⊥) → b ≡ false
false_or_true true h = absurd (h refl)
false_or_true false h = refl

some_one : {X : Type 0} (x y : X) → Some x ≡ Some y → x ≡ y
some_one x y e = cc

module _ {X : Type 0} (Q : X → Type 0) (before : X → X → Bool) (trans : (x y z : X) → before x y ≡ true → before y z ≡ true → before x z ≡ true) (anti : (x : X) → before x x ≡ false) (xs : List X) (n : ℕ) (x : X) (at : slice_get xs n ≡ Some x) where
  -- it is the item at n
  is_it : (y : X) → slice_get xs n ≡ Some y → y ≡ x
  is_it y h = some_one y x (sym h ∙ at)

  -- the next is such
  pub such_more : AllSuch Q xs n → Q x → AllSuch Q xs (n + 1)
  such_more all q j y l h =
      elim (below_or j n l) [
        | inl low ↦ all j y low h
        | inr e ↦ subst Q (sym (is_it y (ap (slice_get xs) (sym e) ∙ h))) q
      ]

  -- so the least stays
  pub least_kept : (k : ℕ) → IsLeastOther Q before xs n k → Q x → IsLeastOther Q before xs (n + 1) k
  least_kept k L q = record {
    within = omega (arith, L.within);
    item = L.item;
    here = L.here;
    other = L.other;
    least = λ j y l h not. elim (below_or j n l) [
      | inl low ↦ L.least j y low h not
      | inr e ↦ absurd (not (subst Q (sym (is_it y (ap (slice_get xs) (sym e) ∙ h))) q))
    ];
  }

  -- or the next isn't before it
  pub least_stays : (k : ℕ) (L : IsLeastOther Q before xs n k) → before x L.item ≡ false
      → IsLeastOther Q before xs (n + 1) k
  least_stays k L later = record {
    within = omega (arith, L.within);
    item = L.item;
    here = L.here;
    other = L.other;
    least = λ j y l h not. elim (below_or j n l) [
      | inl low ↦ L.least j y low h not
      | inr e ↦ ap (λ (z : X). before z L.item) (is_it y (ap (slice_get xs) (sym e) ∙ h)) ∙ later
    ];
  }

  -- the next is the first that isn't such
  pub least_first : AllSuch Q xs n → (Q x → ⊥) → IsLeastOther Q before xs (n + 1) n
  least_first all other = record {
    within = omega arith;
    item = x;
    here = at;
    other = other;
    least = λ j y l h not. elim (below_or j n l) [
      | inl low ↦ absurd (not (all j y low h))
      | inr e ↦ ap (λ (z : X). before z x) (is_it y (ap (slice_get xs) (sym e) ∙ h)) ∙ anti x
    ];
  }

  -- or the next is before the least
  pub least_next : (k : ℕ) (L : IsLeastOther Q before xs n k) → (Q x → ⊥) → before x L.item ≡ true
      → IsLeastOther Q before xs (n + 1) n
  least_next k L other sooner = record {
    within = omega arith;
    item = x;
    here = at;
    other = other;
    least = λ j y l h not. elim (below_or j n l) [
      | inl low ↦ false_or_true (before y x) (λ e. absurd (apart (before y L.item) (trans y x L.item e sooner) (L.least j y low h not)))
      | inr e ↦ ap (λ (z : X). before z x) (is_it y (ap (slice_get xs) (sym e) ∙ h)) ∙ anti x
    ];
  }
    where
      apart : (b : Bool) → b ≡ true → b ≡ false → ⊥
      apart b e f = cc

-- the next is such: the place stays
pub least_skip : {X : Type 0} (Q : X → Type 0) (before : X → X → Bool) (xs : List X) (n : ℕ) (x : X) (o : Option ℕ)
    → slice_get xs n ≡ Some x → Q x → LeastOther Q before xs n o → LeastOther Q before xs (n + 1) o
least_skip Q before xs n x None at q h = skip-all
  where
    skip-all : AllSuch Q xs (n + 1)
    skip-all j y l i =
        elim (below_or j n l) [
          | inl low ↦ h j y low i
          | inr e ↦ subst Q (some_one x y (sym at ∙ ap (slice_get xs) (sym e) ∙ i)) q
        ]
least_skip {X} Q before xs n x (Some k) at q L = record {
  within = omega (arith, L.within);
  item = L.item;
  here = L.here;
  other = L.other;
  least = λ j y l i not. elim (below_or j n l) [
    | inl low ↦ L.least j y low i not
    | inr e ↦ absurd (not (subst Q (some_one x y (sym at ∙ ap (slice_get xs) (sym e) ∙ i)) q))
  ];
}

-- the next isn't: the place is that of the one before the other
pub least_chosen : {X : Type 0} (Q : X → Type 0) (before : X → X → Bool)
    → ((x y z : X) → before x y ≡ true → before y z ≡ true → before x z ≡ true) → ((x : X) → before x x ≡ false)
    → (xs : List X) (n : ℕ) (x : X) (o r : Option ℕ) → slice_get xs n ≡ Some x → (Q x → ⊥) → LeastOther Q before xs n o
    → IsChosen before xs n o r → LeastOther Q before xs (n + 1) r
least_chosen Q before trans anti xs n x None r at other h is =
    subst (LeastOther Q before xs (n + 1)) (sym is) (least_first Q before trans anti xs n x at h other)
least_chosen {X} Q before trans anti xs n x (Some k) r at other L is =
    subst (LeastOther Q before xs (n + 1)) (sym (is x L.item at L.here)) (go (before x L.item) refl)
  where
    go : (b : Bool) → before x L.item ≡ b → LeastOther Q before xs (n + 1) (if b then Some n else Some k)
    go true e = least_next Q before trans anti xs n x at k L other e
    go false e = least_stays Q before trans anti xs n x at k L e

-- and it is within the list
pub least_within : {X : Type 0} (Q : X → Type 0) (before : X → X → Bool) (xs : List X) (n m : ℕ) (o : Option ℕ) → n ≤ m
    → LeastOther Q before xs n o → IfSome o (λ k. k < m)
least_within Q before xs n m None l h = tt
least_within Q before xs n m (Some k) l h = omega (arith, l, h.within)

pub lt-trans : (a b c : ℕ) → nat_lt a b ≡ true → nat_lt b c ≡ true → nat_lt a c ≡ true
lt-trans a b c h k = grind (arith, nat_tests)

pub lt-anti : (a : ℕ) → nat_lt a a ≡ false
lt-anti a = grind (arith, nat_tests)

pub least_end : {X : Type 0} (Q : X → Type 0) (before : X → X → Bool) (xs : List X) (n m : ℕ) (o : Option ℕ) → n ≡ m
    → LeastOther Q before xs n o → LeastOther Q before xs m o
least_end Q before xs n m o e h = subst (λ (k : ℕ). LeastOther Q before xs k o) e h
