-- The steps of a run: of two of them the later has no lesser stamp, and where it has no greater one, all behind the first are
-- of other nodes.
use Rattle.std.proofs.Common.{ℕ, true, ◌==◌, ◌≡◌, ◌<◌, ◌≤◌, inl, inr, List, [], ◌∷◌, ◌++◌, arith}
use Rattle.std.specs.Prelude.{◌⊎◌, ◌||◌, ◌&&◌, nat_lt}
use Rattle.std.proofs.lemmas.Bool.{cases_lt}
use Rattle.std.proofs.lemmas.Bool.Decides.{nat_tests}
use Rattle.protocol_model.specs.World.{Opening, World, happens, run}
use Rattle.closings.specs.Merging.{Step, is_before, IsInOrder, happening, events_in, TakesAll}

-- what is before another has a lesser stamp, or the same and a lesser node: x, m and y, n are their stamps and nodes
before_cases : (x y m n : ℕ) → (nat_lt x y || ((x == y) && nat_lt m n)) ≡ true → (x < y) ⊎ ((x ≡ y) × (m < n))
before_cases x y m n h = elim (cases_lt x y) [ inl l ↦ inl l | inr l ↦ inr (same l h, lesser l h) ]
  where
    same : y ≤ x → (nat_lt x y || ((x == y) && nat_lt m n)) ≡ true → x ≡ y
    same l h = grind (arith, nat_tests)

    lesser : y ≤ x → (nat_lt x y || ((x == y) && nat_lt m n)) ≡ true → m < n
    lesser l h = grind (arith, nat_tests)

pub is_before_cases : (s t : Step) → is_before s t ≡ true
    → (s.entry.stamp < t.entry.stamp) ⊎ ((s.entry.stamp ≡ t.entry.stamp) × (s.node < t.node))
is_before_cases s t h = before_cases s.entry.stamp t.entry.stamp s.node t.node h

-- what is behind, and what is in front
rest_order : (s : Step) (ss : List Step) → IsInOrder (s ∷ ss) → IsInOrder ss
rest_order s [] h = tt
rest_order s (t ∷ ss) h = h.1

pub order_behind : (xs ys : List Step) → IsInOrder (xs ++ ys) → IsInOrder ys
order_behind [] ys h = h
order_behind (x ∷ xs) ys h = order_behind xs ys (rest_order x (xs ++ ys) h)

pub order_front : (xs ys : List Step) → IsInOrder (xs ++ ys) → IsInOrder xs
order_front [] ys h = tt
order_front (x ∷ []) ys h = tt
order_front (x ∷ y ∷ xs) ys h = (h.0, order_front (y ∷ xs) ys h.1)

module _ (o : Opening) where
  pub takes_behind : (w : World) (xs ys : List Step) → TakesAll o w (xs ++ ys) → TakesAll o (run o w (events_in xs)) ys
  takes_behind w [] ys h = h
  takes_behind w (x ∷ xs) ys h = takes_behind (happens o w (happening x)) xs ys h.1

  pub takes_front : (w : World) (xs ys : List Step) → TakesAll o w (xs ++ ys) → TakesAll o w xs
  takes_front w [] ys h = tt
  takes_front w (x ∷ xs) ys h = (h.0, takes_front (happens o w (happening x)) xs ys h.1)

-- the step is before each of these
abbrev pub LeadsAll : Step → List Step → Type 0
LeadsAll s [] = Unit {0}
LeadsAll s (t ∷ ts) = (is_before s t ≡ true) × LeadsAll s ts

-- what is before another is before all that is behind that
onward : (x y z k m n : ℕ) → (nat_lt x y || ((x == y) && nat_lt k m)) ≡ true → (nat_lt y z || ((y == z) && nat_lt m n)) ≡ true
    → (nat_lt x z || ((x == z) && nat_lt k n)) ≡ true
onward x y z k m n h i = grind (arith, nat_tests)

before_rest : (s t : Step) (ts : List Step) → is_before s t ≡ true → LeadsAll t ts → LeadsAll s ts
before_rest s t [] h k = tt
before_rest s t (u ∷ ts) h k = (
  onward s.entry.stamp t.entry.stamp u.entry.stamp s.node t.node u.node h k.0,
  before_rest s t ts h k.1,
)

pub leads_all : (s : Step) (ts : List Step) → IsInOrder (s ∷ ts) → LeadsAll s ts
leads_all s [] h = tt
leads_all s (t ∷ ts) h = (h.0, before_rest s t ts h.0 (leads_all t ts h.1))

-- so it is before each of them
pub leads_one : (s : Step) (us : List Step) (t : Step) (ts : List Step) → LeadsAll s (us ++ t ∷ ts) → is_before s t ≡ true
leads_one s [] t ts h = h.0
leads_one s (u ∷ us) t ts h = leads_one s us t ts h.1

-- none of these steps is of node a
abbrev pub AreElsewhere : ℕ → List Step → Type 0
AreElsewhere a [] = Unit {0}
AreElsewhere a (s ∷ ss) = (s.node ≡ a → ⊥) × AreElsewhere a ss

-- where none of the steps behind s has a greater stamp, all are of other nodes
abbrev AreAtMost : ℕ → List Step → Type 0
AreAtMost n [] = Unit {0}
AreAtMost n (s ∷ ss) = (s.entry.stamp ≤ n) × AreAtMost n ss

at_most : (n : ℕ) (us : List Step) (t : Step) → t.entry.stamp ≤ n → IsInOrder (us ++ t ∷ []) → AreAtMost n (us ++ t ∷ [])
at_most n [] t l h = (l, tt)
at_most n (u ∷ us) t l h = (
  below u.entry.stamp t.entry.stamp n (is_before_cases u t (leads_one u us t [] (leads_all u (us ++ t ∷ []) h))) l,
  at_most n us t l (rest_order u (us ++ t ∷ []) h),
)
  where
    below : (x y z : ℕ) {k m : ℕ} → (x < y) ⊎ ((x ≡ y) × (k < m)) → y ≤ z → x ≤ z
    below x y z (inl h) l = omega (arith, h, l)
    below x y z (inr h) l = omega (arith, h.0, l)

elsewhere : (s : Step) (ts : List Step) → LeadsAll s ts → AreAtMost s.entry.stamp ts → AreElsewhere s.node ts
elsewhere s [] h k = tt
elsewhere s (t ∷ ts) h k = (other (is_before_cases s t h.0) k.0, elsewhere s ts h.1 k.1)
  where
    other : (s.entry.stamp < t.entry.stamp) ⊎ ((s.entry.stamp ≡ t.entry.stamp) × (s.node < t.node))
        → t.entry.stamp ≤ s.entry.stamp → t.node ≡ s.node → ⊥
    other (inl h) l e = omega (arith, h, l)
    other (inr h) l e = omega (arith, h.1, e)

pub all_elsewhere : (s : Step) (us : List Step) (t : Step) → IsInOrder (s ∷ us ++ t ∷ []) → t.entry.stamp ≤ s.entry.stamp
    → AreElsewhere s.node (us ++ t ∷ [])
all_elsewhere s us t h l = elsewhere s (us ++ t ∷ []) (leads_all s (us ++ t ∷ []) h)
    (at_most s.entry.stamp us t l (rest_order s (us ++ t ∷ []) h))
