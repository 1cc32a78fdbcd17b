-- A step that is put among steps in order.
use Rattle.std.proofs.Common.{ℕ, suc, true, false, ◌==◌, ◌≡◌, ◌<◌, inl, inr, List, [], ◌∷◌, map, filter, length, refl, sym, ap, subst, ◌∙◌, arith}
use Rattle.std.proofs.lemmas.Bool.{eqb-true, eqb-false, cases_eq, cond_both}
use Rattle.std.proofs.lemmas.Bool.Decides.{nat_tests}
use Rattle.std.specs.Prelude.{if◌then◌else◌, ◌||◌, ◌&&◌, nat_lt}
use Rattle.closings.specs.Alone.{LogEntry}
use Rattle.closings.specs.Merging.{Step, steps_of, is_before, IsInOrder}

-- these steps, with one more in front of the first that it is before
abbrev pub insert : Step → List Step → List Step
insert s [] = s ∷ []
insert s (t ∷ ts) = if is_before s t then s ∷ t ∷ ts else t ∷ insert s ts

-- what holds of these steps with the one in front, and with it further behind, where that is where it is put
by_place : (P : List Step → Type 0) (s t : Step) (ts : List Step) → (is_before s t ≡ true → P (s ∷ t ∷ ts))
    → (is_before s t ≡ false → P (t ∷ insert s ts)) → P (insert s (t ∷ ts))
by_place P s t ts front behind = cond_both (is_before s t) (s ∷ t ∷ ts) (t ∷ insert s ts) P front behind

-- the step leads its node's: those of these steps that are of its node have greater stamps
abbrev pub Leads : Step → List Step → Type 0
Leads s [] = Unit {0}
Leads s (t ∷ ts) = (t.node ≡ s.node → s.entry.stamp < t.entry.stamp) × Leads s ts

-- the step is before the first of these, if there is one
abbrev pub IsBeforeFirst : Step → List Step → Type 0
IsBeforeFirst s [] = Unit {0}
IsBeforeFirst s (t ∷ ts) = is_before s t ≡ true

-- a step in front of steps in order, and what it says of them
in_front : (s : Step) (ts : List Step) → IsBeforeFirst s ts → IsInOrder ts → IsInOrder (s ∷ ts)
in_front s [] b h = tt
in_front s (t ∷ ts) b h = (b, h)

before_first : (s : Step) (ts : List Step) → IsInOrder (s ∷ ts) → IsBeforeFirst s ts
before_first s [] h = tt
before_first s (t ∷ ts) h = h.0

behind_first : (s : Step) (ts : List Step) → IsInOrder (s ∷ ts) → IsInOrder ts
behind_first s [] h = tt
behind_first s (t ∷ ts) h = h.1

-- of two steps one is before the other, unless they have one stamp and one node: x, m and y, n are their stamps and nodes
other_way : (x y m n : ℕ) → (n ≡ m → x < y) → (nat_lt x y || ((x == y) && nat_lt m n)) ≡ false
    → (nat_lt y x || ((y == x) && nat_lt n m)) ≡ true
other_way x y m n l h = grind (arith, nat_tests)

-- and of two steps of one node the lesser stamp is before the other
goes_first : (x y m n : ℕ) → (n ≡ m → x < y) → (nat_lt x y || ((x == y) && nat_lt m n)) ≡ false → n ≡ m → ⊥
goes_first x y m n l h e = grind (arith, nat_tests)

-- what is before one more step, and before the first of the others, is before the first of all of them
still_first : (r s : Step) (ts : List Step) → is_before r s ≡ true → IsBeforeFirst r ts → IsBeforeFirst r (insert s ts)
still_first r s [] b h = b
still_first r s (t ∷ ts) b h = by_place (IsBeforeFirst r) s t ts (λ _. b) (λ _. h)

-- with one more step, which leads its node's, they are in order, too
pub in_order : (s : Step) (ts : List Step) → Leads s ts → IsInOrder ts → IsInOrder (insert s ts)
in_order s [] l h = tt
in_order s (t ∷ ts) l h = by_place IsInOrder s t ts (λ e. (e, h)) (λ e. in_front t (insert s ts)
    (still_first t s ts (other_way s.entry.stamp t.entry.stamp s.node t.node l.0 e) (before_first t ts h))
    (in_order s ts l.1 (behind_first t ts h)))

-- there is one more
pub one_more : (s : Step) (ts : List Step) → length (insert s ts) ≡ suc (length ts)
one_more s [] = refl
one_more s (t ∷ ts) = by_place (λ us. length us ≡ suc (suc (length ts))) s t ts (λ _. refl) (λ _. ap suc (one_more s ts))

-- what holds of a node's entries where the first of these steps is its own, and where it isn't
by_owner : (P : List LogEntry → Type 0) (a : ℕ) (s : Step) (ss : List Step) → (s.node ≡ a → P (s.entry ∷ steps_of a ss))
    → ((s.node ≡ a → ⊥) → P (steps_of a ss)) → P (steps_of a (s ∷ ss))
by_owner P a s ss own other =
    let others : List Step = filter (λ (t : Step). t.node == a) ss in
    cond_both (s.node == a) (s ∷ others) others (λ us. P (map (λ (t : Step). t.entry) us))
    (λ e. own (eqb-true s.node a e)) (λ e. other (eqb-false s.node a e))

own_step : (a : ℕ) (s : Step) (ss : List Step) → s.node ≡ a → steps_of a (s ∷ ss) ≡ s.entry ∷ steps_of a ss
own_step a s ss e = by_owner (λ es. es ≡ s.entry ∷ steps_of a ss) a s ss (λ _. refl) (λ ne. absurd (ne e))

other_step : (a : ℕ) (s : Step) (ss : List Step) → (s.node ≡ a → ⊥) → steps_of a (s ∷ ss) ≡ steps_of a ss
other_step a s ss ne = by_owner (λ es. es ≡ steps_of a ss) a s ss (λ e. absurd (ne e)) (λ _. refl)

-- its node has it first of all
pub own_first : (s : Step) (ts : List Step) → Leads s ts → steps_of s.node (insert s ts) ≡ s.entry ∷ steps_of s.node ts
own_first s [] l = own_step s.node s [] refl
own_first s (t ∷ ts) l = by_place (λ us. steps_of s.node us ≡ s.entry ∷ steps_of s.node (t ∷ ts)) s t ts
    (λ _. own_step s.node s (t ∷ ts) refl)
    (λ e. further (goes_first s.entry.stamp t.entry.stamp s.node t.node l.0 e) (own_first s ts l.1))
  where
    further : (t.node ≡ s.node → ⊥) → steps_of s.node (insert s ts) ≡ s.entry ∷ steps_of s.node ts
        → steps_of s.node (t ∷ insert s ts) ≡ s.entry ∷ steps_of s.node (t ∷ ts)
    further ne e = other_step s.node t (insert s ts) ne ∙ e
        ∙ ap (λ (es : List LogEntry). s.entry ∷ es) (sym (other_step s.node t ts ne))

-- a node has the same behind one step where it has the same of the others
behind_one : (a : ℕ) (t : Step) (ss ts : List Step) → steps_of a ss ≡ steps_of a ts → steps_of a (t ∷ ss) ≡ steps_of a (t ∷ ts)
behind_one a t ss ts e = by_owner (λ es. es ≡ steps_of a (t ∷ ts)) a t ss
    (λ is. ap (λ (es : List LogEntry). t.entry ∷ es) e ∙ sym (own_step a t ts is))
    (λ ne. e ∙ sym (other_step a t ts ne))

-- the other nodes have what they had
pub others_same : (a : ℕ) (s : Step) (ts : List Step) → (s.node ≡ a → ⊥) → steps_of a (insert s ts) ≡ steps_of a ts
others_same a s [] ne = other_step a s [] ne
others_same a s (t ∷ ts) ne = by_place (λ us. steps_of a us ≡ steps_of a (t ∷ ts)) s t ts
    (λ _. other_step a s (t ∷ ts) ne) (λ _. behind_one a t (insert s ts) ts (others_same a s ts ne))

-- all of these entries have stamps above this one
abbrev pub AreAbove : ℕ → List LogEntry → Type 0
AreAbove n [] = Unit {0}
AreAbove n (e ∷ es) = (n < e.stamp) × AreAbove n es

-- a step leads where its node's entries have stamps above its own
pub leads : (s : Step) (ts : List Step) → AreAbove s.entry.stamp (steps_of s.node ts) → Leads s ts
leads s [] h = tt
leads s (t ∷ ts) h = elim (cases_eq t.node s.node) [
  | inl e ↦
      let above : AreAbove s.entry.stamp (t.entry ∷ steps_of s.node ts) = subst (AreAbove s.entry.stamp) (own_step s.node t ts e) h in
      ((λ _. above.0), leads s ts above.1)
  | inr ne ↦ ((λ e. absurd (ne e)), leads s ts (subst (AreAbove s.entry.stamp) (other_step s.node t ts ne) h))
]
