-- Nodes of a set, and all older ones of their names.
use Rattle.std.proofs.Common.{ℕ, Bool, true, false, ◌==◌, ◌≡◌, ◌≤◌, ◌+◌, ◌^◌, ◌<◌, ◌⊎◌, List, [], ◌∷◌, inl, inr, refl, sym, ap, ◌∙◌, arith}
use Rattle.std.specs.Prelude.{nat_le, not, ◌&&◌, ◌||◌}
use Rattle.std.specs.List.{All}
use Rattle.std.proofs.lemmas.Bool.{cases_eq, eq-eqb, ne_eqb, le-leb, lt-leb, eqb-true, leb-true, and_parts, and_from, or_cases, or_left, or_right, false≢true}
use Rattle.std.proofs.lemmas.List.Elements.{All-head, All-tail}
use Rattle.term.specs.Nodes.{IsFirst, name_of}
use Rattle.term.specs.NodeSets.{set_of, with_older, succeeded}

-- a node that is the older one or the same has it among its older ones
pub younger : (m c : ℕ) → name_of m ≡ name_of c → c ≤ m → ((name_of m == name_of c) && nat_le c m) ≡ true
younger m c e l = rw (eq-eqb _ _ e, le-leb _ _ l) refl

-- a node is reached where a younger one of its name is in the set
pub reaching : (xs : List ℕ) (m c : ℕ) → set_of xs m ≡ true → name_of m ≡ name_of c → c ≤ m → with_older xs c ≡ true
reaching [] m c h e l = absurd (false≢true h)
reaching (x ∷ xs) m c h e l = elim (or_cases (x == m) (set_of xs m) h) [
  | inl here ↦ let same : x ≡ m = eqb-true x m here in
      rw same (or_left _ _ (younger m c e l))
  | inr behind ↦ or_right _ _ (reaching xs m c behind e l)
]

-- where a node is reached, one of its name stands in the set that is no older
pub reached : (xs : List ℕ) (c : ℕ) → with_older xs c ≡ true
    → (m : ℕ) × (set_of xs m ≡ true) × (name_of m ≡ name_of c) × (c ≤ m)
reached [] c h = absurd (false≢true h)
reached (x ∷ xs) c h = elim (or_cases ((name_of x == name_of c) && nat_le c x) (with_older xs c) h) [
  | inl here ↦ let parts = and_parts (name_of x == name_of c) (nat_le c x) here in
      (x, or_left _ _ (eq-eqb x x refl), eqb-true _ _ parts.0, leb-true c x parts.1)
  | inr behind ↦ let r = reached xs c behind in (r.0, or_right _ _ r.1, r.2, r.3)
]

-- a set reaches the nodes that it holds
pub held : (xs : List ℕ) (c : ℕ) → set_of xs c ≡ true → with_older xs c ≡ true
held xs c h = reaching xs c c h refl (omega arith)

-- with a node a set reaches the older ones of its name
pub closed : (xs : List ℕ) (c d : ℕ) → with_older xs d ≡ true → name_of c ≡ name_of d → c ≤ d → with_older xs c ≡ true
closed xs c d h e l = let r = reached xs d h in reaching xs r.0 c r.1 (r.2 ∙ sym e) (omega (arith, r.3))

-- a first node has no older one
alone : (m c : ℕ) → IsFirst m → ((name_of m == name_of c) && nat_le c m) ≡ (m == c)
alone m c first = elim (cases_eq m c) [
  | inl same ↦ younger m c (ap name_of same) (omega (arith, same)) ∙ sym (eq-eqb m c same)
  | inr other ↦ elim (cases_eq (name_of m) (name_of c)) [
    | inl named ↦ rw (eq-eqb _ _ named, ne_eqb m c other) (lt-leb c m (omega (arith, first, named, other)))
    | inr unlike ↦ rw (ne_eqb _ _ unlike, ne_eqb m c other) refl
  ]
]

-- a set of first nodes reaches no more than it holds
pub first_alone : (xs : List ℕ) → All IsFirst xs → (c : ℕ) → with_older xs c ≡ set_of xs c
first_alone [] first c = refl
first_alone (x ∷ xs) first c =
    ap (λ (b : Bool). b || with_older xs c) (alone x c (All-head IsFirst x xs first))
    ∙ ap (λ (b : Bool). (x == c) || b) (first_alone xs (All-tail IsFirst x xs first) c)

-- where a node stands for another, the set holds the others, and that node if the other was there
pub succeeded_is : (xs : List ℕ) (a b c : ℕ) → set_of (succeeded a b xs) c
    ≡ ((set_of xs c && not (c == a)) || (set_of xs a && (b == c)))
succeeded_is [] a b c = refl
succeeded_is (x ∷ xs) a b c = elim (cases_eq x a) [
  | inl same ↦ rw (same, eq-eqb a a refl, succeeded_is xs a b c) (elim (cases_eq a c) [
    | inl old ↦ rw (eq-eqb a c old, eq-eqb c a (sym old)) (replaced (set_of xs c) (set_of xs a) (b == c))
    | inr ne ↦ rw (ne_eqb a c ne, ne_eqb c a (λ e. ne (sym e))) (one_more (set_of xs c) (set_of xs a) (b == c))
  ])
  | inr other ↦ rw (ne_eqb x a other, succeeded_is xs a b c) (elim (cases_eq x c) [
    | inl here ↦ rw (eq-eqb x c here, ne_eqb c a (λ e. other (here ∙ e))) refl
    | inr ne ↦ rw (ne_eqb x c ne) refl
  ])
]
  where
    replaced : (s t e : Bool) → (e || ((s && false) || (t && e))) ≡ ((false) || e)
    replaced s t true = refl
    replaced true true false = refl
    replaced true false false = refl
    replaced false true false = refl
    replaced false false false = refl

    one_more : (s t e : Bool) → (e || ((s && true) || (t && e))) ≡ ((s && true) || e)
    one_more true t true = refl
    one_more false t true = refl
    one_more true t false = refl
    one_more false true false = refl
    one_more false false false = refl

-- what a set reaches it still reaches where a younger node stands for an older one of its name
pub succeeded_keeps : (xs : List ℕ) (a b c : ℕ) → name_of b ≡ name_of a → a ≤ b → with_older xs c ≡ true
    → with_older (succeeded a b xs) c ≡ true
succeeded_keeps xs a b c e l h = by (cases_eq r.0 a)
  where
    r : (m : ℕ) × (set_of xs m ≡ true) × (name_of m ≡ name_of c) × (c ≤ m)
    r = reached xs c h

    by : (r.0 ≡ a) ⊎ (r.0 ≡ a → ⊥) → with_older (succeeded a b xs) c ≡ true
    by (inl old) = reaching (succeeded a b xs) b c there (e ∙ ap name_of (sym old) ∙ r.2) (omega (arith, r.3, old, l))
      where
        there : set_of (succeeded a b xs) b ≡ true
        there =
            succeeded_is xs a b b
            ∙ or_right (set_of xs b && not (b == a)) (set_of xs a && (b == b))
            (and_from (set_of xs a) (b == b) (ap (set_of xs) (sym old) ∙ r.1) (eq-eqb b b refl))
    by (inr other) = reaching (succeeded a b xs) r.0 c there r.2 r.3
      where
        there : set_of (succeeded a b xs) r.0 ≡ true
        there =
            succeeded_is xs a b r.0
            ∙ or_left (set_of xs r.0 && not (r.0 == a)) (set_of xs a && (b == r.0))
            (and_from (set_of xs r.0) (not (r.0 == a)) r.1 (ap not (ne_eqb r.0 a other)))

-- less than 2 ^ 32 nodes of its name are before a node
pub below_name : (c : ℕ) → c < name_of c + 2 ^ 32
below_name c = omega arith
