-- Numbers of nodes: the name and the creation in a number, and the nodes of a name.
use Rattle.std.proofs.Common.{◌≡◌, ℕ, zero, suc, ◌+◌, ◌-◌, ◌^◌, ◌<◌, ◌≤◌, ◌==◌, ◌&&◌, ◌||◌, ◌⊎◌, inl, inr, List, [], ◌∷◌, Bool, true, false, arith, sym, ◌∙◌, ap, refl}
use Rattle.std.proofs.lemmas.Bool.{cases_lt, cases_eq, eq-eqb, ne_eqb}
use Rattle.std.proofs.lemmas.Cmp.{ranked}
use Rattle.std.specs.Cmp.{nat_cmp_is}
use Rattle.std.specs.declared.cmp.Ordering.{Ordering}
use Rattle.std.specs.declared.cmp.Ordering.TheVariants.{Less, Equal, Greater}
use Rattle.std.specs.List.{list_any, range_with_len}
use Rattle.std.specs.Ordering.{nat_cmp, ordering_then}
use Rattle.term.specs.Nodes.{first_node, text_in, name_of, creation_of, IsFirst, nodes_of}
use Rattle.term.specs.NodeSets.{set_of, names_in}

-- a number is its name and its creation
pub of_both : (n : ℕ) → n ≡ name_of n + (creation_of n - 1)
of_both n = omega arith

-- the text, the name and the creation of a number that is made of them
pub text_in-packed : (t c : ℕ) → c < 2 ^ 32 → text_in (first_node t + c) ≡ t
text_in-packed t c h = omega arith

pub name_of-packed : (t c : ℕ) → c < 2 ^ 32 → name_of (first_node t + c) ≡ first_node t
name_of-packed t c h = omega arith

pub creation_of-packed : (t c : ℕ) → c < 2 ^ 32 → creation_of (first_node t + c) ≡ c + 1
creation_of-packed t c h = omega arith

-- the same of a name and what a creation adds to it
pub text_in-both : (v c : ℕ) → IsFirst v → c < 2 ^ 32 → text_in (v + c) ≡ text_in v
text_in-both v c first h = omega (arith, first)

pub name_of-both : (v c : ℕ) → IsFirst v → c < 2 ^ 32 → name_of (v + c) ≡ v
name_of-both v c first h = omega (arith, first)

pub creation_of-both : (v c : ℕ) → IsFirst v → 1 ≤ c → c < 2 ^ 32 → creation_of (v + (c - 1)) ≡ c
creation_of-both v c first low h = omega (arith, first)

pub text_in-first_node : (t : ℕ) → text_in (first_node t) ≡ t
text_in-first_node t = omega arith

pub IsFirst-first_node : (t : ℕ) → IsFirst (first_node t)
IsFirst-first_node t = omega arith

-- the name of the first node of a name is this name, and each name is a first node
pub name_of-first : (n : ℕ) → IsFirst n → name_of n ≡ n
name_of-first n h = omega (arith, h)

pub IsFirst-name_of : (n : ℕ) → IsFirst (name_of n)
IsFirst-name_of n = omega arith

-- names rise as nodes do
pub name_of-rises : (m n : ℕ) → m ≤ n → name_of m ≤ name_of n
name_of-rises m n h = omega arith

-- first nodes are one where their texts are, and ordered as these are
pub first_node-injective : (s t : ℕ) → first_node s ≡ first_node t → s ≡ t
first_node-injective s t e = omega (arith, e)

pub first_node-eq : (s t : ℕ) → (first_node s == first_node t) ≡ (s == t)
first_node-eq s t = elim (cases_eq s t) [
  | inl same ↦ eq-eqb _ _ (ap first_node same) ∙ sym (eq-eqb s t same)
  | inr other ↦ ne_eqb _ _ (λ e. other (first_node-injective s t e)) ∙ sym (ne_eqb s t other)
]

pub nat_cmp-first_node : (s t : ℕ) → nat_cmp (first_node s) (first_node t) ≡ nat_cmp s t
nat_cmp-first_node s t = sym (by (nat_cmp s t) refl)
  where
    by : (r : Ordering) → r ≡ nat_cmp s t → r ≡ nat_cmp (first_node s) (first_node t)
    by Less e = let h : s < t = ranked s t Less e in nat_cmp_is (first_node s) (first_node t) Less (omega arith)
    by Equal e = let h : s ≡ t = ranked s t Equal e in nat_cmp_is (first_node s) (first_node t) Equal (omega arith)
    by Greater e = let h : t < s = ranked s t Greater e in nat_cmp_is (first_node s) (first_node t) Greater (omega arith)

-- nodes are one where their names and creations are, and ordered by the first of these in which they differ
pub both-eq : (v w c d : ℕ) → IsFirst v → IsFirst w → c < 2 ^ 32 → d < 2 ^ 32 → (v + c == w + d) ≡ ((v == w) && (c == d))
both-eq v w c d v_first w_first c_fits d_fits = elim (cases_eq v w) [
  | inr other ↦ rw (ne_eqb v w other) (ne_eqb _ _ (λ e. other (omega (arith, e, v_first, w_first, c_fits, d_fits))))
  | inl same ↦ rw (eq-eqb v w same) (elim (cases_eq c d) [
    | inl like ↦ eq-eqb _ _ (omega (arith, same, like)) ∙ sym (eq-eqb c d like)
    | inr unlike ↦ ne_eqb _ _ (λ e. unlike (omega (arith, e, same))) ∙ sym (ne_eqb c d unlike)
  ])
]

pub nat_cmp-both : (v w c d : ℕ) → IsFirst v → IsFirst w → c < 2 ^ 32 → d < 2 ^ 32
    → nat_cmp (v + c) (w + d) ≡ ordering_then (nat_cmp v w) (nat_cmp c d)
nat_cmp-both v w c d v_first w_first c_fits d_fits = sym (by (nat_cmp v w) refl)
  where
    within : (r : Ordering) → v ≡ w → r ≡ nat_cmp c d → r ≡ nat_cmp (v + c) (w + d)
    within Less same e = let h : c < d = ranked c d Less e in nat_cmp_is (v + c) (w + d) Less (omega (arith, same))
    within Equal same e = let h : c ≡ d = ranked c d Equal e in nat_cmp_is (v + c) (w + d) Equal (omega (arith, same))
    within Greater same e =
        let h : d < c = ranked c d Greater e in nat_cmp_is (v + c) (w + d) Greater (omega (arith, same))

    by : (r : Ordering) → r ≡ nat_cmp v w → ordering_then r (nat_cmp c d) ≡ nat_cmp (v + c) (w + d)
    by Less e =
        let h : v < w = ranked v w Less e in
        nat_cmp_is (v + c) (w + d) Less (omega (arith, v_first, w_first, c_fits, d_fits))
    by Equal e = within (nat_cmp c d) (ranked v w Equal e) refl
    by Greater e =
        let h : w < v = ranked v w Greater e in
        nat_cmp_is (v + c) (w + d) Greater (omega (arith, v_first, w_first, c_fits, d_fits))

-- the same with creations as they are counted
less_one : (c d : ℕ) → 1 ≤ c → 1 ≤ d → nat_cmp (c - 1) (d - 1) ≡ nat_cmp c d
less_one c d c_low d_low = by (nat_cmp c d) refl
  where
    by : (r : Ordering) → r ≡ nat_cmp c d → nat_cmp (c - 1) (d - 1) ≡ nat_cmp c d
    by Less e = let h : c < d = ranked c d Less e in sym (nat_cmp_is (c - 1) (d - 1) Less (omega arith)) ∙ e
    by Equal e = let h : c ≡ d = ranked c d Equal e in sym (nat_cmp_is (c - 1) (d - 1) Equal (omega arith)) ∙ e
    by Greater e = let h : d < c = ranked c d Greater e in sym (nat_cmp_is (c - 1) (d - 1) Greater (omega arith)) ∙ e

pub nat_cmp-given : (v w c d : ℕ) → IsFirst v → IsFirst w → 1 ≤ c → 1 ≤ d → c ≤ 2 ^ 32 → d ≤ 2 ^ 32
    → nat_cmp (v + (c - 1)) (w + (d - 1)) ≡ ordering_then (nat_cmp v w) (nat_cmp c d)
nat_cmp-given v w c d v_first w_first c_low d_low c_fits d_fits =
    nat_cmp-both v w (c - 1) (d - 1) v_first w_first (omega arith) (omega arith)
    ∙ ap (ordering_then (nat_cmp v w)) (less_one c d c_low d_low)

-- nodes are ordered by name, and then by creation
pub nat_cmp-nodes : (m n : ℕ) → nat_cmp m n
    ≡ ordering_then (nat_cmp (name_of m) (name_of n)) (nat_cmp (creation_of m) (creation_of n))
nat_cmp-nodes m n =
    ap (λ (k : ℕ). nat_cmp k n) (of_both m) ∙ ap (nat_cmp (name_of m + (creation_of m - 1))) (of_both n)
    ∙ nat_cmp-given (name_of m) (name_of n) (creation_of m) (creation_of n) (IsFirst-name_of m) (IsFirst-name_of n)
    (omega arith) (omega arith) (omega arith) (omega arith)

-- a number is one of a range
in_range : (n a c : ℕ) → a ≤ c → c < a + n → list_any (λ m. m == c) (range_with_len a n) ≡ true
in_range zero a c low high = absurd (omega arith)
in_range (suc n) a c low high = elim (cases_eq a c) [
  | inl same ↦ rw (eq-eqb a c same) refl
  | inr other ↦ rw (ne_eqb a c other) (in_range n (a + 1) c (omega (arith, other)) (omega arith))
]

-- or none of it
out_of_range : (n a c : ℕ) → (c < a) ⊎ (a + n ≤ c) → list_any (λ m. m == c) (range_with_len a n) ≡ false
out_of_range zero a c off = refl
out_of_range (suc n) a c (inl below) =
    rw (ne_eqb a c (λ e. omega (arith, e, below))) (out_of_range n (a + 1) c (inl (omega arith)))
out_of_range (suc n) a c (inr above) =
    rw (ne_eqb a c (λ e. omega (arith, e, above))) (out_of_range n (a + 1) c (inr (omega arith)))

-- the numbers of one name are a range
named_in_range : (n x c : ℕ) → n ≡ 2 ^ 32 → IsFirst x → list_any (λ m. m == c) (range_with_len x n) ≡ (name_of c == x)
named_in_range n x c e first = elim (cases_eq (name_of c) x) [
  | inl same ↦ in_range n x c (omega (arith, same)) (omega (arith, same, e)) ∙ sym (eq-eqb (name_of c) x same)
  | inr other ↦ elim (cases_lt c x) [
    | inl below ↦ out_of_range n x c (inl below) ∙ sym (ne_eqb (name_of c) x other)
    | inr above ↦ out_of_range n x c (inr (omega (arith, first, other, above, e))) ∙ sym (ne_eqb (name_of c) x other)
  ]
]

-- a node is one of those of a name if it has this name
pub list_any-nodes_of : (x c : ℕ) → IsFirst x → list_any (λ m. m == c) (nodes_of x) ≡ (name_of c == x)
unfolding nodes_of
list_any-nodes_of x c first = named_in_range (2 ^ 32) x c refl first

-- a test of one or of the other passes where one of them does
list_any-or : (f g : ℕ → Bool) (ys : List ℕ) → list_any (λ n. f n || g n) ys ≡ (list_any f ys || list_any g ys)
list_any-or f g [] = refl
list_any-or f g (y ∷ ys) =
    ap (λ (b : Bool). (f y || g y) || b) (list_any-or f g ys) ∙ swapped (f y) (g y) (list_any f ys) (list_any g ys)
  where
    swapped : (a b c d : Bool) → ((a || b) || (c || d)) ≡ ((a || c) || (b || d))
    swapped true b c d = refl
    swapped false true true d = refl
    swapped false true false d = refl
    swapped false false c d = refl

-- no node passes the test that none does
list_any-never : (ys : List ℕ) → list_any (λ n. false) ys ≡ false
list_any-never [] = refl
list_any-never (y ∷ ys) = list_any-never ys

-- equality of numbers looks the same from both sides
pub eq-other_way : (m n : ℕ) → (m == n) ≡ (n == m)
eq-other_way m n = elim (cases_eq m n) [
  | inl same ↦ eq-eqb m n same ∙ sym (eq-eqb n m (sym same))
  | inr other ↦ ne_eqb m n other ∙ sym (ne_eqb n m (λ e. other (sym e)))
]

list_any-other_way : (m : ℕ) (ys : List ℕ) → list_any (λ n. m == n) ys ≡ list_any (λ n. n == m) ys
list_any-other_way m [] = refl
list_any-other_way m (y ∷ ys) =
    ap (λ (b : Bool). b || list_any (λ n. m == n) ys) (eq-other_way m y)
    ∙ ap (λ (b : Bool). (y == m) || b) (list_any-other_way m ys)

-- of a set one is a node of a name if one of it has this name
pub list_any-set_of : (nodes : List ℕ) (x : ℕ) → IsFirst x → list_any (set_of nodes) (nodes_of x) ≡ names_in nodes x
list_any-set_of [] x first = list_any-never (nodes_of x)
list_any-set_of (m ∷ ms) x first =
    list_any-or (λ n. m == n) (set_of ms) (nodes_of x)
    ∙ ap (λ (b : Bool). b || list_any (set_of ms) (nodes_of x))
    (list_any-other_way m (nodes_of x) ∙ list_any-nodes_of x m first)
    ∙ ap (λ (b : Bool). (name_of m == x) || b) (list_any-set_of ms x first)
