-- Who has left, where the last ones of their names are given: those that these reach, each once, and as many as their creations say.
use Rattle.std.proofs.Common.{ℕ, zero, suc, true, ◌≡◌, ◌==◌, ◌<◌, ◌≤◌, ◌+◌, ◌*◌, ◌/◌, ◌%◌, ◌^◌, inl, inr, List, [], ◌∷◌, length, refl, sym, ap, ◌∙◌, arith, length-append}
use Rattle.std.specs.Prelude.{Contains, ◌↔◌, ◌&&◌, nat_le}
use Rattle.std.specs.List.{sum_by}
use Rattle.std.specs.List.Sorted.{IsStrictlyIncreasing}
use Rattle.std.proofs.lemmas.Bool.{and_parts, cases_eq, eq-eqb, eqb-true, leb-true, or_cases, or_left, or_right}
use Rattle.std.proofs.lemmas.List.Elements.{Contains-append_left, Contains-append_right, Contains-append_cases}
use Rattle.std.proofs.lemmas.List.Sums.{sum_by-cons}
use Rattle.registry_model.proofs.Lists.{Contains-nil}
use Rattle.protocol_model.specs.Event.{last_u32}
use Rattle.creations.specs.NodeNames.{NamedOpening, span, first_nodes, name_of as name_in, creation_of as creation_in}
use Rattle.creations.proofs.Lists.{Rise, rise-append, distinct_of}
use Rattle.creations.proofs.StartedLists.{in_first, first_has, first_rises}
use Rattle.creations.proofs.Telling.{AreDistinct}
use Rattle.term.specs.Nodes.{text_in, name_of, creation_of}
use Rattle.term.specs.NodeSets.{set_of, with_older}
use Rattle.term.proofs.NodeLists.{rising-tail}
use Rattle.term.proofs.Older.{younger, reached as started_by}
use Rattle.wire_end.specs.Returning.{AreLastOnes, all_left, count_left}

-- a lesser node of another name has a lesser name
lesser_text : (c d : ℕ) → c < d → (name_of c ≡ name_of d → ⊥) → text_in c < text_in d
lesser_text c d l apart = elim (cases_eq (text_in c) (text_in d)) [
  | inl same ↦ absurd (apart (ap (λ (x : ℕ). x * 2 ^ 32) same))
  | inr other ↦ omega (arith, l, other)
]

-- rising nodes behind one are above it
above_first : (x : ℕ) (xs : List ℕ) → IsStrictlyIncreasing (x ∷ xs) → (y : ℕ) → set_of xs y ≡ true → x < y
above_first x [] rise y e = cc e
above_first x (z ∷ zs) rise y e =
    let next : x < z = rise 0 (omega arith) in
    elim (or_cases (z == y) (set_of zs y) e) [
      | inl same ↦ omega (arith, next, eqb-true z y same)
      | inr more ↦ omega (arith, next, above_first z zs (rising-tail x (z ∷ zs) rise) y more)
    ]

module _ (o : NamedOpening) (numbers : o.last ≡ last_u32) where
  span_is : span o ≡ 2 ^ 32
  span_is = ap (λ (n : ℕ). n + 1) numbers

  text_is : (n : ℕ) → name_in o n ≡ text_in n
  text_is n = ap (λ (k : ℕ). n / k) span_is

  creation_is : (n : ℕ) → creation_in o n ≡ creation_of n
  creation_is n = ap (λ (k : ℕ). n % k + 1) span_is

  enough : (n : ℕ) → creation_of n ≤ span o
  enough n = omega (arith, span_is)

  -- the nodes of a name up to one of them are those that it reaches
  listed : (x d : ℕ) → Contains (first_nodes o (text_in x) (creation_of x)) d → ((name_of x == name_of d) && nat_le d x) ≡ true
  listed x d i =
      let m = in_first o (text_in x) (creation_of x) d (enough x) i in
      let text : text_in d ≡ text_in x = sym (text_is d) ∙ m.0 in
      younger x d (ap (λ (t : ℕ). t * 2 ^ 32) (sym text)) (omega (arith, text, m.1, creation_is d))

  reached : (x d : ℕ) → ((name_of x == name_of d) && nat_le d x) ≡ true → Contains (first_nodes o (text_in x) (creation_of x)) d
  reached x d h =
      let parts = and_parts (name_of x == name_of d) (nat_le d x) h in
      let named : name_of x ≡ name_of d = eqb-true _ _ parts.0 in
      let less : d ≤ x = leb-true d x parts.1 in
      first_has o (text_in x) (creation_of x) d (text_is d ∙ omega (arith, named)) (omega (arith, creation_is d, named, less))

  pub all_listed : (left : List ℕ) (d : ℕ) → Contains (all_left o left) d ↔ (with_older left d ≡ true)
  all_listed [] d = ((λ i. absurd (Contains-nil d i)), λ e. cc e)
  all_listed (x ∷ xs) d = (
    (λ i. elim (Contains-append_cases (first_nodes o (text_in x) (creation_of x)) (all_left o xs) d i) [
      | inl here ↦ or_left ((name_of x == name_of d) && nat_le d x) (with_older xs d) (listed x d here)
      | inr more ↦ or_right ((name_of x == name_of d) && nat_le d x) (with_older xs d) ((all_listed xs d).0 more)
    ]),
    λ e. elim (or_cases ((name_of x == name_of d) && nat_le d x) (with_older xs d) e) [
      | inl here ↦ Contains-append_left (first_nodes o (text_in x) (creation_of x)) (all_left o xs) d (reached x d here)
      | inr more ↦ Contains-append_right (first_nodes o (text_in x) (creation_of x)) (all_left o xs) d ((all_listed xs d).1 more)
    ],
  )

  count_first : (x k : ℕ) → length (first_nodes o x k) ≡ k
  count_first x zero = refl
  count_first x (suc k) = length-append (first_nodes o x k) (_ ∷ []) ∙ omega (arith, count_first x k)

  pub all_counted : (left : List ℕ) → length (all_left o left) ≡ count_left left
  all_counted [] = refl
  all_counted (x ∷ xs) =
      let sum : length (first_nodes o (text_in x) (creation_of x)) + length (all_left o xs) ≡ creation_of x + sum_by creation_of xs =
      omega (arith, count_first (text_in x) (creation_of x), all_counted xs) in
      length-append (first_nodes o (text_in x) (creation_of x)) (all_left o xs) ∙ (sum ∙ sym (sum_by-cons creation_of x xs))

  -- the names of these are above this one's
  abbrev pub AreAbove : ℕ → List ℕ → Type 0
  AreAbove x xs = (y : ℕ) → set_of xs y ≡ true → text_in x < text_in y

  abbrev pub Ascend : List ℕ → Type 0
  Ascend [] = Unit {0}
  Ascend (x ∷ xs) = AreAbove x xs × Ascend xs

  rise_all : (left : List ℕ) → Ascend left → Rise (all_left o left)
  rise_all [] up = tt
  rise_all (x ∷ xs) up =
      rise-append (first_nodes o (text_in x) (creation_of x)) (all_left o xs) (first_rises o (text_in x) (creation_of x) (enough x))
      (rise_all xs up.1)
      (λ c d i j.
      let here = in_first o (text_in x) (creation_of x) c (enough x) i in
      let there = started_by xs d ((all_listed xs d).0 j) in
      let less = up.0 there.0 there.1 in
      omega (arith, text_is c, here.0, less, there.2))

  pub ascend : (left : List ℕ) → AreLastOnes left → Ascend left
  ascend [] are = tt
  ascend (x ∷ xs) are = (
    λ y e.
        let less = above_first x xs are.set.rising y e in
        lesser_text x y less (λ same. absurd (omega (
          arith,
          less,
          are.one x y (or_left (x == x) (set_of xs x) (eq-eqb x x refl)) (or_right (x == y) (set_of xs y) e) same,
        ))),
    ascend xs (record {
      set = record { rising = rising-tail x xs are.set.rising; fits = omega (arith, are.set.fits) };
      one = λ a b here there same. are.one a b (or_right (x == a) (set_of xs a) here) (or_right (x == b) (set_of xs b) there) same;
    }),
  )

module _ (o : NamedOpening) (numbers : o.last ≡ last_u32) (left : List ℕ) (are : AreLastOnes left) where
  pub left_listed : (d : ℕ) → Contains (all_left o left) d ↔ (with_older left d ≡ true)
  left_listed d = all_listed o numbers left d

  pub left_distinct : AreDistinct (all_left o left)
  left_distinct = distinct_of (all_left o left) (rise_all o numbers left (ascend o numbers left are))

  pub left_counted : length (all_left o left) ≡ count_left left
  left_counted = all_counted o numbers left
