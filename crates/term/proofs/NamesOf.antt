-- The names of rising nodes, each once: they rise too, as nodes of one name stand together.
use Rattle.std.proofs.Common.{◌≡◌, ℕ, suc, ◌+◌, ◌<◌, ◌≤◌, ◌==◌, ◌||◌, inl, inr, List, [], ◌∷◌, ◌++◌, length, Bool, true, false, arith, subst, sym, ◌∙◌, ap, refl, get_or, take, length-append}
use Rattle.std.proofs.Math.Bool.{or-false}
use Rattle.std.proofs.Math.ListN.{get_or-append}
use Rattle.std.proofs.Math.Seq.{get_or-append_seam}
use Rattle.std.proofs.lemmas.Bool.{cases_lt, cases_eq, eq-eqb, ne_eqb, eqb-true}
use Rattle.std.proofs.lemmas.List.{take_all, get_or-take, get_or_default, length-take-le}
use Rattle.std.proofs.lemmas.List.Elements.{All-nil, All-push}
use Rattle.std.proofs.lemmas.List.Folds.{Any-from_list_any, list_any_at, list_any_more}
use Rattle.std.specs.List.{All}
use Rattle.std.specs.List.Sorted.{IsStrictlyIncreasing}
use Rattle.term.specs.Nodes.{IsFirst, name_of}
use Rattle.term.specs.NodeSets.{set_of, names_in}
use Rattle.term.proofs.ExactNodes.{rising-unique}
use Rattle.term.proofs.NodeSets.{never_falls}
use Rattle.term.proofs.Numbers.{IsFirst-name_of, name_of-first, name_of-rises}
use Rattle.term.proofs.Subsets.{set_of-append}

-- the names of the first i nodes, rising, and each the first node of it
pub record NamesOf (nodes : List ℕ) (i : ℕ) (names : List ℕ) : Type 0 where
  pub named : (x : ℕ) → set_of names x ≡ names_in (take i nodes) x
  pub rising : IsStrictlyIncreasing names
  pub fits : length names ≤ i
  pub first : All IsFirst names

-- at first there is none
pub names_of_none : (nodes names : List ℕ) → names ≡ [] → NamesOf nodes 0 names
names_of_none nodes names e = subst (NamesOf nodes 0) (sym e) (record {
  named = λ x. refl;
  rising = λ k h. absurd (omega arith);
  fits = omega arith;
  first = All-nil IsFirst;
})

-- a list rises with one more behind it that is above all
rising-push : (xs : List ℕ) (y : ℕ) → IsStrictlyIncreasing xs → ((k : ℕ) → k < length xs → get_or xs k 0 < y)
    → IsStrictlyIncreasing (xs ++ y ∷ [])
rising-push xs y up below k inside =
    let long = length-append xs (y ∷ []) in
    elim (cases_lt (k + 1) (length xs)) [
      | inl within ↦
          rw (get_or-append xs (y ∷ []) 0 k (omega arith), get_or-append xs (y ∷ []) 0 (k + 1) within) (up k (omega arith))
      | inr at_end ↦
          let last : k + 1 ≡ length xs = omega (arith, at_end, inside, long) in
          rw (get_or-append xs (y ∷ []) 0 k (omega (arith, last)), last, get_or-append_seam xs y [] 0)
          (below k (omega (arith, last)))
    ]

-- a name among those of the first i nodes is not above that of the next
not_above : (nodes names : List ℕ) (i k : ℕ) → IsStrictlyIncreasing nodes → i < length nodes → NamesOf nodes i names
    → k < length names → get_or names k 0 ≤ name_of (get_or nodes i 0)
not_above nodes names i k up inside so_far within =
    let x : ℕ = get_or names k 0 in
    let held : names_in (take i nodes) x ≡ true =
    sym (so_far.named x) ∙ list_any_at (λ m. m == x) names k 0 within (eq-eqb x x refl) in
    let found = Any-from_list_any (λ m. name_of m == x) (take i nodes) held in
    let long : length (take i nodes) ≡ i = length-take-le i nodes (omega (arith, inside)) in
    let before : found.0 < i = omega (arith, found.2, long) in
    let at : get_or nodes found.0 0 ≡ found.1 =
    sym (get_or-take i nodes found.0 0 before)
    ∙ (get_or_default (take i nodes) found.0 0 found.1 found.2 ∙ found.3) in
    let named : name_of found.1 ≡ x = eqb-true (name_of found.1) x found.4 in
    let below : get_or nodes found.0 0 ≤ get_or nodes i 0 =
    never_falls nodes up found.0 i (omega (arith, before)) inside in
    let order = name_of-rises (get_or nodes found.0 0) (get_or nodes i 0) below in
    omega (arith, order, ap name_of at, named)

-- the next node has a name that is there already
pub name_there : (nodes names : List ℕ) (i c : ℕ) → i < length nodes → c ≡ get_or nodes i c
    → set_of names (name_of c) ≡ true → NamesOf nodes i names → NamesOf nodes (i + 1) names
name_there nodes names i c inside is there so_far = record {
  named = λ x. so_far.named x ∙ (same x
      ∙ (ap (λ (d : ℕ). names_in (take i nodes) x || (name_of d == x)) is
      ∙ sym (list_any_more (λ m. name_of m == x) nodes i c inside)));
  rising = so_far.rising;
  fits = omega (arith, so_far.fits);
  first = so_far.first;
}
  where
    same : (x : ℕ) → names_in (take i nodes) x ≡ (names_in (take i nodes) x || (name_of c == x))
    same x = elim (cases_eq (name_of c) x) [
      | inl e ↦
          let held : names_in (take i nodes) x ≡ true =
          sym (so_far.named x) ∙ (ap (set_of names) (sym e) ∙ there) in
          held ∙ sym (ap (λ (b : Bool). b || (name_of c == x)) held)
      | inr ne ↦ rw (ne_eqb (name_of c) x ne) (sym (or-false (names_in (take i nodes) x)))
    ]

-- or another one, which is put behind
pub name_new : (nodes names : List ℕ) (i c : ℕ) → IsStrictlyIncreasing nodes → i < length nodes → c ≡ get_or nodes i c
    → set_of names (name_of c) ≡ false → NamesOf nodes i names → NamesOf nodes (i + 1) (names ++ name_of c ∷ [])
name_new nodes names i c up inside is other so_far = record {
  named = λ x. set_of-append names (name_of c ∷ []) x
      ∙ (ap (λ (b : Bool). set_of names x || b) (or-false (name_of c == x))
      ∙ (ap (λ (b : Bool). b || (name_of c == x)) (so_far.named x)
      ∙ (ap (λ (d : ℕ). names_in (take i nodes) x || (name_of d == x)) is
      ∙ sym (list_any_more (λ m. name_of m == x) nodes i c inside))));
  rising = rising-push names (name_of c) so_far.rising below;
  fits = omega (arith, so_far.fits, length-append names (name_of c ∷ []));
  first = All-push IsFirst names (name_of c) so_far.first (IsFirst-name_of c);
}
  where
    here : get_or nodes i 0 ≡ c
    here = get_or_default nodes i 0 c inside ∙ sym is

    below : (k : ℕ) → k < length names → get_or names k 0 < name_of c
    below k within =
        let high : get_or names k 0 ≤ name_of c =
        subst (λ (d : ℕ). get_or names k 0 ≤ name_of d) here (not_above nodes names i k up inside so_far within) in
        elim (cases_eq (get_or names k 0) (name_of c)) [
          | inl e ↦ absurd (cc (list_any_at (λ m. m == name_of c) names k 0 within (eq-eqb _ _ e), other))
          | inr ne ↦ omega (arith, high, ne)
        ]

-- at the end these are the names of all nodes
pub names_of_all : (nodes names : List ℕ) (i : ℕ) → length nodes ≤ i → NamesOf nodes i names
    → (x : ℕ) → set_of names x ≡ names_in nodes x
names_of_all nodes names i whole so_far x =
    so_far.named x ∙ ap (λ (ms : List ℕ). names_in ms x) (take_all i nodes whole)

-- the names of first nodes are these nodes
pub names_of_first : (nodes names : List ℕ) → IsStrictlyIncreasing nodes → IsStrictlyIncreasing names
    → ((x : ℕ) → set_of names x ≡ names_in nodes x) → All IsFirst nodes → names ≡ nodes
names_of_first nodes names up rise are first =
    rising-unique names nodes rise up (λ x. are x ∙ themselves nodes first x)
  where
    themselves : (ms : List ℕ) → All IsFirst ms → (x : ℕ) → names_in ms x ≡ set_of ms x
    themselves [] all x = refl
    themselves (m ∷ ms) all x =
        ap (λ (k : ℕ). (k == x) || names_in ms x) (name_of-first m (all 0 0 (omega arith)))
        ∙ ap (λ (b : Bool). (m == x) || b) (themselves ms (λ k d h. all (suc k) d (omega (arith, h))) x)
