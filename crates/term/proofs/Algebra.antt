-- What two sets have in common, what one has that another hasn't, and one node more, node by node.
use Rattle.std.proofs.Common.{ℕ, Bool, true, false, ◌==◌, ◌≡◌, ◌≤◌, ◌+◌, ◌<◌, Result, Ok, Err, List, [], ◌∷◌, length, get_or, take, refl, sym, ap, ◌∙◌, subst, inl, inr, arith, length-append}
use Rattle.std.specs.Prelude.{nat_lt, not, ◌&&◌, ◌||◌, MatchResult, OnOk}
use Rattle.std.specs.List.{filter}
use Rattle.std.proofs.Math.Path.{fun_ext}
use Rattle.std.proofs.Math.Bool.{or-false, or-true, and-true}
use Rattle.std.proofs.lemmas.Bool.{cases_order, cases_eq, eq-eqb, ne_eqb, lt-ltb, le-ltb}
use Rattle.registry_model.specs.Process.{Nodes, with_node}
use Rattle.term.specs.declared.faults.TextFault.{TextFault}
use Rattle.term.specs.NodeSets.{HasNoRoom, set_of, with_node as and_node, without_node}
use Rattle.term.specs.declared.limits.TheConstants.{MOST_NODES}
use Rattle.term.proofs.Subsets.{set_of-filter, set_of-take}

-- the nodes of a list that are among the others, where the first i were looked at
abbrev pub Looked : List ℕ → Nodes → ℕ → List ℕ → Type 0
Looked xs others i kept = (c : ℕ) → set_of kept c ≡ (set_of xs c && (not (set_of (take i xs) c) || others c))

-- the i-th is among the others, and stays
pub stays : (xs : List ℕ) (others : Nodes) (kept : List ℕ) (i x : ℕ) → i < length xs → x ≡ get_or xs i x → others x ≡ true
    → Looked xs others i kept → Looked xs others (i + 1) kept
stays xs others kept i x l e is looked c = elim (cases_eq x c) [
  | inl same ↦
      rw (looked c, set_of-take xs i x l e c, eq-eqb x c same, subst (λ (y : ℕ). others y ≡ true) same is)
      (both (set_of xs c) (set_of (take i xs) c))
  | inr ne ↦ rw (looked c, set_of-take xs i x l e c, ne_eqb x c ne, or-false (set_of (take i xs) c)) refl
]
  where
    both : (s t : Bool) → (s && (not t || true)) ≡ (s && (not (t || true) || true))
    both false t = refl
    both true true = refl
    both true false = refl

-- the i-th isn't among the others, and goes
pub goes : (xs : List ℕ) (others : Nodes) (kept : List ℕ) (i x : ℕ) → i < length xs → x ≡ get_or xs i x → others x ≡ false
    → Looked xs others i kept → Looked xs others (i + 1) (without_node kept x)
goes xs others kept i x l e isnt looked c =
    set_of-filter (λ m. not (m == x)) kept c ∙ elim (cases_eq x c) [
      | inl same ↦
          rw (
            looked c,
            set_of-take xs i x l e c,
            eq-eqb x c same,
            eq-eqb c x (sym same),
            subst (λ (y : ℕ). others y ≡ false) same isnt,
          )
          (neither (set_of xs c) (set_of (take i xs) c))
      | inr ne ↦
          rw (
            looked c,
            set_of-take xs i x l e c,
            ne_eqb x c ne,
            ne_eqb c x (λ q. ne (sym q)),
            or-false (set_of (take i xs) c),
          ) (and-true (set_of xs c && (not (set_of (take i xs) c) || others c)))
    ]
  where
    neither : (s t : Bool) → ((s && (not t || false)) && false) ≡ (s && (not (t || true) || false))
    neither false t = refl
    neither true true = refl
    neither true false = refl

-- rest has the nodes of a list, less the first i of those that have gone
abbrev pub Kept : List ℕ → List ℕ → ℕ → List ℕ → Type 0
Kept xs gone i rest = (c : ℕ) → set_of rest c ≡ (set_of xs c && not (set_of (take i gone) c))

-- the i-th has gone, too
pub goes_from_rest : (xs gone rest : List ℕ) (i x : ℕ) → i < length gone → x ≡ get_or gone i x → Kept xs gone i rest
    → Kept xs gone (i + 1) (without_node rest x)
goes_from_rest xs gone rest i x l e kept c =
    set_of-filter (λ m. not (m == x)) rest c ∙ elim (cases_eq x c) [
      | inl same ↦ rw (kept c, set_of-take gone i x l e c, eq-eqb x c same, eq-eqb c x (sym same))
          (neither (set_of xs c) (set_of (take i gone) c))
      | inr ne ↦ rw (
        kept c,
        set_of-take gone i x l e c,
        ne_eqb x c ne,
        ne_eqb c x (λ q. ne (sym q)),
        or-false (set_of (take i gone) c),
      ) (and-true (set_of xs c && not (set_of (take i gone) c)))
    ]
  where
    neither : (s t : Bool) → ((s && not t) && false) ≡ (s && not (t || true))
    neither false t = refl
    neither true true = refl
    neither true false = refl

-- all but those that are neither among these nor one more of them
pub with_within_is : (all nodes others less rest : List ℕ) (f : ℕ)
    → ((c : ℕ) → set_of others c ≡ (set_of all c && not (set_of nodes c))) → less ≡ without_node others f
    → ((c : ℕ) → set_of rest c ≡ (set_of all c && not (set_of less c)))
    → (c : ℕ) → set_of rest c ≡ (set_of all c && (set_of nodes c || (c == f)))
with_within_is all nodes others less rest f are is last c =
    last c ∙ ap (λ (b : Bool). set_of all c && not b) (ap (λ (ys : List ℕ). set_of ys c) is
    ∙ set_of-filter (λ m. not (m == f)) others c ∙ ap (λ (b : Bool). b && not (c == f)) (are c))
    ∙ go (set_of all c) (set_of nodes c) (c == f)
  where
    go : (w t e : Bool) → (w && not ((w && not t) && not e)) ≡ (w && (t || e))
    go false t e = refl
    go true true e = refl
    go true false true = refl
    go true false false = refl

-- all but those that are in neither of two sets
pub union_within_is : (all nodes others rest less union : List ℕ)
    → ((c : ℕ) → set_of rest c ≡ (set_of all c && not (set_of nodes c)))
    → ((c : ℕ) → set_of less c ≡ (set_of rest c && not (set_of others c)))
    → ((c : ℕ) → set_of union c ≡ (set_of all c && not (set_of less c)))
    → (c : ℕ) → set_of union c ≡ (set_of all c && (set_of nodes c || set_of others c))
union_within_is all nodes others rest less union first second third c =
    third c ∙ ap (λ (b : Bool). set_of all c && not b) (second c
    ∙ ap (λ (b : Bool). b && not (set_of others c)) (first c))
    ∙ go (set_of all c) (set_of nodes c) (set_of others c)
  where
    go : (w t e : Bool) → (w && not ((w && not t) && not e)) ≡ (w && (t || e))
    go false t e = refl
    go true true e = refl
    go true false true = refl
    go true false false = refl

-- the numbers below one that is none of a list, and those above it, are all of the list
parted : (c : ℕ) (xs : List ℕ) → set_of xs c ≡ false
    → length (filter (λ m. nat_lt m c) xs) + length (filter (λ m. nat_lt c m) xs) ≡ length xs
parted c [] none = refl
parted c (x ∷ xs) none = elim (cases_order x c) [
  | inl e ↦ absurd (cc (rw (eq-eqb x c e) at none))
  | inr (inl less) ↦
      rw (lt-ltb x c less, le-ltb c x (omega arith))
      (omega (arith, parted c xs (rw (ne_eqb x c (λ e. absurd (omega arith))) at none)))
  | inr (inr more) ↦
      rw (le-ltb x c (omega arith), lt-ltb c x more)
      (omega (arith, parted c xs (rw (ne_eqb x c (λ e. absurd (omega arith))) at none)))
]

-- a full set has no room for one more
no_room : (xs : List ℕ) (c : ℕ) (fault : TextFault) → HasNoRoom xs c fault → length (and_node xs c) ≤ MOST_NODES → ⊥
no_room xs c fault h fits =
    let size = length-append (filter (λ m. nat_lt m c) xs) (c ∷ filter (λ m. nat_lt c m) xs) in
    let all = parted c xs h.other in
    let full = h.full in
    omega (arith, size, all, full, fits)

-- where there is room the set has the node and all others
pub with_one_more : (r : Result Bool TextFault) (xs after : List ℕ) (c : ℕ) → length (and_node xs c) ≤ MOST_NODES
    → MatchResult r (λ is_new. (after ≡ and_node xs c) × (is_new ≡ not (set_of xs c))) (HasNoRoom xs c)
    → OnOk r ((d : ℕ) → set_of after d ≡ (set_of xs d || (c == d))) → set_of after ≡ with_node c (set_of xs)
with_one_more (Err fault) xs after c fits h holds = absurd (no_room xs c fault h fits)
with_one_more (Ok is_new) xs after c fits h holds = fun_ext (λ d. holds d ∙ (elim (cases_eq c d) [
  | inl e ↦ rw (eq-eqb c d e, eq-eqb d c (sym e)) (or-true (set_of xs d))
  | inr ne ↦ rw (ne_eqb c d ne, ne_eqb d c (λ e. ne (sym e))) (or-false (set_of xs d))
]))
