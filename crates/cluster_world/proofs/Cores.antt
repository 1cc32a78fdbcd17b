-- The core of a node, found by its name in a list of cores that has them in the order of their names.
use Rattle.std.proofs.Common.{ℕ, zero, suc, Bool, true, false, ◌==◌, ◌≡◌, ◌<◌, Option, Some, None, List, [], ◌∷◌, length, get_or, set, map, refl, sym, ap, ◌∙◌, arith}
use Rattle.std.specs.Prelude.{if◌then◌else◌, ◌||◌, find}
use Rattle.std.specs.List.{All, list_any}
use Rattle.std.proofs.lemmas.Bool.{eq-eqb, ne_eqb}
use Rattle.std.proofs.lemmas.List.Elements.{All-head, All-tail}
use Rattle.std.proofs.lemmas.List.Folds.{find_past}
use Rattle.std.proofs.lemmas.List.Quantifiers.{position-Some}
use Rattle.registry_model.proofs.Updates.{by_test}
use Rattle.link.specs.MeshState.{place}
use Rattle.term.proofs.NodePlaces.{place-Some}

module _ {C : Type 0} (name : C → ℕ) where
  -- the core of node a
  abbrev pub core_of : ℕ → List C → Option C
  core_of a cs = find (λ c. name c == a) cs

  -- what stands at a place has the name that stands there
  pub name_at : (cs : List C) (i : ℕ) (c : C) → i < length cs → name (get_or cs i c) ≡ get_or (map name cs) i 0
  name_at [] i c l = absurd (omega arith)
  name_at (d ∷ cs) zero c l = refl
  name_at (d ∷ cs) (suc i) c l = name_at cs i c (omega arith)

  pub names-set : (cs : List C) (i : ℕ) (v : C) → i < length cs → name v ≡ get_or (map name cs) i 0
      → map name (set cs i v) ≡ map name cs
  names-set [] i v l e = refl
  names-set (d ∷ cs) zero v l e = ap (λ (x : ℕ). x ∷ map name cs) e
  names-set (d ∷ cs) (suc i) v l e = ap (λ (xs : List ℕ). name d ∷ xs) (names-set cs i v (omega arith) e)

  -- the first that has a name stands at the first place of the name
  found_first : (cs : List C) (i : ℕ) (v : C) (a : ℕ) → i < length cs
      → ((k : ℕ) → k < i → (name (get_or cs k v) == a) ≡ false)
      → (name (get_or cs i v) == a) ≡ true → core_of a cs ≡ Some (get_or cs i v)
  found_first [] i v a l before here = absurd (omega arith)
  found_first (d ∷ cs) zero v a l before here = ap (λ (b : Bool). if b then Some d else core_of a cs) here
  found_first (d ∷ cs) (suc i) v a l before here = ap (λ (b : Bool). if b then Some d else core_of a cs)
      (before 0 (omega arith))
      ∙ found_first cs i v a (omega arith) (λ k m. before (suc k) (omega arith)) here

  wrote_first : (cs : List C) (i : ℕ) (v : C) (a : ℕ) → i < length cs
      → ((k : ℕ) → k < i → (name (get_or cs k v) == a) ≡ false)
      → (name v == a) ≡ true → core_of a (set cs i v) ≡ Some v
  wrote_first [] i v a l before here = absurd (omega arith)
  wrote_first (d ∷ cs) zero v a l before here = ap (λ (b : Bool). if b then Some v else core_of a cs) here
  wrote_first (d ∷ cs) (suc i) v a l before here = ap (λ (b : Bool). if b then Some d else core_of a (set cs i v))
      (before 0 (omega arith))
      ∙ wrote_first cs i v a (omega arith) (λ k m. before (suc k) (omega arith)) here

  -- no core stands before the place that has its name
  not_before : (cs : List C) (i : ℕ) (v : C) (a : ℕ) → i < length cs → place a (map name cs) ≡ Some i
      → (k : ℕ) → k < i → (name (get_or cs k v) == a) ≡ false
  not_before cs i v a l e k m = ap (λ (x : ℕ). x == a) (name_at cs k v (omega arith))
      ∙ (position-Some (λ x. x == a) (map name cs) i 0 e).2 k m

  -- the core of a node at its place
  pub core_here : (cs : List C) (i : ℕ) (c : C) (a : ℕ) → i < length cs → place a (map name cs) ≡ Some i → core_of a cs
      ≡ Some (get_or cs i c)
  core_here cs i c a l e = found_first cs i c a l (not_before cs i c a l e)
      (ap (λ (x : ℕ). x == a) (name_at cs i c l) ∙ (position-Some (λ x. x == a) (map name cs) i 0 e).1)

  -- the core of a node was written, and that of no other
  pub core_wrote : (cs : List C) (i : ℕ) (v : C) (a : ℕ) → i < length cs → place a (map name cs) ≡ Some i → name v ≡ a
      → (x : ℕ) → core_of x (set cs i v) ≡ (if x == a then Some v else core_of x cs)
  core_wrote cs i v a l e is = by_test a (λ x t. core_of x (set cs i v) ≡ (if t then Some v else core_of x cs))
      (wrote_first cs i v a l (not_before cs i v a l e) (ap (λ (x : ℕ). x == a) is ∙ eq-eqb a a refl))
      (λ x ne. find_past (λ c. name c == x) cs i v v
      (ap (λ (y : ℕ). y == x) (name_at cs i v l) ∙ ap (λ (y : ℕ). y == x) (place-Some a (map name cs) i e).1
      ∙ ne_eqb a x (λ same. ne (sym same)))
      (ap (λ (y : ℕ). y == x) is ∙ ne_eqb a x (λ same. ne (sym same))))

  -- no core has the name of a node that has no place
  pub no_core : (cs : List C) (a : ℕ) → list_any (λ m. m == a) (map name cs) ≡ false → core_of a cs ≡ None
  no_core [] a e = refl
  no_core (d ∷ cs) a e = go (name d == a) e (no_core cs a)
    where
      go : (b : Bool) → (b || list_any (λ m. m == a) (map name cs)) ≡ false
          → (list_any (λ m. m == a) (map name cs) ≡ false → core_of a cs ≡ None) → (if b then Some d else core_of a cs)
          ≡ None
      go true e more = cc
      go false e more = more e

  -- nor has one that is none of them
  pub not_among : (a : ℕ) (cs : List C) → All (λ c. name c ≡ a → ⊥) cs → core_of a cs ≡ None
  not_among a [] none = refl
  not_among a (c ∷ cs) none = ap (λ (b : Bool). if b then Some c else core_of a cs)
      (ne_eqb (name c) a (All-head (λ (d : C). name d ≡ a → ⊥) c cs none))
      ∙ not_among a cs (All-tail (λ (d : C). name d ≡ a → ⊥) c cs none)
