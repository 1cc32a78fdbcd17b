-- What the protocol asks of a set of nodes, read off the set's rising list.
use Rattle.std.proofs.Common.{length, get_or, take, ℕ, Bool, true, false, zero, suc, ◌==◌, ◌≡◌, ◌<◌, ◌≤◌, ◌+◌, List, [], ◌∷◌, ◌++◌, refl, sym, ap, ◌∙◌, inl, inr, arith}
use Rattle.std.specs.Prelude.{nat_lt, not, ◌&&◌, ◌||◌, if◌then◌else◌}
use Rattle.std.specs.List.{filter, list_any, All, AllPairs}
use Rattle.std.specs.List.Sorted.{IsStrictlyIncreasing}
use Rattle.std.proofs.Math.Path.{fun_ext}
use Rattle.std.proofs.lemmas.Bool.{or_cases, eqb-true, cases_order, eq-eqb, ne_eqb, lt-ltb, le-ltb}
use Rattle.std.proofs.lemmas.Grind.{common_steps, take_at_read}
use Rattle.std.proofs.lemmas.List.{append-nil}
use Rattle.std.proofs.lemmas.List.Folds.{list_any_at, list_any-append}
use Rattle.std.proofs.lemmas.List.Elements.{All-filter}
use Rattle.std.proofs.lemmas.List.Kept.{AllPairs-from_increasing, IsStrictlyIncreasing-filter}
use Rattle.std.proofs.Math.Bool.{and-false, or-false}
use Rattle.registry_model.proofs.Updates.{by_test}
use Rattle.registry_model.specs.Process.{Nodes, nodes_of}
use Rattle.protocol_model.specs.Links.{is_nil}
use Rattle.protocol_model.specs.Round.{is_empty, greatest}
use Rattle.term.specs.NodeSets.{set_of}
use Rattle.term.proofs.Subsets.{set_of-filter}
use Rattle.boss_order.specs.Boss.{boss_of}

-- x is less than each of these
abbrev IsBelow : ℕ → List ℕ → Type 0
IsBelow x [] = Unit {0}
IsBelow x (y ∷ ys) = (x < y) × IsBelow x ys

-- each is less than all later ones
abbrev Rises : List ℕ → Type 0
Rises [] = Unit {0}
Rises (x ∷ xs) = IsBelow x xs × Rises xs

IsBelow-from : (x : ℕ) (ys : List ℕ) → All (λ y. x < y) ys → IsBelow x ys
IsBelow-from x [] a = tt
IsBelow-from x (y ∷ ys) a = (a 0 0 (omega arith), IsBelow-from x ys (λ k d l. a (suc k) d (omega arith)))

Rises-from : (xs : List ℕ) → AllPairs (λ x y. x < y) xs → Rises xs
Rises-from [] a = tt
Rises-from (x ∷ xs) a = (
  IsBelow-from x xs (λ k d l. a 0 (suc k) d (omega arith) (omega arith)),
  Rises-from xs (λ i j d l m. a (suc i) (suc j) d (omega arith) (omega arith)),
)

-- none of the numbers above x is below n
none_below : (x n : ℕ) (ys : List ℕ) → IsBelow x ys → n ≤ suc x → filter (λ c. nat_lt c n) ys ≡ []
none_below x n [] a l = refl
none_below x n (y ∷ ys) a l = rw (le-ltb y n (omega arith)) (none_below x n ys a.1 l)

-- none of the numbers above x is n
not_among : (x n : ℕ) (ys : List ℕ) → IsBelow x ys → n ≤ x → set_of ys n ≡ false
not_among x n [] a l = refl
not_among x n (y ∷ ys) a l = rw (ne_eqb y n (omega arith)) (not_among x n ys a.1 l)

-- of a rising list what is below n + 1 is what is below n, and n where it is there
one_more : (n : ℕ) (xs : List ℕ) → Rises xs
    → filter (λ c. nat_lt c (suc n)) xs ≡ filter (λ c. nat_lt c n) xs ++ (if set_of xs n then n ∷ [] else [])
one_more n [] r = refl
one_more n (x ∷ xs) r = elim (cases_order x n) [
  | inl e ↦ rw (
    lt-ltb x (suc n) (omega arith),
    le-ltb x n (omega arith),
    eq-eqb x n e,
    none_below x (suc n) xs r.0
        (omega arith),
    none_below x n xs r.0 (omega arith),
  ) (ap (λ (y : ℕ). y ∷ []) e)
  | inr (inl less) ↦ rw (lt-ltb x (suc n) (omega arith), lt-ltb x n less, ne_eqb x n (omega arith))
      (ap (λ (ys : List ℕ). x ∷ ys) (one_more n xs r.1))
  | inr (inr more) ↦ rw (
    le-ltb x (suc n) (omega arith),
    le-ltb x n (omega arith),
    ne_eqb x n (omega arith),
    none_below x (suc n) xs r.0
        (omega arith),
    none_below x n xs r.0 (omega arith),
    not_among x n xs r.0 (omega arith),
  ) refl
]

-- nothing is below 0
none_below_zero : (xs : List ℕ) → filter (λ c. nat_lt c 0) xs ≡ []
none_below_zero [] = refl
none_below_zero (x ∷ xs) = rw (le-ltb x 0 (omega arith)) (none_below_zero xs)

-- of a rising list, the nodes below n are those of its set
nodes_of-below : (n : ℕ) (xs : List ℕ) → Rises xs → nodes_of n (set_of xs) ≡ filter (λ c. nat_lt c n) xs
nodes_of-below zero xs r = sym (none_below_zero xs)
nodes_of-below (suc n) xs r =
    ap (λ (ys : List ℕ). ys ++ (if set_of xs n then n ∷ [] else [])) (nodes_of-below n xs r) ∙ sym (one_more n xs r)

-- all that pass
all_kept : (n : ℕ) (xs : List ℕ) → All (λ c. c < n) xs → filter (λ c. nat_lt c n) xs ≡ xs
all_kept n [] a = refl
all_kept n (x ∷ xs) a =
    rw (lt-ltb x n (a 0 0 (omega arith)))
    (ap (λ (ys : List ℕ). x ∷ ys) (all_kept n xs (λ k d l. a (suc k) d (omega arith))))

-- the nodes of a rising list's set are the list
pub nodes_of-set_of : (n : ℕ) (xs : List ℕ) → IsStrictlyIncreasing xs → All (λ c. c < n) xs
    → nodes_of n (set_of xs) ≡ xs
nodes_of-set_of n xs rising below =
    nodes_of-below n xs (Rises-from xs (AllPairs-from_increasing xs rising)) ∙ all_kept n xs below

-- a set is empty where it has no nodes
is_empty-nodes_of : (n : ℕ) (s : Nodes) → is_empty n s ≡ is_nil (nodes_of n s)
is_empty-nodes_of zero s = refl
is_empty-nodes_of (suc n) s = go (s n) (is_empty-nodes_of n s)
  where
    kept : (ys : List ℕ) → is_nil ys ≡ is_nil (ys ++ [])
    kept [] = refl
    kept (y ∷ ys) = refl

    more : (ys : List ℕ) → is_nil (ys ++ n ∷ []) ≡ false
    more [] = refl
    more (y ∷ ys) = refl

    go : (b : Bool) → is_empty n s ≡ is_nil (nodes_of n s)
        → (not b && is_empty n s) ≡ is_nil (nodes_of n s ++ (if b then n ∷ [] else []))
    go true e = sym (more (nodes_of n s))
    go false e = e ∙ kept (nodes_of n s)

-- the boss of a list with one node more at its end
pub boss_of-push : (xs : List ℕ) (x : ℕ) → boss_of (xs ++ x ∷ []) ≡ x
boss_of-push xs x = grind (arith, common_steps)

-- the greatest of a set is the last of its nodes
greatest-nodes_of : (n : ℕ) (s : Nodes) → greatest n s ≡ boss_of (nodes_of n s)
greatest-nodes_of zero s = refl
greatest-nodes_of (suc n) s = go (s n) (greatest-nodes_of n s)
  where
    go : (b : Bool) → greatest n s ≡ boss_of (nodes_of n s)
        → (if b then n else greatest n s) ≡ boss_of (nodes_of n s ++ (if b then n ∷ [] else []))
    go true e = sym (boss_of-push (nodes_of n s) n)
    go false e = e ∙ ap boss_of (sym (append-nil (nodes_of n s)))

-- whether a rising list's set is empty
pub is_empty-set_of : (n : ℕ) (xs : List ℕ) → IsStrictlyIncreasing xs → All (λ c. c < n) xs
    → is_empty n (set_of xs) ≡ is_nil xs
is_empty-set_of n xs rising below = is_empty-nodes_of n (set_of xs) ∙ ap is_nil (nodes_of-set_of n xs rising below)

-- the greatest of a rising list's set
pub greatest-set_of : (n : ℕ) (xs : List ℕ) → IsStrictlyIncreasing xs → All (λ c. c < n) xs
    → greatest n (set_of xs) ≡ boss_of xs
greatest-set_of n xs rising below = greatest-nodes_of n (set_of xs) ∙ ap boss_of (nodes_of-set_of n xs rising below)

-- each node of a list is of its set
pub set_of-item : (xs : List ℕ) (k d : ℕ) → k < length xs → set_of xs (get_or xs k d) ≡ true
set_of-item xs k d l = list_any_at (λ m. m == get_or xs k d) xs k d l (eq-eqb _ _ refl)

-- no element passes a test where none is left
pub is_nil-filter : (p : ℕ → Bool) (xs : List ℕ) → is_nil (filter p xs) ≡ not (list_any p xs)
is_nil-filter p [] = refl
is_nil-filter p (x ∷ xs) = go (p x) (is_nil-filter p xs)
  where
    go : (b : Bool) → is_nil (filter p xs) ≡ not (list_any p xs)
        → is_nil (if b then x ∷ filter p xs else filter p xs) ≡ not (b || list_any p xs)
    go true e = refl
    go false e = e

-- the nodes of a rising list's set that pass a test
pub nodes_of-set_of_passing : (n : ℕ) (s : Nodes) (xs : List ℕ) → IsStrictlyIncreasing xs → All (λ c. c < n) xs
    → nodes_of n (λ c. set_of xs c && s c) ≡ filter s xs
nodes_of-set_of_passing n s xs rising below =
    ap (nodes_of n) (fun_ext (λ c. sym (set_of-filter s xs c)))
    ∙ nodes_of-set_of n (filter s xs) (IsStrictlyIncreasing-filter s xs rising) (All-filter s (λ c. c < n) xs below)

-- whether any of them passes
pub is_empty-set_of_passing : (n : ℕ) (s : Nodes) (xs : List ℕ) → IsStrictlyIncreasing xs → All (λ c. c < n) xs
    → is_empty n (λ c. set_of xs c && s c) ≡ not (list_any s xs)
is_empty-set_of_passing n s xs rising below =
    is_empty-nodes_of n (λ c. set_of xs c && s c)
    ∙ ap is_nil (nodes_of-set_of_passing n s xs rising below) ∙ is_nil-filter s xs

-- a test that passes only among these nodes
pub passes_within : (s : Nodes) (xs : List ℕ) → ((c : ℕ) → s c ≡ true → set_of xs c ≡ true)
    → s ≡ (λ c. set_of xs c && s c)
passes_within s xs only = fun_ext (λ c. go c (s c) refl)
  where
    go : (c : ℕ) (b : Bool) → s c ≡ b → b ≡ (set_of xs c && b)
    go c true e = rw (only c e) refl
    go c false e = sym (and-false (set_of xs c))

-- the nodes of a set that lies among these
pub nodes_of-within : (n : ℕ) (s : Nodes) (xs : List ℕ) → IsStrictlyIncreasing xs → All (λ c. c < n) xs
    → ((c : ℕ) → s c ≡ true → set_of xs c ≡ true) → nodes_of n s ≡ filter s xs
nodes_of-within n s xs rising below only = ap (nodes_of n) (passes_within s xs only)
    ∙ nodes_of-set_of_passing n s xs rising below

-- whether such a set is empty
pub is_empty-within : (n : ℕ) (s : Nodes) (xs : List ℕ) → IsStrictlyIncreasing xs → All (λ c. c < n) xs
    → ((c : ℕ) → s c ≡ true → set_of xs c ≡ true) → is_empty n s ≡ not (list_any s xs)
is_empty-within n s xs rising below only = ap (is_empty n) (passes_within s xs only)
    ∙ is_empty-set_of_passing n s xs rising below

-- a node of a list below n is below n
below-set_of : (n : ℕ) (xs : List ℕ) (c : ℕ) → All (λ c. c < n) xs → set_of xs c ≡ true → c < n
below-set_of n [] c below e = cc
below-set_of n (x ∷ xs) c below e = elim (or_cases (x == c) (set_of xs c) e) [
  | inl same ↦ omega (arith, below 0 0 (omega arith), eqb-true x c same)
  | inr other ↦ below-set_of n xs c (λ k d l. below (suc k) d (omega arith)) other
]

-- nodes of a set below n are below n
pub below-within : (n : ℕ) (xs ys : List ℕ) → All (λ c. c < n) xs → ((c : ℕ) → set_of ys c ≡ true → set_of xs c ≡ true)
    → All (λ c. c < n) ys
below-within n xs ys below only k d l =
    below-set_of n xs (get_or ys k d) below
    (only (get_or ys k d) (set_of-item ys k d l))
