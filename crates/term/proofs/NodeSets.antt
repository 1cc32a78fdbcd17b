-- What a place among the nodes of a set says of the whole: where a node stands, or would stand.
use Rattle.std.proofs.Common.{◌≡◌, ℕ, zero, suc, ◌+◌, ◌<◌, ◌≤◌, ◌==◌, ◌||◌, ◌⊎◌, inl, inr, List, [], ◌∷◌, ◌++◌, length, Bool, true, false, not, nat_lt, ◌-◌, arith, subst, sym, ◌∙◌, ap, refl, get_or, take, drop, filter, Some, None, Result, Ok, Err, MatchResult}
use Rattle.std.proofs.lemmas.Bool.{cases_lt, cases_eq, eq-eqb, ne_eqb, lt-ltb, le-ltb}
use Rattle.std.proofs.Math.Bool.{or-false}
use Rattle.std.proofs.lemmas.List.{get_or_default}
use Rattle.std.proofs.lemmas.List.Edits.{length-insert, get_or-insert_below, get_or-insert_at, get_or-insert_above}
use Rattle.std.proofs.lemmas.List.Filters.{length-filter_both}
use Rattle.std.proofs.lemmas.List.Folds.{list_any_none, list_any_at, list_any-append}
use Rattle.std.proofs.lemmas.List.Kept.{AllPairs-from_increasing, IsStrictlyIncreasing-filter}
use Rattle.std.proofs.lemmas.List.Sums.{position_or_len_is}
use Rattle.std.proofs.lemmas.List.Sorted.{searched}
use Rattle.std.specs.List.{insert, remove, list_any, position, position_or_len}
use Rattle.std.specs.List.Sorted.{IsStrictlyIncreasing, IsBinarySearchResult}
use Rattle.std.specs.Ordering.{nat_cmp}
use Rattle.term.specs.NodeSets.{IsNodeSet, set_of, with_node, without_node}
use Rattle.term.specs.declared.limits.TheConstants.{MOST_NODES}

-- each node is below those behind it
pub rises : (xs : List ℕ) (i j : ℕ) → IsStrictlyIncreasing xs → i < j → j < length xs → get_or xs i 0 < get_or xs j 0
rises xs i j up below inside = AllPairs-from_increasing xs up i j 0 below inside

-- and not above those from it on
pub never_falls : (xs : List ℕ) → IsStrictlyIncreasing xs → (i j : ℕ) → i ≤ j → j < length xs
    → get_or xs i 0 ≤ get_or xs j 0
never_falls xs up i j le inside =
    elim (cases_lt i j) [
      | inl below ↦ omega (arith, rises xs i j up below inside)
      | inr not_below ↦ let same : i ≡ j = omega arith in rw same (omega arith)
    ]

-- what passes is what stands in front, where the rest does not pass
filter_front : (p : ℕ → Bool) (xs : List ℕ) (i : ℕ) → ((k : ℕ) → k < i → k < length xs → p (get_or xs k 0) ≡ true)
    → ((k : ℕ) → i ≤ k → k < length xs → p (get_or xs k 0) ≡ false) → filter p xs ≡ take i xs
filter_front p [] zero front back = refl
filter_front p [] (suc i) front back = refl
filter_front p (x ∷ xs) zero front back =
    rw (back 0 (omega arith) (omega arith))
    (filter_front p xs 0 (λ k h _. absurd (omega arith)) (λ k h l. back (suc k) (omega arith) (omega arith)))
filter_front p (x ∷ xs) (suc i) front back =
    rw (front 0 (omega arith) (omega arith))
    (ap (λ (ys : List ℕ). x ∷ ys)
    (filter_front p xs i (λ k h l. front (suc k) (omega arith) (omega arith))
    (λ k h l. back (suc k) (omega arith) (omega arith))))

-- what passes is what stands behind, where the rest does not pass
filter_back : (p : ℕ → Bool) (xs : List ℕ) (i : ℕ) → ((k : ℕ) → k < i → k < length xs → p (get_or xs k 0) ≡ false)
    → ((k : ℕ) → i ≤ k → k < length xs → p (get_or xs k 0) ≡ true) → filter p xs ≡ drop i xs
filter_back p [] zero front back = refl
filter_back p [] (suc i) front back = refl
filter_back p (x ∷ xs) zero front back =
    rw (back 0 (omega arith) (omega arith))
    (ap (λ (ys : List ℕ). x ∷ ys)
    (filter_back p xs 0 (λ k h _. absurd (omega arith)) (λ k h l. back (suc k) (omega arith) (omega arith))))
filter_back p (x ∷ xs) (suc i) front back =
    rw (front 0 (omega arith) (omega arith))
    (filter_back p xs i (λ k h l. front (suc k) (omega arith) (omega arith))
    (λ k h l. back (suc k) (omega arith) (omega arith)))

-- all but one stay where all others pass
filter_other : (p : ℕ → Bool) (xs : List ℕ) (i : ℕ) → i < length xs → p (get_or xs i 0) ≡ false
    → ((k : ℕ) → (k ≡ i → ⊥) → k < length xs → p (get_or xs k 0) ≡ true) → filter p xs ≡ remove xs i
filter_other p [] i inside at others = absurd (omega arith)
filter_other p (x ∷ xs) zero inside at others =
    rw at (filter_back p xs 0 (λ k h _. absurd (omega arith))
    (λ k h l. others (suc k) (λ e. omega (arith, e)) (omega arith)))
filter_other p (x ∷ xs) (suc i) inside at others =
    rw (others 0 (λ e. omega (arith, e)) (omega arith))
    (ap (λ (ys : List ℕ). x ∷ ys)
    (filter_other p xs i (omega arith) at (λ k ne l. others (suc k) (λ e. ne (omega (arith, e))) (omega arith))))

-- the node stands at the place
pub record StandsAt (xs : List ℕ) (i c : ℕ) : Type 0 where
  pub inside : i < length xs
  pub is : get_or xs i 0 ≡ c

-- the node would stand at the place: those before it are below it, and those from it on above
pub record FitsAt (xs : List ℕ) (i c : ℕ) : Type 0 where
  pub inside : i ≤ length xs
  pub before : (k : ℕ) → k < i → get_or xs k 0 < c
  pub behind : (k : ℕ) → i ≤ k → k < length xs → c < get_or xs k 0

-- a search among rising nodes finds where the node stands, or would
pub found : (xs : List ℕ) (c : ℕ) (r : Result ℕ ℕ) → IsBinarySearchResult (λ y. nat_cmp y c) xs r
    → IsStrictlyIncreasing xs
    → MatchResult r (λ i. StandsAt xs i c) (λ i. FitsAt xs i c)
found xs c (Ok i) s up =
    let e = searched xs c (Ok i) s (never_falls xs up) in record { inside = e.0; is = e.1 }
found xs c (Err i) s up =
    let e = searched xs c (Err i) s (never_falls xs up) in record { inside = e.0; before = e.1; behind = e.2 }

-- the same of the answer that a search gave
pub stands : (xs : List ℕ) (c i : ℕ) (r : Result ℕ ℕ) → r ≡ Ok i → IsBinarySearchResult (λ y. nat_cmp y c) xs r
    → IsStrictlyIncreasing xs → StandsAt xs i c
stands xs c i r e s up =
    found xs c (Ok i) (subst (λ (q : Result ℕ ℕ). IsBinarySearchResult (λ y. nat_cmp y c) xs q) e s) up

pub would_stand : (xs : List ℕ) (c i : ℕ) (r : Result ℕ ℕ) → r ≡ Err i → IsBinarySearchResult (λ y. nat_cmp y c) xs r
    → IsStrictlyIncreasing xs → FitsAt xs i c
would_stand xs c i r e s up =
    found xs c (Err i) (subst (λ (q : Result ℕ ℕ). IsBinarySearchResult (λ y. nat_cmp y c) xs q) e s) up

-- a list with an item taken from its place and put there again
again : (xs : List ℕ) (i : ℕ) → i < length xs → take i xs ++ get_or xs i 0 ∷ drop (suc i) xs ≡ xs
again [] i inside = absurd (omega arith)
again (x ∷ xs) zero inside = refl
again (x ∷ xs) (suc i) inside = ap (λ (ys : List ℕ). x ∷ ys) (again xs i (omega arith))

-- where the node stands, the set is the same with it
pub with_node-there : (xs : List ℕ) (i c : ℕ) → IsStrictlyIncreasing xs → StandsAt xs i c → with_node xs c ≡ xs
with_node-there xs i c up at =
    rw (front, back) (rw (← at.is) (again xs i at.inside))
  where
    lower : (k : ℕ) → k < i → get_or xs k 0 < c
    lower k h = omega (arith, rises xs k i up h at.inside, at.is)

    higher : (k : ℕ) → i < k → k < length xs → c < get_or xs k 0
    higher k h l = omega (arith, rises xs i k up h l, at.is)

    front : filter (λ m. nat_lt m c) xs ≡ take i xs
    front =
        filter_front (λ m. nat_lt m c) xs i (λ k h _. lt-ltb _ _ (lower k h))
        (λ k h l. le-ltb _ _ (omega (arith, never_falls xs up i k h l, at.is)))

    back : filter (λ m. nat_lt c m) xs ≡ drop (suc i) xs
    back =
        filter_back (λ m. nat_lt c m) xs (suc i)
        (λ k h l. le-ltb _ _ (omega (arith, never_falls xs up k i (omega arith) at.inside, at.is)))
        (λ k h l. lt-ltb _ _ (higher k (omega arith) l))

-- where it would stand, it is put in there
pub with_node-fits : (xs : List ℕ) (i c : ℕ) → FitsAt xs i c → insert xs i c ≡ with_node xs c
with_node-fits xs i c fits = rw (front, back) refl
  where
    front : filter (λ m. nat_lt m c) xs ≡ take i xs
    front =
        filter_front (λ m. nat_lt m c) xs i (λ k h _. lt-ltb _ _ (fits.before k h))
        (λ k h l. le-ltb _ _ (omega (arith, fits.behind k h l)))

    back : filter (λ m. nat_lt c m) xs ≡ drop i xs
    back =
        filter_back (λ m. nat_lt c m) xs i (λ k h _. le-ltb _ _ (omega (arith, fits.before k h)))
        (λ k h l. lt-ltb _ _ (fits.behind k h l))

-- a node that stands somewhere is in the set, and one that would is not
pub set_of-there : (xs : List ℕ) (i c : ℕ) → StandsAt xs i c → set_of xs c ≡ true
set_of-there xs i c at = list_any_at (λ m. m == c) xs i 0 at.inside (eq-eqb _ _ at.is)

apart : (xs : List ℕ) (i c k : ℕ) → FitsAt xs i c → k < length xs → get_or xs k 0 ≡ c → ⊥
apart xs i c k fits inside e =
    elim (cases_lt k i) [
      | inl below ↦ omega (arith, fits.before k below, e)
      | inr not_below ↦ omega (arith, fits.behind k not_below inside, e)
    ]

pub set_of-fits : (xs : List ℕ) (i c : ℕ) → FitsAt xs i c → set_of xs c ≡ false
set_of-fits xs i c fits = list_any_none (λ m. m == c) xs (λ k d h.
    rw (get_or_default xs k d 0 h) (ne_eqb _ _ (apart xs i c k fits h)))

-- a list with a node in its place rises
pub rising-insert : (xs : List ℕ) (i c : ℕ) → IsStrictlyIncreasing xs → FitsAt xs i c
    → IsStrictlyIncreasing (insert xs i c)
rising-insert xs i c up fits k inside = at (cases_lt k i) (cases_lt (suc k) i)
  where
    within : i ≤ length xs
    within = fits.inside

    long : length (insert xs i c) ≡ length xs + 1
    long = length-insert xs i c within

    at : (k < i) ⊎ (i ≤ k) → (suc k < i) ⊎ (i ≤ suc k) → get_or (insert xs i c) k 0 < get_or (insert xs i c) (k + 1) 0
    at (inl below) (inl next_below) =
        rw (get_or-insert_below xs i c 0 k below within, get_or-insert_below xs i c 0 (k + 1) (omega arith) within)
        (up k (omega arith))
    at (inl below) (inr next) =
        let here : k + 1 ≡ i = omega arith in
        rw (get_or-insert_below xs i c 0 k below within, here, get_or-insert_at xs i c 0 within) (fits.before k below)
    at (inr not_below) _ =
        elim (cases_eq k i) [
          | inl here ↦ rw (here, get_or-insert_at xs i c 0 within, get_or-insert_above xs i c 0 i (omega arith) within)
              (fits.behind i (omega arith) (omega (arith, long, inside, here)))
          | inr off ↦ let above : i < k = omega (arith, off, not_below) in above_it above
        ]
      where
        above_it : i < k → get_or (insert xs i c) k 0 < get_or (insert xs i c) (k + 1) 0
        above_it above =
            let shifted : k ≡ k - 1 + 1 = omega arith in
            rw (get_or-insert_above xs i c 0 k (omega arith) within)
            (subst (λ (j : ℕ). get_or (insert xs i c) j 0 < get_or xs k 0) (sym shifted)
            (rw (get_or-insert_above xs i c 0 (k - 1) (omega arith) within)
            (rises xs (k - 1) k up (omega arith) (omega (arith, long, inside)))))

-- where there is room, it is a set
pub insert-set : (xs : List ℕ) (i c : ℕ) → IsNodeSet xs → FitsAt xs i c → length xs < MOST_NODES
    → IsNodeSet (insert xs i c)
insert-set xs i c s fits room = record {
  rising = rising-insert xs i c s.rising fits;
  fits = omega (arith, room, length-insert xs i c fits.inside);
}

-- the set without a node
pub without_node-there : (xs : List ℕ) (i c : ℕ) → IsStrictlyIncreasing xs → StandsAt xs i c → remove xs i
    ≡ without_node xs c
without_node-there xs i c up at =
    sym (filter_other (λ m. not (m == c)) xs i at.inside (ap not (eq-eqb _ _ at.is))
    (λ k ne l. ap not (ne_eqb _ _ (differs k ne l))))
  where
    differs : (k : ℕ) → (k ≡ i → ⊥) → k < length xs → get_or xs k 0 ≡ c → ⊥
    differs k ne l e =
        elim (cases_lt k i) [
          | inl below ↦ omega (arith, rises xs k i up below at.inside, at.is, e)
          | inr over ↦ elim (cases_lt i k) [
            | inl above ↦ omega (arith, rises xs i k up above l, at.is, e)
            | inr same ↦ ne (omega arith)
          ]
        ]

pub without_node-fits : (xs : List ℕ) (i c : ℕ) → FitsAt xs i c → xs ≡ without_node xs c
without_node-fits xs i c fits =
    sym (filter_back (λ m. not (m == c)) xs 0 (λ k h _. absurd (omega arith))
    (λ k h l. ap not (ne_eqb _ _ (apart xs i c k fits l))))

-- a set without a node is a set
pub without_node-set : (xs : List ℕ) (c : ℕ) → IsNodeSet xs → IsNodeSet (without_node xs c)
without_node-set xs c s = record {
  rising = IsStrictlyIncreasing-filter (λ m. not (m == c)) xs s.rising;
  fits = omega (
    arith,
    s.fits,
    length-filter_both (λ m. not (m == c)) (λ m. not (not (m == c))) (λ m. refl) xs,
  );
}

-- the place of a node
pub position-there : (xs : List ℕ) (i c : ℕ) → IsStrictlyIncreasing xs → StandsAt xs i c → position (λ m. m == c) xs
    ≡ Some i
position-there xs i c up at = rw (first, lt-ltb _ _ at.inside) refl
  where
    first : position_or_len (λ m. m == c) xs ≡ i
    first =
        position_or_len_is (λ m. m == c) xs i 0 (omega (arith, at.inside))
        (λ k h. ne_eqb _ _ (λ e. omega (arith, rises xs k i up h at.inside, at.is, e)))
        (λ _. eq-eqb _ _ at.is)

pub position-fits : (xs : List ℕ) (i c : ℕ) → FitsAt xs i c → position (λ m. m == c) xs ≡ None
position-fits xs i c fits = rw (nowhere, le-ltb (length xs) (length xs) (omega arith)) refl
  where
    nowhere : position_or_len (λ m. m == c) xs ≡ length xs
    nowhere =
        position_or_len_is (λ m. m == c) xs (length xs) 0 (omega arith)
        (λ k h. ne_eqb _ _ (apart xs i c k fits h)) (λ h. absurd (omega (arith, h)))

-- of the tests whether a number is one of those below, the node, one of those above, one of all, or the next of all
next_below : (here below node above all : Bool) → (below || (node || above)) ≡ (all || node)
    → ((here || below) || (node || above)) ≡ ((here || all) || node)
next_below true below node above all h = refl
next_below false below node above all h = h

next_above : (here below node above all : Bool) → (below || (node || above)) ≡ (all || node)
    → (below || (node || (here || above))) ≡ ((here || all) || node)
next_above false below node above all h = h
next_above true true node above all h = refl
next_above true false true above all h = refl
next_above true false false above all h = refl

next_same : (below node above all : Bool) → (below || (node || above)) ≡ (all || node)
    → (below || (node || above)) ≡ ((node || all) || node)
next_same below false above all h = h
next_same true true above all h = refl
next_same false true above all h = refl

-- one of the nodes below, the node and those above passes where one of the nodes or the node does
parted : (p : ℕ → Bool) (xs : List ℕ) (c : ℕ)
    → (list_any p (filter (λ m. nat_lt m c) xs) || (p c || list_any p (filter (λ m. nat_lt c m) xs)))
    ≡ (list_any p xs || p c)
parted p [] c = or-false (p c)
parted p (x ∷ xs) c =
    elim (cases_lt x c) [
      | inl below ↦ rw (lt-ltb x c below, le-ltb c x (omega arith))
          (next_below (p x) _ (p c) _ (list_any p xs) (parted p xs c))
      | inr not_below ↦ elim (cases_lt c x) [
        | inl above ↦ rw (le-ltb x c not_below, lt-ltb c x above)
            (next_above (p x) _ (p c) _ (list_any p xs) (parted p xs c))
        | inr not_above ↦ let same : x ≡ c = omega arith in
            rw (same, le-ltb c c (omega arith)) (next_same _ (p c) _ (list_any p xs) (parted p xs c))
      ]
    ]

-- one of the set with a node passes where one of the set or the node does
pub list_any-with_node : (p : ℕ → Bool) (xs : List ℕ) (c : ℕ) → list_any p (with_node xs c) ≡ (list_any p xs || p c)
list_any-with_node p xs c =
    list_any-append p (filter (λ m. nat_lt m c) xs) (c ∷ filter (λ m. nat_lt c m) xs) ∙ parted p xs c

-- the set with a node holds what it held, and the node
pub set_of-with_node : (xs : List ℕ) (c d : ℕ) → set_of (with_node xs c) d ≡ (set_of xs d || (c == d))
set_of-with_node xs c d = list_any-with_node (λ m. m == d) xs c

pub set_of-grown : (xs ys : List ℕ) (c : ℕ) → ys ≡ with_node xs c → (d : ℕ) → set_of ys d ≡ (set_of xs d || (c == d))
set_of-grown xs ys c e d = ap (λ (zs : List ℕ). set_of zs d) e ∙ set_of-with_node xs c d
