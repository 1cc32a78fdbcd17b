-- Pairs of a table that count at a node, under what changes a table.
use Rattle.std.proofs.Common.{ℕ, suc, Bool, true, false, ◌==◌, ◌≡◌, ◌≤◌, ◌+◌, ◌*◌, List, [], ◌∷◌, ◌∙◌, arith}
use Rattle.std.specs.Prelude.{count_by, length, not, nat_lt, filter, if◌then◌else◌}
use Rattle.std.specs.List.{sum_by}
use Rattle.std.proofs.lemmas.List.Sums.{sum_by-cons, length-filter, count_by-le-length}
use Rattle.registry_model.specs.Process.{Text}
use Rattle.registry_model.specs.Table.{Pair, Table, put, put_all, remove, remove_all}
use Rattle.no_dead_end.specs.Weights.{when}

-- what is left of a list counts no more
pub filter-count : {X : Type 0} (f : X → ℕ) (p : X → Bool) (xs : List X) → sum_by f (filter p xs) ≤ sum_by f xs
filter-count f p [] = omega arith
filter-count {X} f p (x ∷ xs) = go (p x) (filter-count f p xs)
  where
    go : (t : Bool) → sum_by f (filter p xs) ≤ sum_by f xs
        → sum_by f (if t then x ∷ filter p xs else filter p xs) ≤ sum_by f (x ∷ xs)
    go true h = let a : sum_by f (x ∷ filter p xs) ≡ f x + sum_by f (filter p xs) = sum_by-cons f x (filter p xs) in
        let c : sum_by f (x ∷ xs) ≡ f x + sum_by f xs = sum_by-cons f x xs in omega (arith, h, a, c)
    go false h = let c : sum_by f (x ∷ xs) ≡ f x + sum_by f xs = sum_by-cons f x xs in omega (arith, h, c)

pub filter-length : {X : Type 0} (p : X → Bool) (xs : List X) → length (filter p xs) ≤ length xs
filter-length p xs = let e : length (filter p xs) ≡ count_by p xs = length-filter p xs in
    let le : count_by p xs ≤ length xs = count_by-le-length p xs in omega (arith, e, le)

module _ (f : Pair → ℕ) where
  -- a pair is put
  pub put-count : (new : Pair) (t : Table) → sum_by f (put new t) ≤ sum_by f t + f new
  put-count new [] = let a : sum_by f (new ∷ []) ≡ f new + sum_by f [] = sum_by-cons f new [] in omega (arith, a)
  put-count new (pair ∷ t) = go (pair.name == new.name) (nat_lt new.name pair.name) (put-count new t)
    where
      go : (same less : Bool) → sum_by f (put new t) ≤ sum_by f t + f new
          → sum_by f (if same then new ∷ t else (if less then new ∷ pair ∷ t else pair ∷ put new t)) ≤ sum_by f (pair ∷ t) + f new
      go true less h = let a : sum_by f (new ∷ t) ≡ f new + sum_by f t = sum_by-cons f new t in
          let c : sum_by f (pair ∷ t) ≡ f pair + sum_by f t = sum_by-cons f pair t in omega (arith, a, c)
      go false true h = let a : sum_by f (new ∷ pair ∷ t) ≡ f new + sum_by f (pair ∷ t) = sum_by-cons f new (pair ∷ t) in
          omega (arith, a)
      go false false h = let a : sum_by f (pair ∷ put new t) ≡ f pair + sum_by f (put new t) = sum_by-cons f pair (put new t) in
          let c : sum_by f (pair ∷ t) ≡ f pair + sum_by f t = sum_by-cons f pair t in omega (arith, h, a, c)

  pub put_all-count : (pairs : Table) (t : Table) → sum_by f (put_all pairs t) ≤ sum_by f t + sum_by f pairs
  put_all-count [] t = omega arith
  put_all-count (pair ∷ pairs) t =
      let more : sum_by f (put_all pairs (put pair t)) ≤ sum_by f (put pair t) + sum_by f pairs =
      put_all-count pairs (put pair t) in
      let one : sum_by f (put pair t) ≤ sum_by f t + f pair = put-count pair t in
      let c : sum_by f (pair ∷ pairs) ≡ f pair + sum_by f pairs = sum_by-cons f pair pairs in omega (arith, more, one, c)

  pub remove_all-count : (xs : List Text) (t : Table) → sum_by f (remove_all xs t) ≤ sum_by f t
  remove_all-count [] t = omega arith
  remove_all-count (x ∷ xs) t =
      let more : sum_by f (remove_all xs (remove x t)) ≤ sum_by f (remove x t) = remove_all-count xs (remove x t) in
      let one : sum_by f (remove x t) ≤ sum_by f t = filter-count f (λ pair. not (pair.name == x)) t in omega (arith, more, one)

-- how long a table gets
pub put-length : (new : Pair) (t : Table) → length (put new t) ≤ length t + 1
put-length new [] = omega arith
put-length new (pair ∷ t) = go (pair.name == new.name) (nat_lt new.name pair.name) (put-length new t)
  where
    go : (same less : Bool) → length (put new t) ≤ length t + 1
        → length (if same then new ∷ t else (if less then new ∷ pair ∷ t else pair ∷ put new t)) ≤ suc (length t) + 1
    go true less h = omega arith
    go false true h = omega arith
    go false false h = omega (arith, h)

-- counting one number for each item that passes
pub count-passing : {X : Type 0} (p : X → Bool) (k : ℕ) (xs : List X) → sum_by (λ x. when (p x) k) xs ≡ length (filter p xs) * k
count-passing p k [] = omega arith
count-passing {X} p k (x ∷ xs) = sum_by-cons (λ x. when (p x) k) x xs ∙ go (p x) (count-passing p k xs)
  where
    go : (t : Bool) → sum_by (λ x. when (p x) k) xs ≡ length (filter p xs) * k
        → when t k + sum_by (λ x. when (p x) k) xs ≡ length (if t then x ∷ filter p xs else filter p xs) * k
    go true h = omega (arith, h)
    go false h = omega (arith, h)
