-- Whether the names of a table rise, pair by pair.
use Rattle.std.proofs.Common.{ℕ, zero, suc, Bool, true, false, ◌≡◌, ◌==◌, ◌<◌, ◌≤◌, ◌+◌, ◌-◌, [], ◌∷◌, length, take, get_or, refl, sym, ap, ◌∙◌, cond, add-one, arith}
use Rattle.std.specs.Prelude.{not, ◌&&◌, nat_lt}
use Rattle.std.specs.Ordering.{is_ge, nat_cmp}
use Rattle.std.specs.declared.cmp.Ordering.TheVariants.{Less, Equal, Greater}
use Rattle.std.proofs.lemmas.Bool.{and_from, and_parts, true≢false}
use Rattle.std.proofs.lemmas.List.{get_or_read}
use Rattle.registry_model.specs.Table.{Pair, Table, is_below, is_rising}

-- with one pair more the names rise where they did, and its name is above the last one
stepped : (xs : Table) (k : ℕ) (d : Pair) → suc k < length xs
    → is_rising (take (suc (suc k)) xs) ≡ (is_rising (take (suc k) xs) && nat_lt (get_or xs k d).name (get_or xs (suc k) d).name)
stepped [] k d inside = absurd (omega (arith, inside))
stepped (x ∷ []) k d inside = absurd (omega (arith, inside))
stepped (x ∷ y ∷ ys) zero d inside = go (nat_lt x.name y.name)
  where
    go : (b : Bool) → (b && true) ≡ b
    go true = refl
    go false = refl
stepped (x ∷ y ∷ ys) (suc k) d inside =
    ap (λ (b : Bool). nat_lt x.name y.name && b) (stepped (y ∷ ys) k d (omega (arith, inside)))
    ∙ go (nat_lt x.name y.name) (is_rising (take (suc k) (y ∷ ys))) (nat_lt (get_or (y ∷ ys) k d).name (get_or (y ∷ ys) (suc k) d).name)
  where
    go : (a b c : Bool) → (a && (b && c)) ≡ ((a && b) && c)
    go true b c = refl
    go false b c = refl

rising_more : (xs : Table) (k : ℕ) (d : Pair) → 1 ≤ k → k < length xs
    → is_rising (take (k + 1) xs) ≡ (is_rising (take k xs) && nat_lt (get_or xs (k - 1) d).name (get_or xs k d).name)
rising_more xs zero d first inside = absurd (omega (arith, first))
rising_more xs (suc k) d first inside =
    let before : k ≡ suc k - 1 = omega arith in
    rw add-one (stepped xs k d inside
    ∙ ap (λ (i : ℕ). is_rising (take (suc k) xs) && nat_lt (get_or xs i d).name (get_or xs (suc k) d).name) before)

-- where all names rise, the first ones do
below_first : (n : ℕ) (xs : Table) (k : ℕ) → is_below n xs ≡ true → is_below n (take k xs) ≡ true
below_first n xs zero e = refl
below_first n [] (suc k) e = refl
below_first n (x ∷ xs) (suc k) e = e

rising_first : (xs : Table) (k : ℕ) → is_rising xs ≡ true → is_rising (take k xs) ≡ true
rising_first xs zero e = refl
rising_first [] (suc k) e = refl
rising_first (x ∷ xs) (suc k) e =
    let parts = and_parts (is_below x.name xs) (is_rising xs) e in
    and_from (is_below x.name (take k xs)) (is_rising (take k xs)) (below_first x.name xs k parts.0) (rising_first xs k parts.1)

-- where the first ones don't, not all do
pub falls : (xs : Table) (k : ℕ) → is_rising (take k xs) ≡ false → false ≡ is_rising xs
falls xs k e = go (is_rising xs) refl
  where
    go : (b : Bool) → is_rising xs ≡ b → false ≡ b
    go true h = absurd (true≢false (sym (rising_first xs k h) ∙ e))
    go false h = refl

-- a name is at least another where it isn't less
not_less : (x y : ℕ) → is_ge (nat_cmp x y) ≡ not (nat_lt x y)
not_less x y = go (nat_lt x y) (x == y)
  where
    go : (b c : Bool) → is_ge (cond b Less (cond c Equal Greater)) ≡ not b
    go true c = refl
    go false true = refl
    go false false = refl

-- so with the pair b behind a they rise unless the name of a is at least that of b
pub rises_on : (xs : Table) (k : ℕ) (a b : Pair) (m n : ℕ) (g : Bool) → 1 ≤ k → k < length xs → a ≡ get_or xs (k - 1) a → b ≡ get_or xs k b
    → m ≡ a.name → n ≡ b.name → g ≡ is_ge (nat_cmp m n) → is_rising (take k xs) ≡ true → is_rising (take (k + 1) xs) ≡ not g
rises_on xs k a b m n g first inside at_a at_b is_m is_n ge rise =
    rising_more xs k a first inside
    ∙ (ap (λ (t : Bool). t && nat_lt (get_or xs (k - 1) a).name (get_or xs k a).name) rise
    ∙ (ap (λ (p : Pair). nat_lt p.name (get_or xs k a).name) (sym at_a)
    ∙ (ap (λ (p : Pair). nat_lt a.name p.name) (sym (get_or_read xs k b inside at_b a))
    ∙ (ap (λ (i : ℕ). nat_lt i b.name) (sym is_m)
    ∙ (ap (λ (j : ℕ). nat_lt m j) (sym is_n)
    ∙ (sym (twice (nat_lt m n)) ∙ ap not (sym (ge ∙ not_less m n))))))))
  where
    twice : (t : Bool) → not (not t) ≡ t
    twice true = refl
    twice false = refl
