-- The number of a text rises as its bytes do, so equality and order of numbers are equality and byte order of texts.
use Rattle.std.proofs.Common.{◌≡◌, ℕ, suc, zero, ◌+◌, ◌-◌, ◌*◌, ◌^◌, ◌<◌, ◌≤◌, List, [], ◌∷◌, length, refl, arith, ap, ◌==◌, false}
use Rattle.std.proofs.Math.Nat.{mul-le-mul_right, suc-mul, pow-succ', one-le-pow}
use Rattle.std.proofs.lemmas.Bool.{ne_eqb}
use Rattle.std.proofs.lemmas.Nat.{div-mul-add, mod-mul-add}
use Rattle.std.proofs.lemmas.Cmp.{ranked}
use Rattle.std.specs.Cmp.{nat_cmp_is}
use Rattle.std.specs.Cmp.Lexicographic.{slice_cmp}
use Rattle.std.specs.declared.cmp.Ordering.{Ordering}
use Rattle.std.specs.declared.cmp.Ordering.TheVariants.{Less, Equal, Greater}
use Rattle.std.specs.Ordering.{nat_cmp, ordering_then}
use Rattle.term.specs.Spelling.{digits_in}
use Rattle.registry_model.specs.Process.{place_in}

-- each is a byte, and none is 0
abbrev pub AllDigits : List ℕ → Type 0
AllDigits [] = Unit {0}
AllDigits (b ∷ bs) = (0 < b) × (b < 256) × AllDigits bs

-- what stands behind a lesser digit is below what stands behind a greater one
lesser_digit : (unit b c p q : ℕ) → b < c → p < unit → b * unit + p < c * unit + q
lesser_digit unit b c p q below fits =
    let next : suc b * unit ≤ c * unit = mul-le-mul_right unit below in
    let grown : suc b * unit ≡ b * unit + unit = suc-mul b unit in
    omega (arith, next, grown)

-- the number of a text in one place more
pub place_in-suc : (k b : ℕ) (bs : List ℕ) → place_in (suc k) (b ∷ bs) ≡ b * 256 ^ k + place_in k bs
place_in-suc k b bs = let drops : suc k - 1 ≡ k = omega arith in rw drops refl

-- bytes as digits behind a point stay below the unit
pub place_in-below : (k : ℕ) (bs : List ℕ) → length bs ≤ k → AllDigits bs → place_in k bs < 256 ^ k
place_in-below k [] fits d = one-le-pow k 256 (omega arith)
place_in-below zero (b ∷ bs) fits d = absurd (omega arith)
place_in-below (suc k) (b ∷ bs) fits d =
    let rest : place_in k bs < 256 ^ k = place_in-below k bs (omega arith) d.2 in
    let below : b * 256 ^ k + place_in k bs < 256 * 256 ^ k + 0 = lesser_digit (256 ^ k) b 256 (place_in k bs) 0 d.1
    rest in
    let unit : 256 ^ suc k ≡ 256 * 256 ^ k = pow-succ' 256 k in
    omega (arith, place_in-suc k b bs, below, unit)

-- a text that has a byte is above nothing
place_in-above : (k b : ℕ) (bs : List ℕ) → 0 < b → 0 < place_in (suc k) (b ∷ bs)
place_in-above k b bs some =
    let unit : 1 ≤ 256 ^ k = one-le-pow k 256 (omega arith) in
    let front : 1 * 256 ^ k ≤ b * 256 ^ k = mul-le-mul_right (256 ^ k) some in
    omega (arith, place_in-suc k b bs, unit, front)

-- the first digit decides, and else the rest
digits_decide : (unit x y p q : ℕ) → p < unit → q < unit → (r : Ordering) → r ≡ nat_cmp x y
    → ordering_then r (nat_cmp p q) ≡ nat_cmp (x * unit + p) (y * unit + q)
digits_decide unit x y p q p_fits q_fits Less e =
    nat_cmp_is (x * unit + p) (y * unit + q) Less (lesser_digit unit x y p q (ranked x y Less e) p_fits)
digits_decide unit x y p q p_fits q_fits Greater e =
    nat_cmp_is (x * unit + p) (y * unit + q) Greater (lesser_digit unit y x q p (ranked x y Greater e) q_fits)
digits_decide unit x y p q p_fits q_fits Equal e =
    rw (ranked x y Equal e) (shifted (y * unit) p q (nat_cmp p q) refl)
  where
    shifted : (s p q : ℕ) (r : Ordering) → r ≡ nat_cmp p q → r ≡ nat_cmp (s + p) (s + q)
    shifted s p q Less e = let h : p < q = ranked p q Less e in nat_cmp_is (s + p) (s + q) Less (omega arith)
    shifted s p q Equal e = let h : p ≡ q = ranked p q Equal e in nat_cmp_is (s + p) (s + q) Equal (omega arith)
    shifted s p q Greater e = let h : q < p = ranked p q Greater e in nat_cmp_is (s + p) (s + q) Greater (omega arith)

-- the order of the numbers is the byte order of the texts
pub slice_cmp-place_in : (k : ℕ) (xs ys : List ℕ) → length xs ≤ k → length ys ≤ k → AllDigits xs → AllDigits ys
    → slice_cmp nat_cmp xs ys ≡ nat_cmp (place_in k xs) (place_in k ys)
slice_cmp-place_in k [] [] xs_fit ys_fit xs_digits ys_digits = refl
slice_cmp-place_in zero [] (y ∷ ys) xs_fit ys_fit xs_digits ys_digits = absurd (omega arith)
slice_cmp-place_in zero (x ∷ xs) ys xs_fit ys_fit xs_digits ys_digits = absurd (omega arith)
slice_cmp-place_in (suc k) [] (y ∷ ys) xs_fit ys_fit xs_digits ys_digits =
    nat_cmp_is 0 (place_in (suc k) (y ∷ ys)) Less (place_in-above k y ys ys_digits.0)
slice_cmp-place_in (suc k) (x ∷ xs) [] xs_fit ys_fit xs_digits ys_digits =
    nat_cmp_is (place_in (suc k) (x ∷ xs)) 0 Greater (place_in-above k x xs xs_digits.0)
slice_cmp-place_in (suc k) (x ∷ xs) (y ∷ ys) xs_fit ys_fit xs_digits ys_digits =
    rw (
      place_in-suc k x xs,
      place_in-suc k y ys,
      slice_cmp-place_in k xs ys (omega arith) (omega arith) xs_digits.2
          ys_digits.2,
    )
    (digits_decide (256 ^ k) x y (place_in k xs) (place_in k ys) (place_in-below k xs (omega arith) xs_digits.2)
    (place_in-below k ys (omega arith) ys_digits.2) (nat_cmp x y) refl)

-- the digits of the number of a text are its bytes
pub digits_in-place_in : (k : ℕ) (bs : List ℕ) → length bs ≤ k → AllDigits bs → digits_in k (place_in k bs) ≡ bs
digits_in-place_in zero [] fits d = refl
digits_in-place_in (suc k) [] fits d = refl
digits_in-place_in zero (b ∷ bs) fits d = absurd (omega arith)
digits_in-place_in (suc k) (b ∷ bs) fits d =
    let rest : place_in k bs < 256 ^ k = place_in-below k bs (omega arith) d.2 in
    let some : (b * 256 ^ k + place_in k bs == 0) ≡ false =
    ne_eqb _ _ (λ e. omega (arith, e, place_in-suc k b bs, place_in-above k b bs d.0)) in
    rw (
      place_in-suc k b bs,
      some,
      div-mul-add b (256 ^ k) (place_in k bs) rest,
      mod-mul-add b (256 ^ k) (place_in k bs) rest,
    )
    (ap (λ (rs : List ℕ). b ∷ rs) (digits_in-place_in k bs (omega arith) d.2))
