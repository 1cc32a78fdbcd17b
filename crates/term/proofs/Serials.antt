-- The digits of a serial, and what reading them gives.
use Rattle.std.proofs.Common.{◌≡◌, ◌≢◌, ℕ, zero, suc, ◌^◌, ◌<◌, ◌≤◌, List, [], ◌∷◌, length, Bool, true, false, arith, sym, ◌∙◌, refl, get_or, Result, Ok, Err, MatchOption, ◌⊎◌, inl, inr}
use Rattle.std.proofs.lemmas.Fmt.{decimal-digits_value, decimal_digit, decimal_nonempty, digits_decimal, digits_value-decimal, first_decimal, decimal_injective}
use Rattle.std.proofs.lemmas.Str.Parse.{IsNumeralModel, numerals_by_value, tells_all_ascii_digits, tells_digits, digit_at, parse_plain}
use Rattle.std.proofs.lemmas.Bool.{cases_lt}
use Rattle.std.proofs.lemmas.Bool.Decides.{nat_tests}
use Rattle.std.specs.Fmt.{decimal}
use Rattle.std.specs.Int.{is_in_range}
use Rattle.std.specs.Result.{result_ok}
use Rattle.std.specs.Str.{all_ascii_digits}
use Rattle.std.specs.Str.Parse.{AllDigits, digits_value, ParsesUnsigned}
use Rattle.term.specs.Spelling.{SpellsSerial}

-- the words that are read here as digits and their value
pub digits_model : IsNumeralModel (AllDigits 10) (digits_value 10)
digits_model = numerals_by_value (AllDigits 10) tells_digits

-- a serial takes 32 bits
serial-small : (ds : List ℕ) (n : ℕ) → SpellsSerial ds n → n < 2 ^ 64
serial-small ds n s = omega (arith, s.high)

-- its digits begin with one of 1 to 9
pub serial-first : (ds : List ℕ) (n : ℕ) → SpellsSerial ds n → (49 ≤ get_or ds 0 0) × (get_or ds 0 0 ≤ 57)
serial-first ds n s =
    let small : n < 2 ^ 64 = serial-small ds n s in
    let digit = digit_at (decimal n) 0 (digits_decimal digits_model n small) (decimal_nonempty n small) in
    rw (s.written) (first_decimal n s.low small, digit.1)

-- a digit from 1 on
pub is_in_range-low : (b : ℕ) → is_in_range 49 57 b ≡ true → 49 ≤ b
is_in_range-low b h = grind (arith, nat_tests)

-- a number that is a digit from 1 on is seen as one
is_in_range-digit : (b : ℕ) → 49 ≤ b → b ≤ 57 → is_in_range 49 57 b ≡ true
is_in_range-digit b low high = grind (arith, nat_tests)

-- the first digit of a serial is one from 1 on
pub is_in_range-serial : (ds : List ℕ) (n : ℕ) → SpellsSerial ds n → is_in_range 49 57 (get_or ds 0 0) ≡ true
is_in_range-serial ds n s = let first = serial-first ds n s in is_in_range-digit (get_or ds 0 0) first.0 first.1

-- digits spell one serial
pub serial-unique : (ds : List ℕ) (m n : ℕ) → SpellsSerial ds m → SpellsSerial ds n → m ≡ n
serial-unique ds m n s t = decimal_injective m n (serial-small ds m s) (serial-small ds n t) (sym s.written ∙ t.written)

-- no digits but those of 0 begin with 0
serial-low : (n : ℕ) (ds : List ℕ) → ds ≡ decimal n → 49 ≤ get_or ds 0 0 → 1 ≤ n
serial-low (suc n) ds written first = omega arith
serial-low zero ds written first =
    let zeros : ds ≡ 48 ∷ [] = written ∙ decimal_digit 0 (omega arith) in
    let at : get_or ds 0 0 ≡ 48 = rw zeros refl in
    absurd (omega arith)

-- digits that begin with one of 1 to 9 spell their value, if it takes 32 bits
serial-digits : (ds : List ℕ) → AllDigits 10 ds → 0 < length ds → 49 ≤ get_or ds 0 0 → digits_value 10 ds < 2 ^ 32
    → SpellsSerial ds (digits_value 10 ds)
serial-digits ds all some first fits =
    let small : digits_value 10 ds < 2 ^ 64 = omega (arith, fits) in
    let no_zero : get_or ds 0 0 ≢ 48 = λ e. omega (arith, e, first) in
    let written : ds ≡ decimal (digits_value 10 ds) =
    sym (decimal-digits_value digits_model ds all some (λ e. absurd (no_zero e)) small) in
    record { written = written; low = serial-low (digits_value 10 ds) ds written first; high = fits }

-- what spells a serial is all digits, and the serial is their value
serial-value : (ds : List ℕ) (n : ℕ) → SpellsSerial ds n → AllDigits 10 ds × (0 < length ds)
    × (digits_value 10 ds < 2 ^ 32)
serial-value ds n s =
    let small : n < 2 ^ 64 = serial-small ds n s in
    let value : digits_value 10 (decimal n) < 2 ^ 32 = rw (digits_value-decimal digits_model n small) (s.high) in
    rw (s.written) (digits_decimal digits_model n small, decimal_nonempty n small, value)

-- reading digits that begin with one of 1 to 9 gives the serial that they spell, or they spell none
pub serial-read : {E : Type 0} (ds : List ℕ) (r : Result ℕ E) → ParsesUnsigned 32 10 ds r → 49 ≤ get_or ds 0 0
    → MatchOption (result_ok r) ((n : ℕ) → SpellsSerial ds n → ⊥) (SpellsSerial ds)
serial-read {E = E} ds (Ok x) h first =
    let no_plus : get_or ds 0 0 ≢ 43 = λ e. omega (arith, e, first) in
    let read = parse_plain digits_model {E = E} 32 ds (Ok x) h no_plus in
    rw (read.1) (serial-digits ds read.0.0 read.0.1 first read.0.2)
serial-read {E = E} ds (Err e) h first =
    let no_plus : get_or ds 0 0 ≢ 43 = λ e. omega (arith, e, first) in
    λ n s. parse_plain digits_model {E = E} 32 ds (Err e) h no_plus (serial-value ds n s)

-- the same model, with a test for digits
digits_test : IsNumeralModel (λ ds. all_ascii_digits ds ≡ true) (digits_value 10)
digits_test = numerals_by_value (λ ds. all_ascii_digits ds ≡ true) tells_all_ascii_digits

-- digits spell a serial or none
pub serial-search : (ds : List ℕ) → ((n : ℕ) × SpellsSerial ds n) ⊎ ((n : ℕ) → SpellsSerial ds n → ⊥)
serial-search ds = tested (all_ascii_digits ds) refl
  where
    tested : (t : Bool) → all_ascii_digits ds ≡ t → ((n : ℕ) × SpellsSerial ds n) ⊎ ((n : ℕ) → SpellsSerial ds n → ⊥)
    tested false e = inr (λ n s. cc (digits_test.from ds (serial-value ds n s).0, e))
    tested true e =
        elim (cases_lt 0 (length ds)) [
          | inr none ↦ inr (λ n s. omega (arith, none, (serial-value ds n s).1))
          | inl some ↦ elim (cases_lt (get_or ds 0 0) 49) [
            | inl low ↦ inr (λ n s. omega (arith, low, (serial-first ds n s).0))
            | inr first ↦ elim (cases_lt (digits_value 10 ds) (2 ^ 32)) [
              | inr large ↦ inr (λ n s. omega (arith, large, (serial-value ds n s).2))
              | inl fits ↦ inl (digits_value 10 ds, serial-digits ds (digits_test.to ds e) some first fits)
            ]
          ]
        ]
