-- The digits of a number, and what reading them gives.
use Rattle.std.proofs.Common.{◌≡◌, ◌≢◌, ℕ, zero, suc, ◌^◌, ◌<◌, ◌≤◌, List, [], ◌∷◌, length, true, false, arith, sym, ◌∙◌, get_or, Result, Ok, Err, MatchOption}
use Rattle.std.proofs.lemmas.Fmt.{decimal-digits_value, decimal_digit, decimal_nonempty, digits_decimal, digits_value-decimal, first_decimal}
use Rattle.std.proofs.lemmas.Str.Parse.{digit_at, parse_plain}
use Rattle.std.proofs.lemmas.Bool.{true≢false}
use Rattle.std.proofs.lemmas.Bool.Decides.{nat_tests}
use Rattle.std.specs.Fmt.{decimal}
use Rattle.std.specs.Int.{is_in_range}
use Rattle.std.specs.Result.{result_ok}
use Rattle.std.specs.Str.Parse.{AllDigits, digits_value, ParsesUnsigned}
use Rattle.term.proofs.Serials.{digits_model}
use Rattle.node_port.specs.Numbers.{SpellsNumber}

-- 0
pub nought : (ds : List ℕ) → ds ≡ 48 ∷ [] → SpellsNumber ds 0
nought ds e = record { written = e ∙ sym (decimal_digit 0 (omega arith)); high = omega arith }

-- one of 1 to 9 is seen as one
is_in_range-digit : (b : ℕ) → 49 ≤ b → b ≤ 57 → is_in_range 49 57 b ≡ true
is_in_range-digit b low high = grind (arith, nat_tests)

-- what spells a greater number than 0 begins with one of 1 to 9
begins : (ds : List ℕ) (n : ℕ) → SpellsNumber ds (suc n) → is_in_range 49 57 (get_or ds 0 0) ≡ true
begins ds n s =
    let digit = digit_at (decimal (suc n)) 0 (digits_decimal digits_model (suc n) s.high) (decimal_nonempty (suc n) s.high) in
    rw (s.written) (is_in_range-digit (get_or (decimal (suc n)) 0 0) (first_decimal (suc n) (omega arith) s.high) digit.1)

-- what spells a number is 0, or begins with one of 1 to 9
pub is_nought : (ds : List ℕ) (n : ℕ) → SpellsNumber ds n → is_in_range 49 57 (get_or ds 0 0) ≡ false → ds ≡ 48 ∷ []
is_nought ds zero s other = s.written ∙ decimal_digit 0 (omega arith)
is_nought ds (suc n) s other = absurd (true≢false (sym (begins ds n s) ∙ other))

-- digits that begin with one of 1 to 9 spell their value, if it takes 64 bits
number-digits : (ds : List ℕ) → AllDigits 10 ds → 0 < length ds → 49 ≤ get_or ds 0 0 → digits_value 10 ds < 2 ^ 64
    → SpellsNumber ds (digits_value 10 ds)
number-digits ds all some first fits =
    let no_zero : get_or ds 0 0 ≢ 48 = λ e. omega (arith, e, first) in
    record { written = sym (decimal-digits_value digits_model ds all some (λ e. absurd (no_zero e)) fits); high = fits }

-- what spells a number is all digits, and the number is their value
number-value : (ds : List ℕ) (n : ℕ) → SpellsNumber ds n → AllDigits 10 ds × (0 < length ds) × (digits_value 10 ds < 2 ^ 64)
number-value ds n s =
    let value : digits_value 10 (decimal n) < 2 ^ 64 = rw (digits_value-decimal digits_model n s.high) (s.high) in
    rw (s.written) (digits_decimal digits_model n s.high, decimal_nonempty n s.high, value)

-- reading digits that begin with one of 1 to 9 gives the number that they spell, or they spell none
pub number-read : {E : Type 0} (ds : List ℕ) (r : Result ℕ E) → ParsesUnsigned 64 10 ds r → 49 ≤ get_or ds 0 0
    → MatchOption (result_ok r) ((n : ℕ) → SpellsNumber ds n → ds ≡ 48 ∷ []) (SpellsNumber ds)
number-read {E = E} ds (Ok x) h first =
    let no_plus : get_or ds 0 0 ≢ 43 = λ e. omega (arith, e, first) in
    let read = parse_plain digits_model {E = E} 64 ds (Ok x) h no_plus in
    rw (read.1) (number-digits ds read.0.0 read.0.1 first read.0.2)
number-read {E = E} ds (Err e) h first =
    let no_plus : get_or ds 0 0 ≢ 43 = λ e. omega (arith, e, first) in
    λ n s. absurd (parse_plain digits_model {E = E} 64 ds (Err e) h no_plus (number-value ds n s))
