-- Numbers without needless zeros.
use Rattle.std.proofs.Common.{◌≡◌, ◌≢◌, ℕ, zero, suc, ◌≤◌, List, [], ◌∷◌, arith, get_or, Result, Ok, Err, MatchOption, false, ap, sym, ◌∙◌}
use Rattle.std.proofs.lemmas.Fmt.{decimal_digit}
use Rattle.std.specs.Int.{is_in_range}
use Rattle.std.specs.Result.{result_ok}
use Rattle.std.specs.Str.Parse.{ParsesUnsigned}
use Rattle.term.specs.Spelling.{SpellsSerial}
use Rattle.term.proofs.Serials.{is_in_range-serial, serial-read}
use Rattle.command_lines.specs.LockTexts.{SpellsCount}

-- a serial is a number that isn't 0
count_of_serial : (ds : List ℕ) (n : ℕ) → SpellsSerial ds n → SpellsCount ds n
count_of_serial ds n s = record { written = s.written; high = s.high }

-- a number is 0, or a serial
serial_of_count : (ds : List ℕ) (n : ℕ) → SpellsCount ds n → ds ≢ 48 ∷ [] → SpellsSerial ds n
serial_of_count ds zero s some = absurd (some (s.written ∙ decimal_digit 0 (omega arith)))
serial_of_count ds (suc n) s some = record { written = s.written; low = omega arith; high = s.high }

-- 0
pub count_zero : (ds : List ℕ) → ds ≡ 48 ∷ [] → SpellsCount ds 0
count_zero ds e = record { written = e ∙ sym (decimal_digit 0 (omega arith)); high = omega arith }

-- reading digits that begin with one of 1 to 9 gives the number that they spell, or they spell none
pub count_read : {E : Type 0} (ds : List ℕ) (r : Result ℕ E) → ParsesUnsigned 32 10 ds r → 49 ≤ get_or ds 0 0
    → MatchOption (result_ok r) ((n : ℕ) → SpellsCount ds n → ⊥) (SpellsCount ds)
count_read {E = E} ds (Ok x) h first = count_of_serial ds x (serial-read {E = E} ds (Ok x) h first)
count_read {E = E} ds (Err e) h first =
    λ n s. serial-read {E = E} ds (Err e) h first n (serial_of_count ds n s zero_first)
  where
    zero_first : ds ≡ 48 ∷ [] → ⊥
    zero_first z = omega (arith, first, ap (λ (xs : List ℕ). get_or xs 0 0) z)

-- digits that begin otherwise, and aren't 0, spell no number
pub count_none : (ds : List ℕ) → is_in_range 49 57 (get_or ds 0 0) ≡ false → ds ≢ 48 ∷ [] → (n : ℕ)
    → SpellsCount ds n → ⊥
count_none ds e some n s = cc (e, is_in_range-serial ds n (serial_of_count ds n s some))
