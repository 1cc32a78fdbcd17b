-- First lines that are no cookies.
use Rattle.std.proofs.Common.{ℕ, ◌≡◌, ◌<◌, List, [], ◌∷◌, length, Option, Some, None, true, inl, inr, arith}
use Rattle.std.specs.Prelude.{nat_lt, slice_index}
use Rattle.std.specs.List.{AllPass}
use Rattle.std.specs.Str.{IsAscii, IsUtf8}
use Rattle.std.proofs.lemmas.Bool.{and_parts, cases_lt, ltb-true}
use Rattle.std.proofs.lemmas.List.{get_or_past}
use Rattle.std.proofs.lemmas.Str.{IsUtf8-from_ascii}
use Rattle.text_lines.specs.Lines.{BeginsWithLines, LosesLines, TakesLine}
use Rattle.text_lines.specs.declared.lines.Line.{Line}
use Rattle.text_lines.specs.declared.lines.Line.TheVariants.{Text, TooLong}
use Rattle.std.specs.Str.Lines.{lines}
use Rattle.server.specs.Cookies.{IsCookie, is_printable}
use Rattle.cluster_main.specs.Cookies.{HasNoCookie}
use Rattle.cluster_main.specs.declared.cookies.CookieFault.TheVariants.{NoCookie}

printable-low : (b : ℕ) → is_printable b ≡ true → b < 128
printable-low b h = omega (arith, ltb-true b 127 (and_parts (nat_lt 32 b) (nat_lt b 127) h).1)

printable-ascii : (bytes : List ℕ) → AllPass is_printable bytes → IsAscii bytes
printable-ascii bytes all i = elim (cases_lt i (length bytes)) [
  | inl inside ↦ printable-low (slice_index bytes i) (all i 0 inside)
  | inr past ↦ omega (arith, get_or_past bytes i 0 past)
]

-- bytes that are no text are no cookie
pub no_text : (bytes : List ℕ) → (IsUtf8 bytes → ⊥) → IsCookie bytes → ⊥
no_text bytes unread cookie = unread (IsUtf8-from_ascii bytes (printable-ascii bytes cookie.printable))

-- lines that are lost stood first
begins : (old new : Option (List ℕ)) (ls : List (List ℕ)) → LosesLines old new ls → BeginsWithLines old ls
begins None new ls lost = tt
begins (Some xs) None ls lost = absurd lost
begins (Some xs) (Some ys) ls lost = (lines ys, lost)

-- a line that is too long is no cookie
pub too_long : (old new : Option (List ℕ)) (most left : ℕ) (line : Option Line) → TakesLine old new most left line → line ≡ Some TooLong
    → HasNoCookie old NoCookie
too_long old new most left None taken is = cc
too_long old new most left (Some (Text v)) taken is = cc
too_long old new most left (Some TooLong) taken is =
    inr (taken.0, begins old new (taken.0 ∷ []) taken.2, λ cookie. omega (arith, taken.1, cookie.fits))
