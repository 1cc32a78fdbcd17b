-- What is kept of a line while it is read.
use Rattle.std.proofs.Common.{ℕ, Bool, true, false, List, [], ◌∷◌, ◌++◌, ◌≡◌, ◌<◌, ◌≤◌, ◌+◌, ◌-◌, ◌==◌, length, take, min, slice_index, sym, ap, ◌∙◌, arith, append-nil, zero, suc, refl}
use Rattle.std.specs.Prelude.{if◌then◌else◌}
use Rattle.std.proofs.lemmas.List.{take_all, length-take-le}
use Rattle.std.proofs.lemmas.Grind.{common_steps}
use Rattle.term.specs.declared.limits.TheConstants.{LONGEST_LINE}
use Rattle.text_lines.specs.Lines.{line_of}

-- the first bytes of two lists
take-append : (xs : List ℕ) (n : ℕ) (ys : List ℕ) → take n (xs ++ ys) ≡ take n xs ++ take (n - length xs) ys
take-append [] zero ys = refl
take-append [] (suc n) ys =
    let e : suc n ≡ suc n - length {A = ℕ} [] = omega arith in ap (λ (k : ℕ). take k ys) e
take-append (x ∷ xs) zero ys =
    let e : 0 ≡ 0 - length (x ∷ xs) = omega arith in ap (λ (k : ℕ). take k ys) e
take-append (x ∷ xs) (suc n) ys =
    let e : n - length xs ≡ suc n - length (x ∷ xs) = omega arith in
    ap (λ (l : List ℕ). x ∷ l) (take-append xs n ys ∙ ap (λ (k : ℕ). take n xs ++ take k ys) e)

-- more bytes are kept as long as they fit
pub take-extend : (before bytes : List ℕ) (n : ℕ) → n ≡ min (length bytes) (LONGEST_LINE + 1 - length before)
    → take (LONGEST_LINE + 1) before ++ take n bytes ≡ take (LONGEST_LINE + 1) (before ++ bytes)
take-extend before bytes n e = ap (λ (xs : List ℕ). take (LONGEST_LINE + 1) before ++ xs) (fitting n e)
    ∙ sym (take-append before (LONGEST_LINE + 1) bytes)
  where
    fitting : (n : ℕ) → n ≡ min (length bytes) (LONGEST_LINE + 1 - length before) → take n bytes ≡ take (LONGEST_LINE + 1 - length before) bytes
    fitting n e = grind (arith, common_steps)

-- of more bytes the last is the last
pub last-extend : (before bytes : List ℕ) → 0 < length bytes → slice_index (before ++ bytes)
    (length (before ++ bytes) - 1) ≡ slice_index bytes (length bytes - 1)
last-extend before bytes l = grind (arith, common_steps)

-- of no more bytes the last is as before
pub last-same : (before bytes : List ℕ) → length bytes ≤ 0 → slice_index (before ++ bytes)
    (length (before ++ bytes) - 1) ≡ slice_index before (length before - 1)
last-same before [] l = ap (λ (xs : List ℕ). slice_index xs (length xs - 1)) (append-nil before)
last-same before (b ∷ bytes) l = absurd (omega (arith, l))

-- a line is the first of the bytes
pub line_of-take : (e : Bool) (bytes : List ℕ) → line_of e bytes ≡ take (length (line_of e bytes)) bytes
line_of-take false bytes = sym (take_all (length bytes) bytes (omega arith))
line_of-take true bytes = stripped (slice_index bytes (length bytes - 1) == 13)
  where
    stripped : (t : Bool) → (if t then take (length bytes - 1) bytes else bytes)
        ≡ take (length (if t then take (length bytes - 1) bytes else bytes)) bytes
    stripped true = sym (ap (λ (n : ℕ). take n bytes) (length-take-le (length bytes - 1) bytes (omega arith)))
    stripped false = sym (take_all (length bytes) bytes (omega arith))

-- it has at most one byte less
pub length-line_of : (e : Bool) (bytes : List ℕ) → (length (line_of e bytes) ≤ length bytes)
    × (length bytes ≤ length (line_of e bytes) + 1)
length-line_of false bytes = (omega arith, omega arith)
length-line_of true bytes = stripped (slice_index bytes (length bytes - 1) == 13)
  where
    stripped : (t : Bool) → (length (if t then take (length bytes - 1) bytes else bytes) ≤ length bytes)
        × (length bytes ≤ length (if t then take (length bytes - 1) bytes else bytes) + 1)
    stripped true = let n : length (take (length bytes - 1) bytes)
        ≡ length bytes - 1 = length-take-le (length bytes - 1) bytes (omega arith) in (omega arith, omega arith)
    stripped false = (omega arith, omega arith)

-- a short line is the first of what was kept
pub take-kept : (e : Bool) (bytes : List ℕ) (n : ℕ) → n ≡ length (line_of e bytes) → n ≤ LONGEST_LINE → take n (take (LONGEST_LINE + 1) bytes)
    ≡ line_of e bytes
take-kept e bytes n h l =
    let b = length-line_of e bytes in
    ap (λ (xs : List ℕ). take n xs) (take_all (LONGEST_LINE + 1) bytes (omega (arith, b.1))) ∙ ap (λ (k : ℕ). take k bytes) h
    ∙ sym (line_of-take e bytes)
