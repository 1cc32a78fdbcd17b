-- The first separator in a text: what stands before it, and what stands behind it.
use Rattle.std.proofs.Common.{◌≡◌, ℕ, ◌+◌, ◌<◌, ◌≤◌, ◌==◌, List, ◌∷◌, ◌++◌, length, true, false, arith, ◌∙◌, ap, refl, get_or, drop, take, length-append}
use Rattle.std.proofs.Math.ListN.{get_or-append}
use Rattle.std.proofs.Math.Seq.{take-append_seam, drop-append-add, get_or-append_seam}
use Rattle.std.proofs.lemmas.List.{take_all}
use Rattle.std.proofs.lemmas.Bool.{eq-eqb, ne_eqb, eqb-true}
use Rattle.std.proofs.lemmas.List.Sums.{position_or_len_is, split_at_first, passes_at_first}
use Rattle.std.specs.List.{All, position_or_len, before_first, after_first}
use Rattle.term.specs.Spelling.{IsText, is_allowed}

-- the separator is none of the bytes
abbrev pub Lacks : ℕ → List ℕ → Type 0
Lacks s bytes = All (λ b. (b == s) ≡ false) bytes

-- a text lacks a byte that is not allowed
pub Lacks-text : (s : ℕ) (bytes : List ℕ) → is_allowed s ≡ false → IsText bytes → Lacks s bytes
Lacks-text s bytes banned t k d inside =
    ne_eqb _ _ (λ e. cc (t.allowed k d inside, ap is_allowed e, banned))

-- the first separator stands right behind bytes that lack it
pub position-parts : (s : ℕ) (front behind : List ℕ) → Lacks s front → position_or_len (λ b. b == s) (front ++ s ∷ behind)
    ≡ length front
position-parts s front behind lacks =
    position_or_len_is (λ b. b == s) (front ++ s ∷ behind) (length front) 0 within before (λ _. at)
  where
    within : length front ≤ length (front ++ s ∷ behind)
    within = omega (arith, length-append front (s ∷ behind))

    before : (k : ℕ) → k < length front → (get_or (front ++ s ∷ behind) k 0 == s) ≡ false
    before k h = rw (get_or-append front (s ∷ behind) 0 k h) (lacks k 0 h)

    at : (get_or (front ++ s ∷ behind) (length front) 0 == s) ≡ true
    at = rw (get_or-append_seam front s behind 0) (eq-eqb s s refl)

-- the part before it is these bytes
pub front-parts : (s : ℕ) (front behind : List ℕ) → Lacks s front → before_first (λ b. b == s) (front ++ s ∷ behind)
    ≡ front
front-parts s front behind lacks =
    ap (λ (i : ℕ). take i (front ++ s ∷ behind)) (position-parts s front behind lacks)
    ∙ take-append_seam front (s ∷ behind)

-- the part behind it is the rest
pub behind-parts : (s : ℕ) (front behind : List ℕ) → Lacks s front → after_first (λ b. b == s) (front ++ s ∷ behind)
    ≡ behind
behind-parts s front behind lacks =
    ap (λ (i : ℕ). drop (i + 1) (front ++ s ∷ behind)) (position-parts s front behind lacks)
    ∙ drop-append-add front (s ∷ behind) 1

-- where there is none, the part before it is the whole
pub front-whole : (s : ℕ) (bytes : List ℕ) → length bytes ≤ position_or_len (λ b. b == s) bytes
    → before_first (λ b. b == s) bytes ≡ bytes
front-whole s bytes none = take_all (position_or_len (λ b. b == s) bytes) bytes none

-- bytes that lack it have none
pub position-whole : (s : ℕ) (bytes : List ℕ) → Lacks s bytes → position_or_len (λ b. b == s) bytes ≡ length bytes
position-whole s bytes lacks =
    position_or_len_is (λ b. b == s) bytes (length bytes) 0 (omega arith) (λ k h. lacks k 0 h)
    (λ h. absurd (omega (arith, h)))

-- bytes with one are what stands before it, the separator, and what stands behind it
pub parts-split : (s : ℕ) (bytes : List ℕ) → position_or_len (λ b. b == s) bytes < length bytes
    → bytes ≡ before_first (λ b. b == s) bytes ++ s ∷ after_first (λ b. b == s) bytes
parts-split s bytes inside =
    let at : get_or bytes (position_or_len (λ b. b == s) bytes) 0
    ≡ s = eqb-true _ _ (passes_at_first (λ b. b == s) bytes 0 inside) in
    split_at_first (λ b. b == s) bytes 0 inside
    ∙ ap (λ (b : ℕ). before_first (λ b. b == s) bytes ++ b ∷ after_first (λ b. b == s) bytes) at
