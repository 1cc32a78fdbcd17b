-- A text cut at its first space.
use Rattle.std.proofs.Common.{◌≡◌, ◌==◌, ◌+◌, ℕ, ◌<◌, ◌≤◌, List, ◌∷◌, ◌++◌, length, Option, Some, None, MatchOption, Bor, arith, refl, sym, ap, ◌∙◌, get_or, take, drop, true, false, length-append}
use Rattle.std.specs.List.{position_or_len, before_first, after_first}
use Rattle.std.proofs.Math.ListN.{get_or-append}
use Rattle.std.proofs.Math.Seq.{take-append_seam, drop-append-add, get_or-append_seam}
use Rattle.std.proofs.lemmas.Bool.{eqb-true}
use Rattle.std.proofs.lemmas.List.{get_or-take, length-take-le}
use Rattle.std.proofs.lemmas.List.Sums.{position_or_len_is, fails_before_first, split_at_first, passes_at_first}
use Rattle.node_port.specs.Commands.{HasNoSpace, IsCut, HasNoCut}

-- bytes with a space are what stands before it, the space, and what stands behind it
parts : (text : List ℕ) → position_or_len (λ b. b == 32) text < length text
    → text ≡ before_first (λ b. b == 32) text ++ 32 ∷ after_first (λ b. b == 32) text
parts text inside =
    let at : get_or text (position_or_len (λ b. b == 32) text) 0 ≡ 32 = eqb-true _ _ (passes_at_first (λ b. b == 32) text 0 inside) in
    split_at_first (λ b. b == 32) text 0 inside
    ∙ ap (λ (b : ℕ). before_first (λ b. b == 32) text ++ b ∷ after_first (λ b. b == 32) text) at

-- what stands before it has none
before-lacks : (text : List ℕ) → position_or_len (λ b. b == 32) text < length text → HasNoSpace (before_first (λ b. b == 32) text)
before-lacks text inside k d h =
    let place : ℕ = position_or_len (λ b. b == 32) text in
    let long : length (take place text) ≡ place = length-take-le place text (omega (arith, inside)) in
    let within : k < place = omega (arith, h, long) in
    rw (get_or-take place text k d within) (fails_before_first (λ b. b == 32) text k d within)

-- the first space stands right behind bytes that have none
space-at : (front back : List ℕ) → HasNoSpace front → position_or_len (λ b. b == 32) (front ++ 32 ∷ back) ≡ length front
space-at front back lacks =
    position_or_len_is (λ b. b == 32) (front ++ 32 ∷ back) (length front) 0 within before (λ _. at)
  where
    within : length front ≤ length (front ++ 32 ∷ back)
    within = omega (arith, length-append front (32 ∷ back))

    before : (k : ℕ) → k < length front → (get_or (front ++ 32 ∷ back) k 0 == 32) ≡ false
    before k h = rw (get_or-append front (32 ∷ back) 0 k h) (lacks k 0 h)

    at : (get_or (front ++ 32 ∷ back) (length front) 0 == 32) ≡ true
    at = rw (get_or-append_seam front 32 back 0) refl

cut-before : (text front back : List ℕ) → IsCut text front back → before_first (λ b. b == 32) text ≡ front
cut-before text front back c =
    ap (λ (t : List ℕ). before_first (λ b. b == 32) t) c.is
    ∙ (ap (λ (i : ℕ). take i (front ++ 32 ∷ back)) (space-at front back c.first) ∙ take-append_seam front (32 ∷ back))

cut-behind : (text front back : List ℕ) → IsCut text front back → after_first (λ b. b == 32) text ≡ back
cut-behind text front back c =
    ap (λ (t : List ℕ). after_first (λ b. b == 32) t) c.is
    ∙ (ap (λ (i : ℕ). drop (i + 1) (front ++ 32 ∷ back)) (space-at front back c.first) ∙ drop-append-add front (32 ∷ back) 1)

-- a text is cut in one way
pub cut_once : (text front back other behind : List ℕ) → IsCut text front back → IsCut text other behind → (front ≡ other) × (back ≡ behind)
cut_once text front back other behind c d =
    (sym (cut-before text front back c) ∙ cut-before text other behind d, sym (cut-behind text front back c) ∙ cut-behind text other behind d)

-- one without a space isn't cut
uncut : (text : List ℕ) → position_or_len (λ b. b == 32) text ≡ length text → HasNoCut text
uncut text none front back c =
    let at : position_or_len (λ b. b == 32) text ≡ length front =
    ap (λ (t : List ℕ). position_or_len (λ b. b == 32) t) c.is ∙ space-at front back c.first in
    let long : length text ≡ length (front ++ 32 ∷ back) = ap (λ (t : List ℕ). length t) c.is in
    omega (arith, none, at, long, length-append front (32 ∷ back))

pub cut_text : (text : List ℕ) (r : Option (Bor (List ℕ) × Bor (List ℕ)))
    → MatchOption r (position_or_len (λ b. b == 32) text ≡ length text)
    (λ x. (x.0.now ≡ before_first (λ b. b == 32) text) × (x.1.now ≡ after_first (λ b. b == 32) text)
    × (position_or_len (λ b. b == 32) text < length text))
    → MatchOption r (HasNoCut text) (λ x. IsCut text x.0.now x.1.now)
cut_text text None h = uncut text h
cut_text text (Some x) h = rw (h.0, h.1) (record { is = parts text h.2; first = before-lacks text h.2 })
