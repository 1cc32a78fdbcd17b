-- What stands behind the first word of a line.
use Rattle.std.proofs.Common.{tests, ℕ, ◌<◌, ◌≤◌, ◌+◌, ◌-◌, ◌≡◌, ◌∙◌, Bool, true, false, nat_lt, cond, Option, Some, None, List, length, get_or, take, drop, ap, subst, sym, refl, arith, IsUtf8, IsCharBoundary, position, length-drop}
use Rattle.std.specs.List.{position_or_len}
use Rattle.std.proofs.lemmas.List.{get_or-drop, take_all}
use Rattle.std.proofs.lemmas.List.Sums.{passes_at_first}
use Rattle.std.proofs.lemmas.Str.{IsCharBoundary-after_ascii}
use Rattle.text_lines.specs.Words.{is_space}

-- a place that was found is the first, and stands in the list
found_at : (first len place : ℕ) (b : Bool) → nat_lt first len ≡ b → cond b (Some first) None ≡ Some place → (place ≡ first) × (first < len)
found_at first len place true b e = grind (arith, tests)
found_at first len place false b e = grind (arith, tests)

-- the first space stands in the text
space_at : (text : List ℕ) (place : ℕ) → position is_space text ≡ Some place → (place < length text) × (get_or text place 0 ≡ 32)
space_at text place e =
    let found = found_at (position_or_len is_space text) (length text) place _ refl e in
    let passes : is_space (get_or text (position_or_len is_space text) 0) ≡ true = passes_at_first is_space text 0 found.1 in
    (omega (arith, found.0, found.1), rw found.0 (grind (arith, tests)))

-- a line may be cut behind the first space from some place on, where that was looked for in its bytes
pub cut_behind : (line bytes : List ℕ) (start place : ℕ) (found : Option ℕ) → IsUtf8 line → bytes ≡ line → start ≤ length bytes
    → found ≡ position is_space (take (length bytes - start) (drop start bytes)) → found ≡ Some place → IsCharBoundary line (start + place + 1)
cut_behind line bytes start place found u is within looked there =
    let behind : start ≤ length line = subst (λ (b : List ℕ). start ≤ length b) is within in
    let all : take (length bytes - start) (drop start bytes) ≡ drop start bytes =
    take_all (length bytes - start) (drop start bytes) (omega (arith, length-drop start bytes)) in
    let first : position is_space (drop start line) ≡ Some place =
    ap (λ (b : List ℕ). position is_space (drop start b)) (sym is) ∙ (ap (position is_space) (sym all) ∙ (sym looked ∙ there)) in
    let at = space_at (drop start line) place first in
    let inside : start + place < length line = omega (arith, at.0, length-drop start line) in
    let byte : get_or line (start + place) 0 ≡ 32 = sym (get_or-drop start line place 0) ∙ at.1 in
    IsCharBoundary-after_ascii line (start + place) u inside (omega (arith, byte))
