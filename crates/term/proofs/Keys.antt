-- Texts rise as their keys do, where those differ.
use Rattle.std.proofs.Common.{◌≡◌, ℕ, suc, zero, ◌+◌, ◌*◌, ◌^◌, ◌<◌, ◌≤◌, List, [], ◌∷◌, length, take, get_or, refl, sym, ◌∙◌, arith, ap, nat_eq}
use Rattle.std.proofs.Math.Nat.{pow-succ', pow-le-pow_right, mul_left_comm}
use Rattle.std.proofs.lemmas.Bool.{ne_eqb}
use Rattle.std.specs.Cmp.Lexicographic.{slice_cmp}
use Rattle.std.specs.declared.cmp.Ordering.{Ordering}
use Rattle.std.specs.declared.cmp.Ordering.TheVariants.{Less, Equal, Greater}
use Rattle.std.specs.Ordering.{nat_cmp, ordering_then}
use Rattle.registry_model.specs.Process.{place_in, text_of}
use Rattle.term.specs.Spelling.{IsText}
use Rattle.term.specs.Keys.{key_of}
use Rattle.term.specs.declared.text.TheConstants.{KEY_BYTES}
use Rattle.term.proofs.Places.{AllDigits, place_in-suc, place_in-below, slice_cmp-place_in}
use Rattle.term.proofs.Texts.{AllDigits-text, text_of-injective}

-- the digits of a beginning are digits
AllDigits-take : (k : ℕ) (bs : List ℕ) → AllDigits bs → AllDigits (take k bs)
AllDigits-take zero bs d = tt
AllDigits-take (suc k) [] d = tt
AllDigits-take (suc k) (b ∷ bs) d = (d.0, d.1, AllDigits-take k bs d.2)

-- a beginning isn't longer than it may be
length-take : (k : ℕ) (bs : List ℕ) → length (take k bs) ≤ k
length-take zero bs = omega arith
length-take (suc k) [] = omega arith
length-take (suc k) (b ∷ bs) = let rest : length (take k bs) ≤ k = length-take k bs in omega (arith, rest)

-- one place more has one digit more, the last
pub place_in-next : (k : ℕ) (bs : List ℕ) → place_in (suc k) (take (suc k) bs) ≡ place_in k (take k bs) * 256 + get_or bs k 0
place_in-next zero [] = refl
place_in-next (suc k) [] = refl
place_in-next zero (b ∷ bs) = omega (arith, place_in-suc 0 b [])
place_in-next (suc k) (b ∷ bs) =
    let unit : 256 ^ suc k ≡ 256 * 256 ^ k = pow-succ' 256 k in
    let front : b * (256 * 256 ^ k) ≡ 256 * (b * 256 ^ k) = mul_left_comm b 256 (256 ^ k) in
    rw (place_in-suc (suc k) b (take (suc k) bs), place_in-suc k b (take k bs), place_in-next k bs, unit, front) (omega arith)

-- before its last digit a key has room for one
pub place_in-room : (k b : ℕ) (bs : List ℕ) → IsText bs → k < KEY_BYTES → b < 256 → place_in k (take k bs) * 256 + b < 256 ^ KEY_BYTES
place_in-room k b bs t inside fits =
    let below : place_in k (take k bs) < 256 ^ k =
    place_in-below k (take k bs) (length-take k bs) (AllDigits-take k bs (AllDigits-text bs t)) in
    let unit : 256 ^ suc k ≡ 256 * 256 ^ k = pow-succ' 256 k in
    let more : 256 ^ suc k ≤ 256 ^ KEY_BYTES = pow-le-pow_right {n = 256} (omega arith) {i = suc k} {j = KEY_BYTES} (omega arith) in
    omega (arith, below, unit, more)

-- where beginnings differ they decide
beginnings_decide : (k : ℕ) (xs ys : List ℕ)
    → ordering_then (slice_cmp nat_cmp (take k xs) (take k ys)) (slice_cmp nat_cmp xs ys) ≡ slice_cmp nat_cmp xs ys
beginnings_decide zero xs ys = refl
beginnings_decide (suc k) [] [] = refl
beginnings_decide (suc k) [] (y ∷ ys) = refl
beginnings_decide (suc k) (x ∷ xs) [] = refl
beginnings_decide (suc k) (x ∷ xs) (y ∷ ys) = first (nat_cmp x y) (beginnings_decide k xs ys)
  where
    first : (o : Ordering)
        → ordering_then (slice_cmp nat_cmp (take k xs) (take k ys)) (slice_cmp nat_cmp xs ys) ≡ slice_cmp nat_cmp xs ys
        → ordering_then (ordering_then o (slice_cmp nat_cmp (take k xs) (take k ys))) (ordering_then o (slice_cmp nat_cmp xs ys))
        ≡ ordering_then o (slice_cmp nat_cmp xs ys)
    first Less h = refl
    first Equal h = h
    first Greater h = refl

-- so do keys
pub keys_decide : (xs ys : List ℕ) → IsText xs → IsText ys
    → ordering_then (nat_cmp (key_of xs) (key_of ys)) (slice_cmp nat_cmp xs ys) ≡ slice_cmp nat_cmp xs ys
keys_decide xs ys t u =
    let keys : slice_cmp nat_cmp (take KEY_BYTES xs) (take KEY_BYTES ys) ≡ nat_cmp (key_of xs) (key_of ys) =
    slice_cmp-place_in KEY_BYTES (take KEY_BYTES xs) (take KEY_BYTES ys) (length-take KEY_BYTES xs) (length-take KEY_BYTES ys)
    (AllDigits-take KEY_BYTES xs (AllDigits-text xs t)) (AllDigits-take KEY_BYTES ys (AllDigits-text ys u)) in
    rw (← keys) (beginnings_decide KEY_BYTES xs ys)

-- where two keys differ, their order is the texts'
pub decided : (xs ys : List ℕ) → IsText xs → IsText ys → (k l : ℕ) → k ≡ key_of xs → l ≡ key_of ys
    → (o : Ordering) → o ≡ nat_cmp k l → (o ≡ Equal → ⊥) → o ≡ slice_cmp nat_cmp xs ys
decided xs ys t u k l x y o e differ = go o (e ∙ rw (x, y) refl) differ (keys_decide xs ys t u)
  where
    go : (o : Ordering) → o ≡ nat_cmp (key_of xs) (key_of ys) → (o ≡ Equal → ⊥)
        → ordering_then (nat_cmp (key_of xs) (key_of ys)) (slice_cmp nat_cmp xs ys) ≡ slice_cmp nat_cmp xs ys
        → o ≡ slice_cmp nat_cmp xs ys
    go Less e differ h = ap (λ (o : Ordering). ordering_then o (slice_cmp nat_cmp xs ys)) e ∙ h
    go Greater e differ h = ap (λ (o : Ordering). ordering_then o (slice_cmp nat_cmp xs ys)) e ∙ h
    go Equal e differ h = absurd (differ refl)

-- and the texts differ
pub different : (xs ys : List ℕ) → IsText xs → IsText ys → (k l : ℕ) → k ≡ key_of xs → l ≡ key_of ys → (k ≡ l → ⊥)
    → nat_eq k l ≡ nat_eq (text_of xs) (text_of ys)
different xs ys t u k l x y differ =
    ne_eqb k l differ ∙ sym (ne_eqb (text_of xs) (text_of ys) (λ e. differ (x ∙ (ap key_of (text_of-injective xs ys t u e) ∙ sym y))))
