-- What the number of a text says of its bytes.
use Rattle.std.proofs.Common.{◌≡◌, ℕ, ◌<◌, ◌==◌, ◌&&◌, List, [], ◌∷◌, Bool, true, false, refl, sym, ◌∙◌, ap, nat_eq, arith, eq-eqb}
use Rattle.std.proofs.lemmas.Bool.Decides.{nat_tests}
use Rattle.std.proofs.lemmas.List.Sums.{list_all-from_AllPass}
use Rattle.std.specs.Cmp.{unsigned_tied}
use Rattle.std.specs.Cmp.Lexicographic.{slice_cmp, pointwise, texts_ties, bytes_decides}
use Rattle.std.specs.List.{list_all}
use Rattle.std.specs.Ordering.{nat_cmp, is_eq}
use Rattle.registry_model.specs.Process.{text_of}
use Rattle.term.specs.declared.limits.TheConstants.{LONGEST_TEXT}
use Rattle.term.specs.Spelling.{IsText, SpellsText, bytes_of, is_allowed}
use Rattle.term.proofs.Places.{AllDigits, slice_cmp-place_in, digits_in-place_in}

-- an allowed byte is a byte, and not 0
is_allowed-above : (b : ℕ) → is_allowed b ≡ true → 0 < b
is_allowed-above b h = grind (arith, nat_tests)

is_allowed-below : (b : ℕ) → is_allowed b ≡ true → b < 256
is_allowed-below b h = grind (arith, nat_tests)

-- of two tests that hold together each holds
left_of : (a b : Bool) → (a && b) ≡ true → a ≡ true
left_of true b h = refl
left_of false b h = cc

right_of : (a b : Bool) → (a && b) ≡ true → b ≡ true
right_of true b h = h
right_of false b h = cc

-- allowed bytes are digits
AllDigits-allowed : (bs : List ℕ) → list_all is_allowed bs ≡ true → AllDigits bs
AllDigits-allowed [] h = tt
AllDigits-allowed (b ∷ bs) h =
    let b_allowed : is_allowed b ≡ true = left_of (is_allowed b) (list_all is_allowed bs) h in
    let rest : list_all is_allowed bs ≡ true = right_of (is_allowed b) (list_all is_allowed bs) h in
    (is_allowed-above b b_allowed, is_allowed-below b b_allowed, AllDigits-allowed bs rest)

-- the bytes of a text are digits
pub AllDigits-text : (bs : List ℕ) → IsText bs → AllDigits bs
AllDigits-text bs t = AllDigits-allowed bs (list_all-from_AllPass is_allowed bs t.allowed)

-- the order of the numbers is the byte order of the texts
pub nat_cmp-text_of : (xs ys : List ℕ) → IsText xs → IsText ys → nat_cmp (text_of xs) (text_of ys)
    ≡ slice_cmp nat_cmp xs ys
nat_cmp-text_of xs ys t u =
    sym (slice_cmp-place_in LONGEST_TEXT xs ys t.fits u.fits (AllDigits-text xs t) (AllDigits-text ys u))

-- two numbers are equal where the bytes are
pub text_of-eq : (xs ys : List ℕ) → IsText xs → IsText ys → (text_of xs == text_of ys) ≡ pointwise nat_eq xs ys
text_of-eq xs ys t u =
    sym (unsigned_tied (text_of xs) (text_of ys)) ∙ (ap is_eq (nat_cmp-text_of xs ys t u) ∙ sym (texts_ties xs ys))

-- a number is the number of one text
pub text_of-injective : (xs ys : List ℕ) → IsText xs → IsText ys → text_of xs ≡ text_of ys → xs ≡ ys
text_of-injective xs ys t u e =
    (bytes_decides xs ys).0 (sym (text_of-eq xs ys t u) ∙ eq-eqb (text_of xs) (text_of ys) e)

-- the bytes of the number of a text are its bytes
pub bytes_of-text_of : (bs : List ℕ) → IsText bs → bytes_of (text_of bs) ≡ bs
unfolding bytes_of
bytes_of-text_of bs t = digits_in-place_in LONGEST_TEXT bs t.fits (AllDigits-text bs t)

-- a name is spelled by its bytes alone
pub bytes_of-spells : (bs : List ℕ) (v : ℕ) → SpellsText bs v → bytes_of v ≡ bs
bytes_of-spells bs v s = ap bytes_of s.number ∙ bytes_of-text_of bs s.text
