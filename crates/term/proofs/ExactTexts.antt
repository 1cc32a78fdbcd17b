-- Texts are spelled and refused exactly.
use Rattle.std.proofs.Common.{◌≡◌, ℕ, ◌<◌, ◌⊎◌, inl, inr, List, length, Bool, true, false, not, arith, sym, ◌∙◌, ap, refl, get_or, take}
use Rattle.std.proofs.lemmas.Bool.{cases_lt}
use Rattle.std.proofs.lemmas.List.{get_or-take, length-take-le}
use Rattle.std.proofs.lemmas.List.Sums.{fails_before_first, passes_at_first}
use Rattle.std.specs.List.{AllPass, position_or_len}
use Rattle.registry_model.specs.Process.{text_of}
use Rattle.term.specs.declared.limits.TheConstants.{LONGEST_TEXT}
use Rattle.term.specs.declared.faults.TextFault.{TextFault}
use Rattle.term.specs.declared.faults.TextFault.TheVariants.{Empty, TooLong, BadByte, BadCreation, BadSerial, BadRule, TooManyNodes}
use Rattle.term.specs.Laws.{IsExact, KeepsByteOrder}
use Rattle.term.specs.Spelling.{IsText, IsFirstBad, SpellsText, RefusesText, is_allowed}
use Rattle.term.proofs.Texts.{nat_cmp-text_of, text_of-injective}

-- a text spells one name
pub one_value : (bytes : List ℕ) (v w : ℕ) → SpellsText bytes v → SpellsText bytes w → v ≡ w
one_value bytes v w s u = s.number ∙ sym u.number

-- a name has one text
pub one_text : (bytes others : List ℕ) (v : ℕ) → SpellsText bytes v → SpellsText others v → bytes ≡ others
one_text bytes others v s u = text_of-injective bytes others s.text u.text (sym s.number ∙ u.number)

-- no byte before the first bad one is bad
good_before : (bytes : List ℕ) (p k : ℕ) → IsFirstBad bytes p → k < p → is_allowed (get_or bytes k 0) ≡ true
good_before bytes p k bad below =
    let long : length (take p bytes) ≡ p = length-take-le p bytes (omega (arith, bad.inside)) in
    sym (ap is_allowed (get_or-take p bytes k 0 below)) ∙ bad.before k 0 (omega arith)

-- there is one first bad byte
first_bad-unique : (bytes : List ℕ) (p q : ℕ) → IsFirstBad bytes p → IsFirstBad bytes q → p ≡ q
first_bad-unique bytes p q at_p at_q =
    elim (cases_lt p q) [
      | inl below ↦ cc (good_before bytes q p at_q below, at_p.bad)
      | inr above ↦ elim (cases_lt q p) [
        | inl over ↦ cc (good_before bytes p q at_p over, at_q.bad)
        | inr same ↦ omega arith
      ]
    ]

-- a text that spells a name is refused for no fault
pub never_both : (bytes : List ℕ) (v : ℕ) (f : TextFault) → SpellsText bytes v → RefusesText bytes f → ⊥
never_both bytes v Empty s r = omega (arith, s.text.some, r)
never_both bytes v TooLong s r = omega (arith, s.text.fits, r)
never_both bytes v (BadByte p) s r = cc (s.text.allowed p 0 r.1.inside, r.1.bad)
never_both bytes v BadCreation s r = r
never_both bytes v BadSerial s r = r
never_both bytes v TooManyNodes s r = r
never_both bytes v BadRule s r = r

-- a text is refused for no fault
pub text-refused : (bytes : List ℕ) (f : TextFault) → IsText bytes → RefusesText bytes f → ⊥
text-refused bytes f t r = never_both bytes (text_of bytes) f (record { text = t; number = refl }) r

-- a text is refused for one fault
pub one_fault : (bytes : List ℕ) (f g : TextFault) → RefusesText bytes f → RefusesText bytes g → f ≡ g
one_fault bytes Empty Empty r t = refl
one_fault bytes TooLong TooLong r t = refl
one_fault bytes (BadByte p) (BadByte q) r t = ap BadByte (first_bad-unique bytes p q r.1 t.1)
one_fault bytes Empty TooLong r t = absurd (omega (arith, r, t))
one_fault bytes TooLong Empty r t = absurd (omega (arith, r, t))
one_fault bytes Empty (BadByte q) r t = absurd (omega (arith, r, t.1.inside))
one_fault bytes (BadByte p) Empty r t = absurd (omega (arith, t, r.1.inside))
one_fault bytes TooLong (BadByte q) r t = absurd (omega (arith, r, t.0))
one_fault bytes (BadByte p) TooLong r t = absurd (omega (arith, t, r.0))
one_fault bytes BadCreation g r t = absurd r
one_fault bytes Empty BadCreation r t = absurd t
one_fault bytes TooLong BadCreation r t = absurd t
one_fault bytes (BadByte p) BadCreation r t = absurd t
one_fault bytes BadSerial g r t = absurd r
one_fault bytes Empty BadSerial r t = absurd t
one_fault bytes TooLong BadSerial r t = absurd t
one_fault bytes (BadByte p) BadSerial r t = absurd t
one_fault bytes TooManyNodes g r t = absurd r
one_fault bytes BadRule g r t = absurd r
one_fault bytes Empty TooManyNodes r t = absurd t
one_fault bytes Empty BadRule r t = absurd t
one_fault bytes TooLong TooManyNodes r t = absurd t
one_fault bytes TooLong BadRule r t = absurd t
one_fault bytes (BadByte p) TooManyNodes r t = absurd t
one_fault bytes (BadByte p) BadRule r t = absurd t

-- whether a byte is bad
abbrev is_bad : ℕ → Bool
is_bad b = not (is_allowed b)

-- a byte that is not bad is allowed, and a bad one is not
good : (x : Bool) → not x ≡ false → x ≡ true
good true h = refl
good false h = cc

bad : (x : Bool) → not x ≡ true → x ≡ false
bad true h = cc
bad false h = refl

-- a byte is bad, or all are allowed
first_bad-search : (bytes : List ℕ) → AllPass is_allowed bytes ⊎ ((p : ℕ) × IsFirstBad bytes p)
first_bad-search bytes =
    elim (cases_lt (position_or_len is_bad bytes) (length bytes)) [
      | inl inside ↦ inr (
        position_or_len is_bad bytes,
        record {
          inside = inside;
          before = λ k d h.
              let long : length (take (position_or_len is_bad bytes) bytes) ≡ position_or_len is_bad bytes =
              length-take-le (position_or_len is_bad bytes) bytes (omega (arith, inside)) in
              let below : k < position_or_len is_bad bytes = omega (arith, long, h) in
              ap is_allowed (get_or-take (position_or_len is_bad bytes) bytes k d below)
              ∙ good (is_allowed (get_or bytes k d)) (fails_before_first is_bad bytes k d below);
          bad = bad (is_allowed (get_or bytes (position_or_len is_bad bytes) 0))
              (passes_at_first is_bad bytes 0 inside);
        },
      )
      | inr outside ↦ inl (λ k d h.
          good (is_allowed (get_or bytes k d)) (fails_before_first is_bad bytes k d (omega (arith, outside, h))))
    ]

-- each text spells a name or is refused
pub always_either : (bytes : List ℕ) → ((v : ℕ) × SpellsText bytes v) ⊎ ((f : TextFault) × RefusesText bytes f)
always_either bytes =
    elim (cases_lt 0 (length bytes)) [
      | inr none ↦ inr (Empty, omega (arith, none))
      | inl some ↦ elim (cases_lt LONGEST_TEXT (length bytes)) [
        | inl over ↦ inr (TooLong, over)
        | inr fits ↦ elim (first_bad-search bytes) [
          | inl allowed ↦ inl (
            text_of bytes,
            record {
              text = record { some = some; fits = fits; allowed = allowed };
              number = refl;
            },
          )
          | inr found ↦ inr (BadByte found.0, (fits, found.1))
        ]
      ]
    ]

-- names are spelled exactly
pub exact_texts : IsExact SpellsText RefusesText
exact_texts = record {
  one_value = one_value;
  one_text = one_text;
  one_fault = one_fault;
  never_both = never_both;
  always_either = always_either;
}

-- the order of names is the byte order of their texts
pub byte_order : KeepsByteOrder
byte_order bytes others v w s u = rw (s.number, u.number) (nat_cmp-text_of bytes others s.text u.text)
