-- Words and the first space of a text.
use Rattle.std.proofs.Common.{tests, ℕ, ◌<◌, ◌+◌, ◌≡◌, ◌∙◌, Bool, true, false, nat_lt, cond, Some, None, List, [], ◌∷◌, ◌++◌, length, get_or, ap, sym, refl, arith, IsUtf8, IsCharBoundary, position, filter, append_assoc, ltb-true, lt-ltb, ltb-false, not}
use Rattle.std.specs.List.{position_or_len, before_first, after_first, slice_split}
use Rattle.std.proofs.lemmas.List.{take_all, drop_all, append-nil}
use Rattle.std.proofs.lemmas.List.Elements.{filter-append}
use Rattle.std.proofs.lemmas.List.Splits.{slice_split_first, slice_split_none}
use Rattle.std.proofs.lemmas.List.Sums.{passes_at_first, fails_before_first, prefix_len-le-length}
use Rattle.std.proofs.lemmas.Str.{IsCharBoundary-before_ascii, IsCharBoundary-after_ascii}
use Rattle.text_lines.specs.Words.{words, is_space, is_word}

-- a place that was found is the first, and stands in the list
found_at : (first len place : ℕ) (b : Bool) → nat_lt first len ≡ b → cond b (Some first) None ≡ Some place → (place ≡ first) × (first < len)
found_at first len place true b e = grind (arith, tests)
found_at first len place false b e = grind (arith, tests)

-- the first space stands in the text
space_at : (text : List ℕ) (place : ℕ) → position is_space text ≡ Some place → (place < length text) × (get_or text place 0 ≡ 32)
space_at text place e =
    let found = found_at (position_or_len is_space text) (length text) place _ refl e in
    let passes : is_space (get_or text (position_or_len is_space text) 0) ≡ true = passes_at_first is_space text 0 found.1 in
    (omega (arith, found.0, found.1), rw found.0 (grind (arith, tests)))

-- a text may be cut before it
pub cut_before : (text : List ℕ) (place : ℕ) → position is_space text ≡ Some place → IsCharBoundary text place
cut_before text place e =
    let at = space_at text place e in
    IsCharBoundary-before_ascii text place at.0 (omega (arith, at.1))

-- and behind it
pub cut_behind : (text : List ℕ) (place : ℕ) → IsUtf8 text → position is_space text ≡ Some place → IsCharBoundary text (place + 1)
cut_behind text place u e =
    let at = space_at text place e in
    IsCharBoundary-after_ascii text place u at.0 (omega (arith, at.1))

-- a text has the word before its first space, if that is one, and those behind it
words_cut : (text : List ℕ) → words text ≡ filter is_word (before_first is_space text ∷ []) ++ words (after_first is_space text)
words_cut text = go _ refl
  where
    go : (b : Bool) → nat_lt (position_or_len is_space text) (length text) ≡ b
        → words text ≡ filter is_word (before_first is_space text ∷ []) ++ words (after_first is_space text)
    go true e =
        ap (filter is_word) (slice_split_first is_space text 0 (ltb-true _ _ e))
        ∙ filter-append is_word (before_first is_space text ∷ []) (slice_split is_space (after_first is_space text))
    go false e =
        let all : position_or_len is_space text ≡ length text =
        omega (arith, prefix_len-le-length (λ b. not (is_space b)) text, ltb-false _ _ e) in
        let before : before_first is_space text ≡ text = take_all _ text (omega (arith, all)) in
        let behind : after_first is_space text ≡ [] = drop_all _ text (omega (arith, all)) in
        ap (filter is_word) (slice_split_none is_space text (λ k d l. fails_before_first is_space text k d (omega (arith, l, all))))
        ∙ (sym (append-nil _)
        ∙ (ap (λ (v : List ℕ). filter is_word (v ∷ []) ++ []) (sym before)
        ∙ ap (λ (v : List ℕ). filter is_word (before_first is_space text ∷ []) ++ words v) (sym behind)))

-- the words taken so far are the first of all: so they are with the next one, which has a byte
pub taken_with : (taken all : List (List ℕ)) (text word behind : List ℕ) → taken ++ words text ≡ all
    → word ≡ before_first is_space text → behind ≡ after_first is_space text → 0 < length word
    → (taken ++ word ∷ []) ++ words behind ≡ all
taken_with taken all text word behind t w b l =
    let one : filter is_word (word ∷ []) ≡ word ∷ [] = ap (λ b. cond b (word ∷ []) []) (lt-ltb _ _ l) in
    append_assoc taken (word ∷ []) (words behind)
    ∙ ap (λ ws. taken ++ ws)
    (ap (λ ws. ws ++ words behind) (sym one)
    ∙ (ap (λ (v : List ℕ). filter is_word (v ∷ []) ++ words behind) w
    ∙ (ap (λ (v : List ℕ). filter is_word (before_first is_space text ∷ []) ++ words v) b ∙ sym (words_cut text))))
    ∙ t

-- and without it where it has none
pub taken_without : (taken all : List (List ℕ)) (text word behind : List ℕ) → taken ++ words text ≡ all
    → word ≡ before_first is_space text → behind ≡ after_first is_space text → length word ≡ 0
    → taken ++ words behind ≡ all
taken_without taken all text word behind t w b l =
    let none : filter is_word (word ∷ []) ≡ [] = ap (λ n. cond (nat_lt 0 n) (word ∷ []) []) l in
    ap (λ ws. taken ++ ws)
    (ap (λ ws. ws ++ words behind) (sym none)
    ∙ (ap (λ (v : List ℕ). filter is_word (v ∷ []) ++ words behind) w
    ∙ (ap (λ (v : List ℕ). filter is_word (before_first is_space text ∷ []) ++ words v) b ∙ sym (words_cut text))))
    ∙ t
