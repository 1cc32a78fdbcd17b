-- Words are read in one way.
use Rattle.std.proofs.Common.{◌≡◌, ℕ, Bool, true, false, ◌&&◌, ◌⊎◌, inl, inr, List, [], ◌∷◌, Option, Some, None, Result, Ok, Err, subst, sym, ◌∙◌, ap, refl, nat_eq, bytes_eq, cond}
use Rattle.std.specs.Cmp.Lexicographic.{pointwise, bytes_decides}
use Rattle.std.specs.List.{AllByRecursion}
use Rattle.term.specs.declared.faults.TextFault.{TextFault}
use Rattle.term.proofs.OneNode.{exact_nodes}
use Rattle.letter_lines.specs.declared.faults.LetterFault.{LetterFault}
use Rattle.letter_lines.specs.declared.faults.LetterFault.TheVariants.{BadLine, Text}
use Rattle.letter_lines.specs.declared.part.Part.{Part}
use Rattle.letter_lines.specs.Grammar.{Kind, Resource, Requester, Pid, Name, Rule, Node, Granted, Ack, Value, Spells, RefusedAs, Makes, Row, AllSpelled, FirstRefused, TextsRead, HasFlags, ReadBy, WordsRead, TextReads, fits, row_of, grammar, granted_text, ack_text, words}
use Rattle.letter_lines.proofs.ExactProcesses.{exact_processes}
use Rattle.letter_lines.proofs.ExactKinds.{Exact, spelled_once, refused_once, never_both}

-- a text is one of two, or neither
says : (say : Bool → List ℕ) (text : List ℕ) → ((v : Bool) × (text ≡ say v)) ⊎ ((v : Bool) → text ≡ say v → ⊥)
says say text = first (pointwise nat_eq text (say true)) refl
  where
    second : (t : Bool) → pointwise nat_eq text (say false) ≡ t → pointwise nat_eq text (say true) ≡ false
        → ((v : Bool) × (text ≡ say v)) ⊎ ((v : Bool) → text ≡ say v → ⊥)
    second true e n = inl (false, (bytes_decides text (say false)).0 e)
    second false e n = inr (neither e n)
      where
        neither : pointwise nat_eq text (say false) ≡ false → pointwise nat_eq text (say true) ≡ false
            → (v : Bool) → text ≡ say v → ⊥
        neither e n true same = cc ((bytes_decides text (say true)).1 same, n)
        neither e n false same = cc ((bytes_decides text (say false)).1 same, e)

    first : (t : Bool) → pointwise nat_eq text (say true) ≡ t
        → ((v : Bool) × (text ≡ say v)) ⊎ ((v : Bool) → text ≡ say v → ⊥)
    first true e = inl (true, (bytes_decides text (say true)).0 e)
    first false e = second (pointwise nat_eq text (say false)) refl e

-- what holds of the first text and of the others, or not
both : {A B : Type 0} → A ⊎ (A → ⊥) → B ⊎ (B → ⊥) → (A × B) ⊎ ((A × B) → ⊥)
both (inl a) (inl b) = inl (a, b)
both (inl a) (inr n) = inr (λ h. n h.1)
both (inr n) b = inr (λ h. n h.0)

never_says : (say : Bool → List ℕ) (text : List ℕ)
    → ((v : Bool) × (text ≡ say v)) ⊎ ((v : Bool) → text ≡ say v → ⊥)
    → ((v : Bool) × (text ≡ say v)) ⊎ (((v : Bool) × (text ≡ say v)) → ⊥)
never_says say text (inl a) = inl a
never_says say text (inr n) = inr (λ h. n h.0 h.1)

-- texts have what says whether something is so, or not
flags_search : (kinds : List Kind) (texts : List (List ℕ)) → fits kinds texts ≡ true
    → HasFlags kinds texts ⊎ (HasFlags kinds texts → ⊥)
flags_search [] [] e = inl tt
flags_search [] (t ∷ texts) e = absurd (cc e)
flags_search (k ∷ kinds) [] e = absurd (cc e)
flags_search (Resource ∷ kinds) (t ∷ texts) e = flags_search kinds texts e
flags_search (Requester ∷ kinds) (t ∷ texts) e = flags_search kinds texts e
flags_search (Pid ∷ kinds) (t ∷ texts) e = flags_search kinds texts e
flags_search (Name ∷ kinds) (t ∷ texts) e = flags_search kinds texts e
flags_search (Rule ∷ kinds) (t ∷ texts) e = flags_search kinds texts e
flags_search (Node ∷ kinds) (t ∷ texts) e = flags_search kinds texts e
flags_search (Granted ∷ kinds) (t ∷ texts) e =
    both (never_says granted_text t (says granted_text t)) (flags_search kinds texts e)
flags_search (Ack ∷ kinds) (t ∷ texts) e =
    both (never_says ack_text t (says ack_text t)) (flags_search kinds texts e)

-- a reading of texts
abbrev Read : (kinds : List Kind) → Makes kinds → List (List ℕ) → Type 0
Read kinds makes texts = (r : Result Part LetterFault) × TextsRead kinds makes texts r

-- one text more in front
one_more : (k : Kind) (kinds : List Kind) (makes : Makes (k ∷ kinds)) (t : List ℕ) (texts : List (List ℕ))
    → ((v : Value k) × Spells k t v) ⊎ ((f : TextFault) × RefusedAs k t f)
    → ((v : Value k) → Read kinds (makes v) texts) → Read (k ∷ kinds) makes (t ∷ texts)
one_more k kinds makes t texts (inr refused) more = (Err (Text refused.0), inr (refused.0, inl refused.1, refl))
one_more k kinds makes t texts (inl found) more = ((more found.0).0, with_front (more found.0).1)
  where
    with_front : TextsRead kinds (makes found.0) texts (more found.0).0
        → TextsRead (k ∷ kinds) makes (t ∷ texts) (more found.0).0
    with_front (inl a) = inl (found.0, found.1, a)
    with_front (inr b) = inr (b.0, inr (found.0, found.1, b.1), b.2)

-- of two tests that hold together each holds
left_of : (a b : Bool) → (a && b) ≡ true → a ≡ true
left_of true b h = refl
left_of false b h = cc

right_of : (a b : Bool) → (a && b) ≡ true → b ≡ true
right_of true b h = h
right_of false b h = cc

-- a row that was found is one of them, of this word and as many texts
pub found_row : (P : Row → Type 0) (word : List ℕ) (texts : List (List ℕ)) (rows : List Row) → AllByRecursion P rows
    → (row : Row) → row_of word texts rows ≡ Some row → P row × (fits row.texts texts ≡ true) × (word ≡ row.word)
found_row P word texts [] all row e = absurd (cc e)
found_row P word texts (x ∷ rows) all row e =
    by (fits x.texts texts && bytes_eq word x.word) refl (λ h. found_row P word texts rows all.1 row h) e
  where
    by : (t : Bool) → (fits x.texts texts && bytes_eq word x.word) ≡ t
        → (row_of word texts rows ≡ Some row → P row × (fits row.texts texts ≡ true) × (word ≡ row.word))
        → cond t (Some x) (row_of word texts rows) ≡ Some row → P row × (fits row.texts texts ≡ true) × (word ≡ row.word)
    by false n behind h = behind h
    by true y behind h =
        let same : x ≡ row = cc h in
        subst (λ (z : Row). P z × (fits z.texts texts ≡ true) × (word ≡ z.word)) same (
          all.0,
          left_of (fits x.texts texts) (bytes_eq word x.word) y,
          (bytes_decides word x.word).0 (right_of (fits x.texts texts) (bytes_eq word x.word) y),
        )

-- nothing is asked of a row
no_matter : (rows : List Row) → AllByRecursion (λ row. Unit {0}) rows
no_matter [] = tt
no_matter (row ∷ rows) = (tt, no_matter rows)

module _ (own : Exact) where
  -- texts that spell values make one part
  all_once : (kinds : List Kind) (makes : Makes kinds) (texts : List (List ℕ)) (r s : Result Part LetterFault)
      → AllSpelled kinds makes texts r → AllSpelled kinds makes texts s → r ≡ s
  all_once [] makes [] r s a b = a ∙ sym b
  all_once [] makes (t ∷ texts) r s a b = absurd a
  all_once (k ∷ kinds) makes [] r s a b = absurd a
  all_once (k ∷ kinds) makes (t ∷ texts) r s a b =
      let same : a.0 ≡ b.0 = spelled_once own k t a.0 b.0 a.1 b.1 in
      all_once kinds (makes b.0) texts r s (subst (λ (v : Value k). AllSpelled kinds (makes v) texts r) same a.2) b.2

  -- the first fault is one
  first_once : (kinds : List Kind) (texts : List (List ℕ)) (f g : TextFault) → FirstRefused kinds texts f
      → FirstRefused kinds texts g → f ≡ g
  first_once [] [] f g a b = absurd a
  first_once [] (t ∷ texts) f g a b = absurd a
  first_once (k ∷ kinds) [] f g a b = absurd a
  first_once (k ∷ kinds) (t ∷ texts) f g (inl a) (inl b) = refused_once own k t f g a b
  first_once (k ∷ kinds) (t ∷ texts) f g (inl a) (inr b) = absurd (never_both own k t b.0 f b.1 a)
  first_once (k ∷ kinds) (t ∷ texts) f g (inr a) (inl b) = absurd (never_both own k t a.0 g a.1 b)
  first_once (k ∷ kinds) (t ∷ texts) f g (inr a) (inr b) = first_once kinds texts f g a.2 b.2

  -- texts that spell values have no fault
  not_both : (kinds : List Kind) (makes : Makes kinds) (texts : List (List ℕ)) (r : Result Part LetterFault) (f : TextFault)
      → AllSpelled kinds makes texts r → FirstRefused kinds texts f → ⊥
  not_both [] makes [] r f a b = b
  not_both [] makes (t ∷ texts) r f a b = b
  not_both (k ∷ kinds) makes [] r f a b = a
  not_both (k ∷ kinds) makes (t ∷ texts) r f a (inl b) = never_both own k t a.0 f a.1 b
  not_both (k ∷ kinds) makes (t ∷ texts) r f a (inr b) = not_both kinds (makes a.0) texts r f a.2 b.2

  -- texts are read in one way
  texts_once : (kinds : List Kind) (makes : Makes kinds) (texts : List (List ℕ)) (r s : Result Part LetterFault)
      → TextsRead kinds makes texts r → TextsRead kinds makes texts s → r ≡ s
  texts_once kinds makes texts r s (inl a) (inl b) = all_once kinds makes texts r s a b
  texts_once kinds makes texts r s (inl a) (inr b) = absurd (not_both kinds makes texts r b.0 a b.1)
  texts_once kinds makes texts r s (inr a) (inl b) = absurd (not_both kinds makes texts s a.0 b a.1)
  texts_once kinds makes texts r s (inr a) (inr b) =
      a.2 ∙ (ap (λ (f : TextFault). Err (Text f)) (first_once kinds texts a.0 b.0 a.1 b.1) ∙ sym b.2)

  -- behind the word of a row, too
  by_once : (o : Option Row) (texts : List (List ℕ)) (r s : Result Part LetterFault) → ReadBy o texts r → ReadBy o texts s
      → r ≡ s
  by_once None texts r s a b = a ∙ sym b
  by_once (Some row) texts r s (inl a) (inl b) = texts_once row.texts row.makes texts r s a.1 b.1
  by_once (Some row) texts r s (inl a) (inr b) = absurd (b.0 a.0)
  by_once (Some row) texts r s (inr a) (inl b) = absurd (a.0 b.0)
  by_once (Some row) texts r s (inr a) (inr b) = a.1 ∙ sym b.1

  -- and words are
  words_once : (ws : List (List ℕ)) (r s : Result Part LetterFault) → WordsRead ws r → WordsRead ws s → r ≡ s
  words_once [] r s a b = a ∙ sym b
  words_once (w ∷ texts) r s a b = by_once (row_of w texts grammar) texts r s a b

  -- a text is read as one part or refused for one fault
  pub one_reading : (text : List ℕ) (r s : Result Part LetterFault) → TextReads text r → TextReads text s → r ≡ s
  one_reading text r s a b = words_once (words text) r s a b

  -- texts are read
  all_read : (kinds : List Kind) (makes : Makes kinds) (texts : List (List ℕ)) → fits kinds texts ≡ true
      → HasFlags kinds texts → Read kinds makes texts
  all_read [] makes [] e h = (Ok makes, inl refl)
  all_read [] makes (t ∷ texts) e h = absurd (cc e)
  all_read (k ∷ kinds) makes [] e h = absurd (cc e)
  all_read (Resource ∷ kinds) makes (t ∷ texts) e h =
      one_more Resource kinds makes t texts (own.names.always_either t) (λ v. all_read kinds (makes v) texts e h)
  all_read (Requester ∷ kinds) makes (t ∷ texts) e h =
      one_more Requester kinds makes t texts (exact_nodes.always_either t) (λ v. all_read kinds (makes v) texts e h)
  all_read (Pid ∷ kinds) makes (t ∷ texts) e h =
      one_more Pid kinds makes t texts ((exact_processes own.pids).always_either t) (λ v. all_read kinds (makes v) texts e h)
  all_read (Name ∷ kinds) makes (t ∷ texts) e h =
      one_more Name kinds makes t texts (own.names.always_either t) (λ v. all_read kinds (makes v) texts e h)
  all_read (Rule ∷ kinds) makes (t ∷ texts) e h =
      one_more Rule kinds makes t texts (own.rules.always_either t) (λ v. all_read kinds (makes v) texts e h)
  all_read (Node ∷ kinds) makes (t ∷ texts) e h =
      one_more Node kinds makes t texts (exact_nodes.always_either t) (λ v. all_read kinds (makes v) texts e h)
  all_read (Granted ∷ kinds) makes (t ∷ texts) e h =
      one_more Granted kinds makes t texts (inl h.0) (λ v. all_read kinds (makes v) texts e h.1)
  all_read (Ack ∷ kinds) makes (t ∷ texts) e h =
      one_more Ack kinds makes t texts (inl h.0) (λ v. all_read kinds (makes v) texts e h.1)

  -- words are read
  words_read : (w : List ℕ) (texts : List (List ℕ)) → (r : Result Part LetterFault) × WordsRead (w ∷ texts) r
  words_read w texts = by (row_of w texts grammar) refl
    where
      by : (o : Option Row) → row_of w texts grammar ≡ o → (r : Result Part LetterFault) × ReadBy o texts r
      by None e = (Err BadLine, refl)
      by (Some row) e =
          let fit : fits row.texts texts ≡ true = (found_row (λ row. Unit {0}) w texts grammar (no_matter grammar) row e).1 in
          elim (flags_search row.texts texts fit) [
            | inr none ↦ (Err BadLine, inr (none, refl))
            | inl flags ↦
                let read = all_read row.texts row.makes texts fit flags in
                (read.0, inl (flags, read.1))
          ]

  -- and so is each text
  pub always_read : (text : List ℕ) → (r : Result Part LetterFault) × TextReads text r
  always_read text = by (words text)
    where
      by : (ws : List (List ℕ)) → (r : Result Part LetterFault) × WordsRead ws r
      by [] = (Err BadLine, refl)
      by (w ∷ texts) = words_read w texts
