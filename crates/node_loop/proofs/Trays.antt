-- What waits in a tray for each node, as letters are put into it.
use Rattle.std.proofs.Common.{◌≡◌, ◌==◌, ◌+◌, ℕ, suc, Bool, true, false, Some, None, List, [], ◌∷◌, ◌++◌, map, filter, length, refl, sym, ap, subst, ◌∙◌, inl, inr, arith, append_assoc, append-nil}
use Rattle.std.specs.Prelude.{if◌then◌else◌, not, nat_lt, ◌||◌, ◌⊎◌}
use Rattle.std.specs.List.{position_or_len}
use Rattle.std.proofs.lemmas.Bool.{cases_eq, eq-eqb, ne_eqb, lt-ltb}
use Rattle.std.proofs.lemmas.Bool.Decides.{nat_tests}
use Rattle.std.proofs.lemmas.Grind.{flat_map-append}
use Rattle.protocol_model.specs.Letter.{Letter as AnyLetter}
use Rattle.protocol_model.specs.Turn.{Send, sent_to}
use Rattle.closings.specs.Alone.{Stamped as StampedLetter, stamped}
use Rattle.term.specs.NodeSets.{set_of}
use Rattle.node_log.specs.declared.Letter.{Letter}
use Rattle.node_log.specs.NodeEventsLetters.{send_of}
use Rattle.tray.specs.Held.{Waiting, longer, longer_at, with_letter}
use Rattle.node_loop.specs.declared.item.Item.{Item}
use Rattle.node_loop.specs.declared.item.Item.TheVariants.{Letter as LetterItem}
use Rattle.node_loop.specs.Held.{with_letters}
use Rattle.node_loop.specs.Dealings.{letter_in, letters_in, receivers, waiting_for}

-- a letter more, for the first slot of its receiver or for none
abbrev put_in : ℕ → Item → List (Waiting Item) → List (Waiting Item)
put_in to i [] = []
put_in to i (w ∷ ws) = if w.receiver == to then longer i w ∷ ws else w ∷ put_in to i ws

next_test : (n len : ℕ) → nat_lt (suc n) (suc len) ≡ nat_lt n len
next_test n len = grind (arith, nat_tests)

at_place : (n len : ℕ) (i : Item) (w : Waiting Item) (ws : List (Waiting Item))
    → longer_at (if nat_lt (1 + n) (suc len) then Some (1 + n) else None) i (w ∷ ws)
    ≡ w ∷ longer_at (if nat_lt n len then Some n else None) i ws
at_place n len i w ws =
    let e : 1 + n ≡ suc n = omega arith in
    subst (λ (m : ℕ). longer_at (if nat_lt m (suc len) then Some m else None) i (w ∷ ws)
    ≡ w ∷ longer_at (if nat_lt n len then Some n else None) i ws) (sym e)
    (subst (λ (b : Bool). longer_at (if b then Some (suc n) else None) i (w ∷ ws)
    ≡ w ∷ longer_at (if nat_lt n len then Some n else None) i ws) (sym (next_test n len)) (go (nat_lt n len)))
  where
    go : (b : Bool) → longer_at (if b then Some (suc n) else None) i (w ∷ ws) ≡ w ∷ longer_at (if b then Some n else None) i ws
    go true = refl
    go false = refl

puts_in : (to : ℕ) (i : Item) (ws : List (Waiting Item)) → with_letter to i ws ≡ put_in to i ws
puts_in to i [] = refl
puts_in to i (w ∷ ws) = go (w.receiver == to) (puts_in to i ws)
  where
    go : (b : Bool) → with_letter to i ws ≡ put_in to i ws
        → longer_at (if nat_lt (if not b then 1 + position_or_len (λ x. x.receiver == to) ws else 0) (suc (length ws)) then Some (if not b then 1 + position_or_len (λ x. x.receiver == to) ws else 0) else None) i (w ∷ ws)
        ≡ (if b then longer i w ∷ ws else w ∷ put_in to i ws)
    go true h = rw (lt-ltb 0 (suc (length ws)) (omega arith)) refl
    go false h = at_place (position_or_len (λ x. x.receiver == to) ws) (length ws) i w ws ∙ ap (λ (xs : List (Waiting Item)). w ∷ xs) h

module _ (t to : ℕ) (i : Item) where
  -- another node's letters are those that they were
  put_apart : (t ≡ to → ⊥) → (ws : List (Waiting Item)) → waiting_for t (put_in to i ws) ≡ waiting_for t ws
  put_apart ne [] = refl
  put_apart ne (w ∷ ws) = go (cases_eq w.receiver to) (put_apart ne ws)
    where
      go : (w.receiver ≡ to) ⊎ (w.receiver ≡ to → ⊥) → waiting_for t (put_in to i ws) ≡ waiting_for t ws
          → waiting_for t (put_in to i (w ∷ ws)) ≡ waiting_for t (w ∷ ws)
      go (inl e) h = rw (eq-eqb w.receiver to e, ne_eqb w.receiver t (λ k. ne (sym k ∙ e))) refl
      go (inr n) h = rw (ne_eqb w.receiver to n) (other (w.receiver == t))
        where
          other : (b : Bool) → (if b then w.letters else waiting_for t (put_in to i ws)) ≡ (if b then w.letters else waiting_for t ws)
          other true = refl
          other false = h

-- its own have one more
put_own : (t : ℕ) (i : Item) (ws : List (Waiting Item)) → set_of (receivers ws) t ≡ true
    → waiting_for t (put_in t i ws) ≡ waiting_for t ws ++ i ∷ []
put_own t i [] e = cc
put_own t i (w ∷ ws) e = go (w.receiver == t) refl e (put_own t i ws)
  where
    go : (b : Bool) → (w.receiver == t) ≡ b → (b || set_of (receivers ws) t) ≡ true
        → (set_of (receivers ws) t ≡ true → waiting_for t (put_in t i ws) ≡ waiting_for t ws ++ i ∷ [])
        → waiting_for t (if b then longer i w ∷ ws else w ∷ put_in t i ws) ≡ (if b then w.letters else waiting_for t ws) ++ i ∷ []
    go true e k h = rw e refl
    go false e k h = rw e (h k)

same_receivers : (to : ℕ) (i : Item) (ws : List (Waiting Item)) → receivers (put_in to i ws) ≡ receivers ws
same_receivers to i [] = refl
same_receivers to i (w ∷ ws) = go (w.receiver == to) (same_receivers to i ws)
  where
    go : (b : Bool) → receivers (put_in to i ws) ≡ receivers ws
        → receivers (if b then longer i w ∷ ws else w ∷ put_in to i ws) ≡ w.receiver ∷ receivers ws
    go true h = refl
    go false h = ap (λ (rs : List ℕ). w.receiver ∷ rs) h

-- a letter more, in the tray
abbrev item_of : ℕ → ℕ × Letter → Item
item_of n s = LetterItem (record { stamp = n; letter = s.1 })

pub receivers_with : (n : ℕ) (ss : List (ℕ × Letter)) (ws : List (Waiting Item)) → receivers (with_letters n ss ws) ≡ receivers ws
receivers_with n [] ws = refl
receivers_with n (s ∷ ss) ws =
    receivers_with n ss (with_letter s.0 (item_of n s) ws)
    ∙ (ap receivers (puts_in s.0 (item_of n s) ws) ∙ same_receivers s.0 (item_of n s) ws)

-- the letters of a step to t are behind those that wait for it
one_letter : (n t : ℕ) (s : ℕ × Letter) (rest : List AnyLetter) (ws : List (Waiting Item)) → set_of (receivers ws) t ≡ true
    → letters_in (waiting_for t (with_letter s.0 (item_of n s) ws)) ++ stamped n rest
    ≡ letters_in (waiting_for t ws) ++ stamped n (map (λ (x : Send). x.letter) (if s.0 == t then send_of s ∷ [] else []) ++ rest)
one_letter n t s rest ws e = ap (λ (xs : List (Waiting Item)). letters_in (waiting_for t xs) ++ stamped n rest) (puts_in s.0 (item_of n s) ws)
    ∙ go (cases_eq s.0 t)
  where
    go : (s.0 ≡ t) ⊎ (s.0 ≡ t → ⊥)
        → letters_in (waiting_for t (put_in s.0 (item_of n s) ws)) ++ stamped n rest
        ≡ letters_in (waiting_for t ws) ++ stamped n (map (λ (x : Send). x.letter) (if s.0 == t then send_of s ∷ [] else []) ++ rest)
    go (inl same) = rw (eq-eqb s.0 t same)
        (ap (λ (x : ℕ). letters_in (waiting_for t (put_in x (item_of n s) ws)) ++ stamped n rest) same
        ∙ (ap (λ (is : List Item). letters_in is ++ stamped n rest) (put_own t (item_of n s) ws e)
        ∙ (ap (λ (ls : List StampedLetter). ls ++ stamped n rest) (flat_map-append letter_in (waiting_for t ws) (item_of n s ∷ []))
        ∙ append_assoc (letters_in (waiting_for t ws)) (letters_in (item_of n s ∷ [])) (stamped n rest))))
    go (inr ne) = rw (ne_eqb s.0 t ne)
        (ap (λ (is : List Item). letters_in is ++ stamped n rest) (put_apart t s.0 (item_of n s) (λ k. ne (sym k)) ws))

pub letters_with : (n t : ℕ) (ss : List (ℕ × Letter)) (ws : List (Waiting Item)) → set_of (receivers ws) t ≡ true
    → letters_in (waiting_for t (with_letters n ss ws)) ≡ letters_in (waiting_for t ws) ++ stamped n (sent_to t (map send_of ss))
letters_with n t [] ws e = sym (append-nil (letters_in (waiting_for t ws)))
letters_with n t (s ∷ ss) ws e =
    letters_with n t ss (with_letter s.0 (item_of n s) ws)
    (ap (λ (rs : List ℕ). set_of rs t) (ap receivers (puts_in s.0 (item_of n s) ws) ∙ same_receivers s.0 (item_of n s) ws) ∙ e)
    ∙ (one_letter n t s (sent_to t (map send_of ss)) ws e
    ∙ ap (λ (ls : List AnyLetter). letters_in (waiting_for t ws) ++ stamped n ls) (more (s.0 == t)))
  where
    more : (b : Bool)
        → map (λ (x : Send). x.letter) (if b then send_of s ∷ [] else []) ++ sent_to t (map send_of ss)
        ≡ map (λ (x : Send). x.letter) (if b then send_of s ∷ filter (λ (x : Send). x.to == t) (map send_of ss) else filter (λ (x : Send). x.to == t) (map send_of ss))
    more true = refl
    more false = refl
