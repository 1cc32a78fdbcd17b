-- Texts that are written in parts.
use Rattle.std.proofs.Common.{ℕ, List, [], ◌∷◌, ◌++◌, ◌≡◌, ◌≤◌, ◌-◌, Option, refl, sym, ap, ◌∙◌, append-nil, append_assoc, Result, Ok, Err, length, take, drop, arith}
use Rattle.std.specs.Io.KnownBytes.{Appends}
use Rattle.std.proofs.KnownBytes.{Appends-trans, Appends-nil}
use Rattle.std.proofs.lemmas.Grind.{common_steps}
use Rattle.text_lines.specs.Writing.{AppendsPart, Writes}

-- some more of a text is written
pub written-more : (text part rest : List ℕ) (n : ℕ) → n ≤ length rest → text ≡ part ++ rest → text
    ≡ (part ++ take n rest) ++ take (length rest - n) (drop n rest)
written-more text part rest n l e = grind (arith, common_steps)

-- nothing of a text was written
pub AppendsPart-none : (a : Option (List ℕ)) (text : List ℕ) → AppendsPart a a text
AppendsPart-none a text = ([], text, refl, Appends-nil a)

-- a text was written, and a part of the next
pub AppendsPart-behind : (a b c : Option (List ℕ)) (front text : List ℕ) → Appends a b front → AppendsPart b c text
    → AppendsPart a c (front ++ text)
AppendsPart-behind a b c front text h p = (
  front ++ p.0,
  p.1,
  ap (λ (t : List ℕ). front ++ t) p.2
      ∙ sym (append_assoc front p.0 p.1),
  Appends-trans a b c front p.0 h p.3,
)

-- a part of a text is one of a longer text
pub AppendsPart-more : (a b : Option (List ℕ)) (text more : List ℕ) → AppendsPart a b text
    → AppendsPart a b (text ++ more)
AppendsPart-more a b text more p =
    (p.0, p.1 ++ more, ap (λ (t : List ℕ). t ++ more) p.2 ∙ append_assoc p.0 p.1 more, p.3)

-- a whole text is a part of a longer one
pub AppendsPart-whole : (a b : Option (List ℕ)) (text more : List ℕ) → Appends a b text → AppendsPart a b (text ++ more)
AppendsPart-whole a b text more h = (text, more, refl, h)

-- a text that was written, or a part of it and a fault, is written in part
pub Writes-partly : {A E : Type 0} (a b : Option (List ℕ)) (r : Result A E) (text : List ℕ) → Writes a b r text
    → AppendsPart a b text
Writes-partly a b (Ok _) text w = (text, [], sym (append-nil text), w)
Writes-partly a b (Err _) text w = w

-- what the exit of a `?` says of a text
pub Writes-err : {A E : Type 0} (a b : Option (List ℕ)) (r : Result A E) (y : E) (text : List ℕ) → r ≡ Err y
    → AppendsPart a b text → Writes a b r text
Writes-err a b r y text e p = rw e p

-- a text was written, and then another, or a part of it
pub Writes-behind : {A E : Type 0} (a b c : Option (List ℕ)) (r : Result A E) (front text : List ℕ) → Appends a b front
    → Writes b c r text → Writes a c r (front ++ text)
Writes-behind a b c (Ok x) front text h w = Appends-trans a b c front text h w
Writes-behind a b c (Err e) front text h w = AppendsPart-behind a b c front text h w

-- a part of the first text is a part of the line
pub part-first : (a b : Option (List ℕ)) (first second : List ℕ) → AppendsPart a b first
    → AppendsPart a b ((first ++ second) ++ 10 ∷ [])
part-first a b first second p =
    AppendsPart-more a b (first ++ second) (10 ∷ []) (AppendsPart-more a b first second p)

-- so is the first text with a part of the second
pub part-second : (a b c : Option (List ℕ)) (first second : List ℕ) → Appends a b first → AppendsPart b c second
    → AppendsPart a c ((first ++ second) ++ 10 ∷ [])
part-second a b c first second h p =
    AppendsPart-more a c (first ++ second) (10 ∷ []) (AppendsPart-behind a b c first second h p)

-- both texts and the line's end are the line
pub line-written : {A E : Type 0} (a b c d : Option (List ℕ)) (r : Result A E) (first second : List ℕ) → Appends a b first
    → Appends b c second → Writes c d r (10 ∷ []) → Writes a d r ((first ++ second) ++ 10 ∷ [])
line-written a b c d r first second h k w =
    Writes-behind a c d r (first ++ second) (10 ∷ []) (Appends-trans a b c first second h k) w
