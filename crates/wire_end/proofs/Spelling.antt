-- What the lines of a link spell is the letters that they are of, and lines that begin others spell letters that begin theirs.
use Rattle.std.proofs.Common.{ℕ, Bool, true, false, ◌≡◌, ◌==◌, ◌+◌, Option, Some, None, option_map, List, [], ◌∷◌, ◌++◌, map, refl, sym, ap, subst, ◌∙◌, append-nil, append_assoc}
use Rattle.std.specs.Prelude.{if◌then◌else◌}
use Rattle.std.specs.List.{AllByRecursion}
use Rattle.std.proofs.lemmas.Bool.{ne_eqb}
use Rattle.std.proofs.lemmas.Grind.{flat_map-append}
use Rattle.protocol_model.specs.Letter.{Letter as AnyLetter}
use Rattle.letter_lines.specs.Letters.{letter_of}
use Rattle.letter_lines.specs.declared.part.Part.{Part}
use Rattle.letter_lines.specs.Gathered.{Gathered, Taken, taken, nothing, behind, read_on}
use Rattle.letter_lines.specs.Laws.{IsLetter}
use Rattle.letter_lines.specs.Parts.{parts_of}
use Rattle.letter_lines.proofs.Again.{read_again}
use Rattle.node_loop.specs.Alone.{Stamped as StampedLetter}
use Rattle.node_loop.specs.Guarded.{Begins}
use Rattle.node_loop.specs.declared.item.Stamped.{Stamped}
use Rattle.wire_end.specs.declared.line.LinkLine.{LinkLine}
use Rattle.wire_end.specs.Dealings.{of_node}
use Rattle.wire_end.specs.Order.{seen, ended_by, onward, spelled_on, spelled_by, lines_to}
use Rattle.wire_end.proofs.Ordering.{first-same, first-other, each}
use Rattle.wire_end.specs.Printing.{numbered_lines, lines_of_next, lines_behind}

-- a letter with this stamp
abbrev mark : ℕ → AnyLetter → StampedLetter
mark stamp l = record { stamp = stamp; letter = l }

-- letters that were read before stay in front
shift : (ps : List Part) (g : Gathered) (xs ys : List AnyLetter)
    → read_on ps g (xs ++ ys) ≡ option_map (λ (r : Gathered × List AnyLetter). (r.0, xs ++ r.1)) (read_on ps g ys)
shift [] g xs ys = refl
shift (p ∷ ps) g xs ys = go (taken p g) (λ k zs. shift ps k xs zs)
  where
    go : (t : Taken)
        → ((k : Gathered) (zs : List AnyLetter)
        → read_on ps k (xs ++ zs) ≡ option_map (λ (r : Gathered × List AnyLetter). (r.0, xs ++ r.1)) (read_on ps k zs))
        → behind t (xs ++ ys) (read_on ps) ≡ option_map (λ (r : Gathered × List AnyLetter). (r.0, xs ++ r.1)) (behind t ys (read_on ps))
    go None rest = refl
    go (Some (k, None)) rest = rest k ys
    go (Some (k, Some l)) rest = ap (λ (zs : List AnyLetter). read_on ps k zs) (append_assoc xs ys (l ∷ [])) ∙ rest k (ys ++ l ∷ [])

-- lines of parts behind which a letter was made, where those parts alone spell so
spelled_letter : (ps : List Part) (n stamp : ℕ) (k h : Gathered) (l : AnyLetter) (ms : List AnyLetter) (rest : List LinkLine) (xs : List StampedLetter)
    → ((h2 : Gathered) (ms2 : List AnyLetter) → read_on ps k [] ≡ Some (h2, ms2)
    → spelled_on (numbered_lines n stamp ps ++ rest) k (xs ++ mark stamp l ∷ [])
    ≡ spelled_on rest h2 ((xs ++ mark stamp l ∷ []) ++ map (mark stamp) ms2))
    → (o : Option (Gathered × List AnyLetter)) → read_on ps k [] ≡ o
    → option_map {U = Gathered × List AnyLetter} (λ (r : Gathered × List AnyLetter). (r.0, l ∷ r.1)) o ≡ Some (h, ms)
    → spelled_on (numbered_lines n stamp ps ++ rest) k (xs ++ mark stamp l ∷ []) ≡ spelled_on rest h (xs ++ map (mark stamp) ms)
spelled_letter ps n stamp k h l ms rest xs spells None f e = absurd (cc e)
spelled_letter ps n stamp k h l ms rest xs spells (Some (h2, ms2)) f e =
    let pair : (h2, l ∷ ms2) ≡ (h, ms) = cc e in
    subst
    (λ (r : Gathered × List AnyLetter).
    spelled_on (numbered_lines n stamp ps ++ rest) k (xs ++ mark stamp l ∷ []) ≡ spelled_on rest r.0 (xs ++ map (mark stamp) r.1))
    pair
    (spells h2 ms2 f ∙ ap (λ (zs : List StampedLetter). spelled_on rest h2 zs) (append_assoc xs (mark stamp l ∷ []) (map (mark stamp) ms2)))

-- the lines of parts spell the letters that the parts are read as, with the stamp of the lines
spelled_parts : (ps : List Part) (n stamp : ℕ) (g h : Gathered) (ms : List AnyLetter) (rest : List LinkLine) (xs : List StampedLetter)
    → read_on ps g [] ≡ Some (h, ms)
    → spelled_on (numbered_lines n stamp ps ++ rest) g xs ≡ spelled_on rest h (xs ++ map (mark stamp) ms)
spelled_parts [] n stamp g h ms rest xs e =
    let pair : (g, []) ≡ (h, ms) = cc e in
    subst (λ (r : Gathered × List AnyLetter). spelled_on rest g xs ≡ spelled_on rest r.0 (xs ++ map (mark stamp) r.1)) pair
    (ap (λ (zs : List StampedLetter). spelled_on rest g zs) (sym (append-nil xs)))
spelled_parts (p ∷ ps) n stamp g h ms rest xs e = go (taken p g) (λ k h2 ms2 zs f. spelled_parts ps (n + 1) stamp k h2 ms2 rest zs f) e
  where
    go : (t : Taken)
        → ((k h2 : Gathered) (ms2 : List AnyLetter) (zs : List StampedLetter) → read_on ps k [] ≡ Some (h2, ms2)
        → spelled_on (numbered_lines (n + 1) stamp ps ++ rest) k zs ≡ spelled_on rest h2 (zs ++ map (mark stamp) ms2))
        → behind t [] (read_on ps) ≡ Some (h, ms)
        → onward t stamp xs (spelled_on (numbered_lines (n + 1) stamp ps ++ rest)) ≡ spelled_on rest h (xs ++ map (mark stamp) ms)
    go None more e = absurd (cc e)
    go (Some (k, None)) more e =
        ap (λ (zs : List StampedLetter). spelled_on (numbered_lines (n + 1) stamp ps ++ rest) k zs) (append-nil xs) ∙ more k h ms xs e
    go (Some (k, Some l)) more e =
        spelled_letter ps (n + 1) stamp k h l ms rest xs (λ h2 ms2 f. more k h2 ms2 (xs ++ mark stamp l ∷ []) f)
        (read_on ps k []) refl (sym (shift ps k (l ∷ []) []) ∙ e)

-- the lines of a letter spell it
letter_spelled : (l : Stamped) (n : ℕ) (rest : List LinkLine) (xs : List StampedLetter) → IsLetter l.letter
    → spelled_on (numbered_lines n l.stamp (parts_of l.letter) ++ rest) nothing xs ≡ spelled_on rest nothing (xs ++ seen l ∷ [])
letter_spelled l n rest xs is =
    spelled_parts (parts_of l.letter) n l.stamp nothing nothing (letter_of l.letter ∷ []) rest xs
    (ap (λ (ps : List Part). read_on ps nothing []) (sym (append-nil (parts_of l.letter))) ∙ read_again (l.letter ∷ []) (is, tt))

-- lines that all go to one node
tagged_same : (n : ℕ) (ls : List LinkLine) → of_node n (map (λ l. (n, l)) ls) ≡ ls
tagged_same n [] = refl
tagged_same n (l ∷ ls) = first-same n l (map (λ l. (n, l)) ls) ∙ ap (λ (xs : List LinkLine). l ∷ xs) (tagged_same n ls)

tagged_other : (n m : ℕ) (ls : List LinkLine) → (m ≡ n → ⊥) → of_node m (map (λ l. (n, l)) ls) ≡ []
tagged_other n m [] other = refl
tagged_other n m (l ∷ ls) other = first-other n m l (map (λ l. (n, l)) ls) other ∙ tagged_other n m ls other

-- the letters to a node are such as are read again from their parts
abbrev AreLetters : List Stamped → Type 0
AreLetters ls = AllByRecursion (λ (l : Stamped). IsLetter l.letter) ls

-- the lines of a letter, on its own link and on another
module _ (node m : ℕ) (before : List (ℕ × Stamped)) (l : Stamped) where
  abbrev own_lines : List LinkLine
  own_lines = numbered_lines (lines_to m before) l.stamp (parts_of l.letter)

  next_same : (m ≡ node → ⊥) → of_node m (lines_of_next node before (m, l)) ≡ own_lines
  next_same other =
      ap (λ (b : Bool). of_node m (if b then [] else map (λ x. (m, x)) own_lines)) (ne_eqb m node other) ∙ tagged_same m own_lines

  next_other : (y : ℕ) → (y ≡ m → ⊥) → of_node y (lines_of_next node before (m, l)) ≡ []
  next_other y other = go (m == node)
    where
      go : (b : Bool) → of_node y (if b then [] else map (λ x. (m, x)) own_lines) ≡ []
      go true = refl
      go false = tagged_other m y own_lines other

-- the lines of a link spell the letters to its node, and nothing is left
pub link_spelled : (node t : ℕ) (before sent : List (ℕ × Stamped)) (xs : List StampedLetter) → (t ≡ node → ⊥) → AreLetters (of_node t sent)
    → spelled_on (of_node t (lines_behind node before sent)) nothing xs ≡ Some (nothing, xs ++ map seen (of_node t sent))
link_spelled node t before [] xs other are = ap (λ (zs : List StampedLetter). Some (nothing, zs)) (sym (append-nil xs))
link_spelled node t before ((m, l) ∷ sent) xs other are =
    ap (λ (ls : List LinkLine). spelled_on ls nothing xs)
    (flat_map-append (λ (x : ℕ × LinkLine). if t == x.0 then x.1 ∷ [] else []) (lines_of_next node before (m, l))
    (lines_behind node (before ++ (m, l) ∷ []) sent))
    ∙ each m
    (λ y. (y ≡ node → ⊥) → AreLetters (of_node y ((m, l) ∷ sent))
    → spelled_on (of_node y (lines_of_next node before (m, l)) ++ of_node y (lines_behind node (before ++ (m, l) ∷ []) sent)) nothing xs
    ≡ Some (nothing, xs ++ map seen (of_node y ((m, l) ∷ sent))))
    (λ apart these.
    let both = subst AreLetters (first-same m l sent) these in
    ap (λ (ls : List LinkLine). spelled_on (ls ++ of_node m (lines_behind node (before ++ (m, l) ∷ []) sent)) nothing xs)
    (next_same node m before l apart)
    ∙ (letter_spelled l (lines_to m before) (of_node m (lines_behind node (before ++ (m, l) ∷ []) sent)) xs both.0
    ∙ (link_spelled node m (before ++ (m, l) ∷ []) sent (xs ++ seen l ∷ []) apart both.1
    ∙ ap (λ (zs : List StampedLetter). Some (nothing, zs))
    (append_assoc xs (seen l ∷ []) (map seen (of_node m sent))
    ∙ ap (λ (ls : List Stamped). xs ++ map seen ls) (sym (first-same m l sent))))))
    (λ y ne apart these.
    ap (λ (ls : List LinkLine). spelled_on (ls ++ of_node y (lines_behind node (before ++ (m, l) ∷ []) sent)) nothing xs)
    (next_other node m before l y ne)
    ∙ (link_spelled node y (before ++ (m, l) ∷ []) sent xs apart (subst AreLetters (first-other m y l sent ne) these)
    ∙ ap (λ (ls : List Stamped). Some (nothing, xs ++ map seen ls)) (sym (first-other m y l sent ne))))
    t other are

-- what is spelled has in front what was there before
spelled_begins : (ls : List LinkLine) (g h : Gathered) (xs ys : List StampedLetter) → spelled_on ls g xs ≡ Some (h, ys) → Begins xs ys
spelled_begins [] g h xs ys e =
    let pair : (g, xs) ≡ (h, ys) = cc e in
    ([], sym (ap (λ (r : Gathered × List StampedLetter). r.1) pair) ∙ sym (append-nil xs))
spelled_begins (l ∷ ls) g h xs ys e = go (taken l.part g) (λ k zs f. spelled_begins ls k h zs ys f) e
  where
    go : (t : Taken) → ((k : Gathered) (zs : List StampedLetter) → spelled_on ls k zs ≡ Some (h, ys) → Begins zs ys)
        → onward t l.stamp xs (spelled_on ls) ≡ Some (h, ys) → Begins xs ys
    go None rest e = absurd (cc e)
    go (Some z) rest e =
        let more : Begins (xs ++ ended_by l.stamp z.1) ys = rest z.0 (xs ++ ended_by l.stamp z.1) e in
        (ended_by l.stamp z.1 ++ more.0, more.1 ∙ append_assoc xs (ended_by l.stamp z.1) more.0)

-- lines and then others
spelled_then : (ls more : List LinkLine) (g k : Gathered) (xs zs : List StampedLetter) → spelled_on ls g xs ≡ Some (k, zs)
    → spelled_on (ls ++ more) g xs ≡ spelled_on more k zs
spelled_then [] more g k xs zs e =
    let pair : (g, xs) ≡ (k, zs) = cc e in
    ap (λ (r : Gathered × List StampedLetter). spelled_on more r.0 r.1) pair
spelled_then (l ∷ ls) more g k xs zs e = go (taken l.part g) (λ f ys d. spelled_then ls more f k ys zs d) e
  where
    go : (t : Taken)
        → ((f : Gathered) (ys : List StampedLetter) → spelled_on ls f ys ≡ Some (k, zs) → spelled_on (ls ++ more) f ys ≡ spelled_on more k zs)
        → onward t l.stamp xs (spelled_on ls) ≡ Some (k, zs)
        → onward t l.stamp xs (spelled_on (ls ++ more)) ≡ spelled_on more k zs
    go None rest e = absurd (cc e)
    go (Some z) rest e = rest z.0 (xs ++ ended_by l.stamp z.1) e

-- lines that begin others spell letters that begin theirs
pub begins_spelled : (ls more : List LinkLine) (g h : Gathered) (letters all : List StampedLetter) → spelled_by ls ≡ Some (g, letters)
    → spelled_by (ls ++ more) ≡ Some (h, all) → Begins letters all
begins_spelled ls more g h letters all e f =
    spelled_begins more g h letters all (sym (spelled_then ls more nothing g [] letters e) ∙ f)
