-- What is printed is the texts of lines.
use Rattle.std.proofs.Common.{ℕ, Bool, true, false, ◌≡◌, ◌==◌, ◌+◌, List, [], ◌∷◌, ◌++◌, map, flat_map, refl, sym, ap, ◌∙◌}
use Rattle.std.specs.Prelude.{if◌then◌else◌}
use Rattle.std.proofs.lemmas.Grind.{flat_map-append}
use Rattle.letter_lines.specs.declared.part.Part.{Part}
use Rattle.letter_lines.specs.Parts.{parts_of}
use Rattle.node_loop.specs.declared.item.Stamped.{Stamped}
use Rattle.wire_end.specs.Order.{lines_to, text_behind, texts_behind}
use Rattle.wire_end.specs.Sending.{line_of, lines_of as texts_of}
use Rattle.wire_end.specs.Printing.{numbered_lines, lines_of_next, lines_behind, text_of_line}
use Rattle.wire_end.specs.Runs.{LinesArePrinted}

-- of the parts of a letter
parts_printed : (to written stamp : ℕ) (ps : List Part)
    → texts_of to written stamp ps ≡ flat_map text_of_line (map (λ l. (to, l)) (numbered_lines written stamp ps))
parts_printed to written stamp [] = refl
parts_printed to written stamp (p ∷ ps) =
    ap (λ (text : List ℕ). line_of to (written + 1) stamp p ++ text) (parts_printed to (written + 1) stamp ps)

-- of a letter, if it is one to another
next_printed : (node : ℕ) (before : List (ℕ × Stamped)) (x : ℕ × Stamped)
    → text_behind node before x ≡ flat_map text_of_line (lines_of_next node before x)
next_printed node before x = go (x.0 == node)
  where
    go : (b : Bool)
        → (if b then [] else texts_of x.0 (lines_to x.0 before) x.1.stamp (parts_of x.1.letter))
        ≡ flat_map text_of_line
        (if b then [] else map (λ l. (x.0, l)) (numbered_lines (lines_to x.0 before) x.1.stamp (parts_of x.1.letter)))
    go true = refl
    go false = parts_printed x.0 (lines_to x.0 before) x.1.stamp (parts_of x.1.letter)

all_printed : (node : ℕ) (before xs : List (ℕ × Stamped)) → texts_behind node before xs ≡ flat_map text_of_line (lines_behind node before xs)
all_printed node before [] = refl
all_printed node before (x ∷ xs) =
    ap (λ (text : List ℕ). text ++ texts_behind node (before ++ x ∷ []) xs) (next_printed node before x)
    ∙ (ap (λ (text : List ℕ). flat_map text_of_line (lines_of_next node before x) ++ text) (all_printed node (before ++ x ∷ []) xs)
    ∙ sym (flat_map-append text_of_line (lines_of_next node before x) (lines_behind node (before ++ x ∷ []) xs)))

pub lines_are_printed : LinesArePrinted
lines_are_printed out s h = h.sent ∙ all_printed s.node [] s.sent
