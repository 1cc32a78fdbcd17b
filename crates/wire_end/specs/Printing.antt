-- The lines that an end prints.
use Rattle.std.specs.Prelude.{ℕ, ◌==◌, ◌+◌, List, [], ◌∷◌, ◌++◌, map, if◌then◌else◌}
use Rattle.letter_lines.specs.declared.part.Part.{Part}
use Rattle.letter_lines.specs.Parts.{parts_of}
use Rattle.node_loop.specs.declared.item.Stamped.{Stamped}
use Rattle.wire_end.specs.declared.line.LinkLine.{LinkLine}
use Rattle.wire_end.specs.declared.wire_end.Wiring.{Wiring}
use Rattle.wire_end.specs.Order.{lines_to}
use Rattle.wire_end.specs.Sending.{line_of}

-- parts of a letter, each as a line, numbered behind so many, with the stamp of the step that sends it
abbrev pub numbered_lines : ℕ → ℕ → List Part → List LinkLine
numbered_lines written stamp [] = []
numbered_lines written stamp (p ∷ ps) = record { number = written + 1; stamp = stamp; part = p } ∷ numbered_lines (written + 1) stamp ps

-- the lines of a letter that is sent behind these, each with the node that it goes to; one of the node to itself has none
abbrev pub lines_of_next : ℕ → List (ℕ × Stamped) → ℕ × Stamped → List (ℕ × LinkLine)
lines_of_next node before x =
    if x.0 == node then [] else map (λ l. (x.0, l)) (numbered_lines (lines_to x.0 before) x.1.stamp (parts_of x.1.letter))

-- those of letters that are sent behind these
abbrev pub lines_behind : ℕ → List (ℕ × Stamped) → List (ℕ × Stamped) → List (ℕ × LinkLine)
lines_behind node before [] = []
lines_behind node before (x ∷ xs) = lines_of_next node before x ++ lines_behind node (before ++ x ∷ []) xs

-- all lines of an end: those that it has printed, and those that it is to print
abbrev pub lines_out : Wiring → List (ℕ × LinkLine)
lines_out s = lines_behind s.node [] s.sent

-- the text of one
abbrev pub text_of_line : ℕ × LinkLine → List ℕ
text_of_line x = line_of x.0 x.1.number x.1.stamp x.1.part
