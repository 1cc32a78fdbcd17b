-- The lines of letters.
use Rattle.std.specs.Prelude.{ℕ, ◌+◌, codes, List, [], ◌∷◌, ◌++◌}
use Rattle.std.specs.Fmt.{decimal}
use Rattle.term.specs.Spelling.{node_bytes}
use Rattle.letter_lines.specs.declared.part.Part.{Part}
use Rattle.letter_lines.specs.Parts.{text_of, parts_of}
use Rattle.node_loop.specs.declared.item.Stamped.{Stamped}

-- a part of a letter to this node, as the line of the link that has this number, sent by the step with this stamp
abbrev pub line_of : ℕ → ℕ → ℕ → Part → List ℕ
line_of to number stamp p =
    codes "send " ++ (node_bytes to ++ 32 ∷ (decimal number ++ 32 ∷ (decimal stamp ++ 32 ∷ (text_of p ++ 10 ∷ []))))

-- parts of it, as the lines behind so many
abbrev pub lines_of : ℕ → ℕ → ℕ → List Part → List ℕ
lines_of to written stamp [] = []
lines_of to written stamp (p ∷ ps) = line_of to (written + 1) stamp p ++ lines_of to (written + 1) stamp ps

-- a letter to this node, as the lines behind so many
abbrev pub letter_text : ℕ → ℕ → Stamped → List ℕ
letter_text to written l = lines_of to written l.stamp (parts_of l.letter)
