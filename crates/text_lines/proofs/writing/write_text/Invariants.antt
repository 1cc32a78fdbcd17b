use Rattle.std.proofs.Common.{◌≡◌, ◌++◌, ℕ, List}
use Rattle.std.specs.Io.KnownBytes.{Appends}
use Rattle.text_lines.proofs.writing.write_text.Given as goal

-- a part of the text was written, and the rest is left
abbrev pub invariant-loop : goal.invariant-loop
invariant-loop g l = (part : List ℕ) × (l.text ≡ part ++ l.rest)
    × Appends (g.W.Write.contents l.fn.writer) (g.W.Write.contents l.writer) part
