use Rattle.std.specs.Io.KnownBytes.{Keeps}
use Rattle.text_lines.proofs.lines.take_byte.Given as goal

-- no byte has been taken
abbrev pub invariant-loop : goal.invariant-loop
invariant-loop g l = Keeps (g.R.Read.remaining l.fn.reader) (g.R.Read.remaining l.reader)
