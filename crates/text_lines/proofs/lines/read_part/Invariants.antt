use Rattle.std.proofs.Common.{◌≤◌, ◌-◌, ◌+◌, ℕ, List}
use Rattle.std.specs.Io.KnownBytes.{Consumes, Keeps}
use Rattle.std.specs.Io.Buffered.{reader_remaining}
use Rattle.text_lines.specs.Lines.{IsPart, HasNoFeed, longest_part}
use Rattle.text_lines.proofs.lines.read_part.Given as goal

-- these bytes were read, and no line feed
abbrev pub invariant-loop-part : goal.invariant-loop-part
invariant-loop-part g l = record {
  read : (bytes : List ℕ) × IsPart bytes l.part × HasNoFeed bytes
      × Consumes (reader_remaining g.R.Read.remaining l.fn.reader) (reader_remaining g.R.Read.remaining l.reader) bytes;
  short : l.part.len ≤ longest_part + 1;
  kept : Keeps (g.W.Write.contents l.fn.writer) (g.W.Write.contents l.writer);
}

abbrev pub decreases-loop-part : goal.decreases-loop-part
decreases-loop-part g l = longest_part + 2 - l.part.len
