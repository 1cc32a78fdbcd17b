use Rattle.std.proofs.Common.{◌≡◌, ◌+◌, ℕ, List, []}
use Rattle.text_lines.specs.Lines.{spoken, count_of_all, LosesLines}
use Rattle.std.specs.Io.KnownBytes.{Keeps}
use Rattle.std.specs.Io.Buffered.{reader_remaining}
use Rattle.cluster_script.proofs.reading.next_line.Given as goal

-- empty lines were read
abbrev pub invariant-loop-line : goal.invariant-loop-line
invariant-loop-line g l = record {
  read : (ls : List (List ℕ)) × (spoken ls ≡ [])
      × LosesLines (reader_remaining g.R.Read.remaining l.fn.reader) (reader_remaining g.R.Read.remaining l.reader) ls
      × (l.fn.left ≡ l.left + count_of_all ls);
  kept : Keeps (g.W.Write.contents l.fn.writer) (g.W.Write.contents l.writer);
}

-- each counts for a line
abbrev pub decreases-loop-line : goal.decreases-loop-line
decreases-loop-line g l = l.left
