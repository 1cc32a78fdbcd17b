use Rattle.std.proofs.Common.{◌≡◌, ◌+◌, ◌++◌, drop, length, string_bytes}
use Rattle.wire_end.specs.Sending.{lines_of}
use Rattle.wire_end.proofs.sending.send_lines.Given as goal

-- the lines of the parts so far stand there, and their numbers are used
abbrev pub invariant-loop-part : goal.invariant-loop-part
invariant-loop-part l =
    (string_bytes l.text ++ lines_of l.to l.number l.stamped.stamp (drop l.part-index l.part-items)
    ≡ lines_of l.to l.written l.stamped.stamp l.part-items)
    × (l.number + length (drop l.part-index l.part-items) ≡ l.written + length l.part-items)
