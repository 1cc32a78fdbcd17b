use Rattle.std.proofs.Common.{◌≡◌, ◌++◌, ◌∷◌, string_bytes, take, map}
use Rattle.node_port.specs.Edits.{put_of}
use Rattle.node_port.specs.Shown.{Clears, shown_lines}
use Rattle.node_port.proofs.printing.push_whole.Given as goal

-- the text has the table so far behind it
abbrev pub invariant-loop-pair : goal.invariant-loop-pair
invariant-loop-pair l =
    string_bytes l.text ≡ string_bytes l.fn.text ++ shown_lines (Clears ∷ map put_of (take l.pair-index l.pairs))
