use Rattle.std.proofs.Common.{◌≡◌, ◌++◌, ◌∷◌, string_bytes, codes, take}
use Rattle.std.specs.Prelude.{flat_map}
use Rattle.command_lines.specs.Printing.{pair_text}
use Rattle.command_lines.proofs.printing.table_line.Given as goal

-- the line has the pairs so far
abbrev pub invariant-loop-pair : goal.invariant-loop-pair
invariant-loop-pair l = string_bytes l.line ≡ codes "table"
    ++ flat_map (λ e. 32 ∷ pair_text e) (take l.pair-index l.table)
