use Rattle.std.proofs.Common.{◌≡◌, ◌++◌, ◌∷◌, string_bytes, codes, take}
use Rattle.std.specs.Prelude.{flat_map}
use Rattle.term.specs.Spelling.{node_bytes}
use Rattle.command_lines.proofs.printing.members_line.Given as goal

-- the line has the members so far
abbrev pub invariant-loop-member : goal.invariant-loop-member
invariant-loop-member l = string_bytes l.line ≡ codes "members"
    ++ flat_map (λ a. 32 ∷ node_bytes a) (take l.member-index l.members)
