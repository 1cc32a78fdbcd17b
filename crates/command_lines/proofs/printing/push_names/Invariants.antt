use Rattle.std.proofs.Common.{◌≡◌, ◌++◌, ◌∷◌, string_bytes, codes, take}
use Rattle.std.specs.Prelude.{flat_map}
use Rattle.term.specs.Spelling.{bytes_of}
use Rattle.command_lines.proofs.printing.push_names.Given as goal

-- the text has the names so far behind it
abbrev pub invariant-loop-name : goal.invariant-loop-name
invariant-loop-name l = string_bytes l.text ≡ string_bytes l.fn.text ++ (codes "names"
    ++ flat_map (λ x. 32 ∷ bytes_of x) (take l.name-index l.names))
