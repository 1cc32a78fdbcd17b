use Rattle.std.proofs.Common.{◌≡◌, ◌++◌, ◌∷◌, string_bytes, codes, take}
use Rattle.std.specs.Prelude.{flat_map}
use Rattle.term.specs.Spelling.{bytes_of}
use Rattle.console.specs.Chosen.{names_from}
use Rattle.console.proofs.chosen.names_line.Given as goal

-- the line has those of the names so far that begin so
abbrev pub invariant-loop-name : goal.invariant-loop-name
invariant-loop-name l = string_bytes l.line ≡ codes "names"
    ++ flat_map (λ x. 32 ∷ bytes_of x) (names_from l.prefix (take l.name-index l.names))
