use Rattle.std.proofs.Common.{◌≡◌, ◌++◌, map, take}
use Rattle.letter_lines.specs.declared.part.Part.TheVariants.{Remove}
use Rattle.letter_lines.proofs.parts.push_removes.Given as goal

-- the parts have those so far behind them
abbrev pub invariant-loop-name : goal.invariant-loop-name
invariant-loop-name l = l.parts.items ≡ l.fn.parts.items ++ map Remove (take l.name-index l.names)
