use Rattle.std.proofs.Common.{◌≡◌, ◌++◌, map, take}
use Rattle.letter_lines.specs.declared.part.Part.TheVariants.{Told}
use Rattle.letter_lines.proofs.parts.push_told.Given as goal

-- the parts have those so far behind them
abbrev pub invariant-loop-node : goal.invariant-loop-node
invariant-loop-node l = l.parts.items ≡ l.fn.parts.items ++ map Told (take l.node-index l.nodes)
