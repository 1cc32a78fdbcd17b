use Rattle.std.proofs.Common.{◌≡◌, ◌++◌, map, take}
use Rattle.letter_lines.specs.declared.part.Part.TheVariants.{Pair}
use Rattle.letter_lines.proofs.parts.push_pairs.Given as goal

-- the parts have those so far behind them
abbrev pub invariant-loop-pair : goal.invariant-loop-pair
invariant-loop-pair l = l.parts.items ≡ l.fn.parts.items ++ map Pair (take l.pair-index l.pairs)
