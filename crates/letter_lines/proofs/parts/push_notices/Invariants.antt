use Rattle.std.proofs.Common.{◌≡◌, ◌++◌, map, take}
use Rattle.letter_lines.specs.declared.part.Part.TheVariants.{Notice}
use Rattle.letter_lines.proofs.parts.push_notices.Given as goal

-- the parts have those so far behind them
abbrev pub invariant-loop-noted : goal.invariant-loop-noted
invariant-loop-noted l = l.parts.items ≡ l.fn.parts.items ++ map Notice (take l.noted-index l.notices)
