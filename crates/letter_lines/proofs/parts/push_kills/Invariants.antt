use Rattle.std.proofs.Common.{◌≡◌, ◌++◌, map, take}
use Rattle.letter_lines.specs.declared.part.Part.TheVariants.{Kill}
use Rattle.letter_lines.proofs.parts.push_kills.Given as goal

-- the parts have those so far behind them
abbrev pub invariant-loop-process : goal.invariant-loop-process
invariant-loop-process l = l.parts.items ≡ l.fn.parts.items ++ map Kill (take l.process-index l.processes)
