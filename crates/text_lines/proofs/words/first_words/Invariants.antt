use Rattle.std.proofs.Common.{◌≡◌, ◌++◌, ◌≤◌, map, length}
use denote.Text.{Utf8}
use denote.Shadow.{shadow}
use Rattle.term.specs.declared.limits.TheConstants.{MOST_WORDS}
use Rattle.text_lines.specs.Words.{words}
use Rattle.text_lines.proofs.words.first_words.Given as goal

abbrev pub invariant-loop-rest : goal.invariant-loop-rest
invariant-loop-rest l = record {
  text : shadow (Utf8 l.rest);
  room : length l.first.items ≤ MOST_WORDS;
  taken : map (λ word. word.now) l.first.items ++ words l.rest ≡ words l.fn.line;
}

abbrev pub decreases-loop-rest : goal.decreases-loop-rest
decreases-loop-rest l = length l.rest
