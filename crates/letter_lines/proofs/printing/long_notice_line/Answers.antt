use Rattle.std.proofs.Common.{string_bytes, ◌∷◌, []}
use Rattle.std.proofs.lemmas.Result.{IfOk-weaker}
use Rattle.letter_lines.proofs.printing.long_notice_line.Goals as goal

pub returns : goal.returns
returns c = IfOk-weaker c.format.result _ _ (λ text e. record {
  process = string_bytes c.in_ok-process.process;
  name = c.as_str-name.result.now;
  last = string_bytes c.in_ok-other.other ∷ [];
  process_spelled = c.in_ok-process.ensures;
  name_spelled = c.as_str-name.ensures.spelled;
  last_spelled = c.in_ok-other.ensures;
  is = e;
}) c.format.ensures.ok
