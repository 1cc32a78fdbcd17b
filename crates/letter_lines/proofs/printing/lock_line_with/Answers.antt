use Rattle.std.proofs.Common.{string_bytes}
use Rattle.std.proofs.lemmas.Result.{IfOk-weaker}
use Rattle.letter_lines.proofs.printing.lock_line_with.Goals as goal

pub returns : goal.returns
returns c = IfOk-weaker c.format.result _ _ (λ text e. record {
  resource = c.as_str-resource.result.now;
  requester = string_bytes c.in_ok-requester.requester;
  holder = string_bytes c.in_ok-holder.holder;
  resource_spelled = c.as_str-resource.ensures.spelled;
  requester_spelled = c.in_ok-requester.ensures;
  holder_spelled = c.in_ok-holder.ensures;
  is = e;
}) c.format.ensures.ok
