use Rattle.std.proofs.Common.{rules}
use Rattle.std.proofs.lemmas.Fn.{filter_same}
use Rattle.lock_lines.proofs.waiting_calls.WaitingCalls.leave.Goals as goal

pub returns-clause-calls : goal.returns-clause-calls
returns-clause-calls c = filter_same _ _ _ (λ x b f' k. search rules) _ _ c.retain.ensures.filtered
