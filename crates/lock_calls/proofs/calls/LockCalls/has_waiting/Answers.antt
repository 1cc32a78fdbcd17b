use Rattle.std.proofs.Common.{ap, ◌∙◌, rules, tests}
use Rattle.std.specs.List.{list_any}
use Rattle.std.specs.Map.{values_of}
use Rattle.std.proofs.lemmas.Iterator.Consumers.{YieldsList-from_rest}
use Rattle.std.proofs.lemmas.Iterator.Search.{any_from_yields_List}
use Rattle.protocol_model.specs.Event.{is_waiting_call}
use Rattle.lock_calls.specs.Calls.{phase_of}
use Rattle.lock_calls.specs.LockCallsState.{LockCallsState, seen}
use Rattle.lock_calls.proofs.Filed.{any_seen}
use Rattle.lock_calls.proofs.calls.LockCalls.has_waiting.Goals as goal

pub returns : goal.returns
returns c =
    any_from_yields_List (λ d. is_waiting_call (phase_of d.phase)) _ _ _ c.any.ensures.ran
    (YieldsList-from_rest _ c.values.ensures.rest) (λ x b q k. search (rules, tests))
    ∙ any_seen (values_of c.self.inside.calls.entries)
    ∙ ap (λ (h : LockCallsState). list_any (λ d. is_waiting_call d.phase) (seen h)) c.self.view_is
