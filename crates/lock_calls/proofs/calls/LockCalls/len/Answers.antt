use Rattle.std.proofs.Common.{sym, ap, ◌∙◌, length}
use Rattle.std.proofs.lemmas.Map.Entries.{length-values_of}
use Rattle.lock_calls.specs.LockCallsState.{LockCallsState}
use Rattle.lock_calls.proofs.calls.LockCalls.len.Goals as goal

pub returns : goal.returns
returns c =
    c.len.ensures.len ∙ sym (length-values_of c.self.inside.calls.entries)
    ∙ ap (λ (h : LockCallsState). length h.calls) c.self.view_is
