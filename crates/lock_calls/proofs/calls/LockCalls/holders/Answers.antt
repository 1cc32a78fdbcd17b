use Rattle.std.proofs.Common.{ap, ◌∙◌, map, rules}
use Rattle.std.proofs.lemmas.Result.{IfOk-weaker}
use Rattle.std.proofs.lemmas.Iterator.{YieldsList-from_map, items_from_collect}
use Rattle.std.proofs.lemmas.Iterator.Consumers.{YieldsList-from_rest, YieldsList-at}
use Rattle.lock_calls.specs.LockCallsState.{LockCallsState}
use Rattle.lock_calls.proofs.Ordered.{ordered_in}
use Rattle.lock_calls.proofs.calls.LockCalls.holders.Goals as goal

pub returns-clause-holders : goal.returns-clause-holders
returns-clause-holders c =
    IfOk-weaker c.collect.result _ _
    (λ w e. e ∙ ap (λ (h : LockCallsState). map (λ d. d.holder) h.calls) c.self.view_is)
    (items_from_collect c.collect.result c.collect.ensures.ran
    (YieldsList-from_map _ (λ d. d.holder)
    (YieldsList-at c.map.ensures.source (YieldsList-from_rest _ c.values.ensures.rest))
    c.map.ensures.closure (λ x r q k. search rules)))

pub returns-clause-ordered : goal.returns-clause-ordered
returns-clause-ordered c =
    ordered_in c.self.inside.node c.self.inside.calls.entries c.args.self.now c.self.view_is c.self.invariant.of
    c.self.invariant.rising
