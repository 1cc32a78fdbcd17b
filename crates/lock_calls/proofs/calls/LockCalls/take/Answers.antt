use Rattle.std.proofs.Common.{Some, ap, sym, subst, ◌∙◌, ℕ, List, map}
use Rattle.std.specs.Prelude.{All}
use Rattle.std.specs.Map.{values_of}
use Rattle.std.specs.Option.{option_map}
use Rattle.lock_calls.specs.declared.call.LockCall.{LockCall}
use Rattle.lock_calls.specs.Calls.{as_call}
use Rattle.lock_calls.specs.LockCallsState.{IsOf}
use Rattle.lock_calls.proofs.Among.{among_itself, removed_among, found_among}
use Rattle.lock_calls.proofs.Filed.{call_of-other, call_of-own, drop_call-other, drop_call-own, filed-remove_entry}
use Rattle.lock_calls.proofs.Ordered.{ordered_in}
use Rattle.lock_calls.proofs.calls.LockCalls.take.Goals as goal

pub returns-then-ne-clause-calls : goal.returns-then-ne-clause-calls
returns-then-ne-clause-calls c =
    sym (drop_call-other c.self.inside.node c.self.inside.calls.entries c.args.self.now _ c.args.holder.now
    c.self.view_is c.holder.view_is c.self.invariant.of c.if-ne.ensures)

pub returns-then-ne-clause-call : goal.returns-then-ne-clause-call
returns-then-ne-clause-call c =
    sym (call_of-other c.self.inside.node c.self.inside.calls.entries c.args.self.now _ c.args.holder.now c.self.view_is
    c.holder.view_is c.self.invariant.of c.if-ne.ensures)

pub invariant_of-self : goal.invariant_of-self
invariant_of-self c = record {
  of = subst (All (IsOf c.self.inside.node)) (sym c.remove.ensures.entries)
      (filed-remove_entry c.self.inside.node _ c.self.inside.calls.entries c.self.invariant.of);
  rising = c.remove.ensures.ordered;
}

pub returns-clause-calls : goal.returns-clause-calls
returns-clause-calls c =
    ap (λ (es : List (ℕ × LockCall)). map as_call (values_of es)) c.remove.ensures.entries
    ∙ drop_call-own c.self.inside.node c.self.inside.calls.entries c.args.self.now _ c.args.holder.now c.self.view_is
    c.holder.view_is c.self.invariant.of c.self.invariant.rising c.if-ne.ensures

pub returns-clause-call : goal.returns-clause-call
returns-clause-call c =
    ap (λ (d : LockCall). Some (as_call d)) c.into_call.ensures ∙ ap (option_map as_call) c.in_ok-kept.ensures.value
    ∙ call_of-own c.self.inside.node c.self.inside.calls.entries c.args.self.now _ c.args.holder.now c.self.view_is
    c.holder.view_is c.self.invariant.of c.if-ne.ensures

pub returns-in_err-kept-clause-calls : goal.returns-in_err-kept-clause-calls
returns-in_err-kept-clause-calls c =
    ap (λ (es : List (ℕ × LockCall)). map as_call (values_of es)) c.remove.ensures.entries
    ∙ drop_call-own c.self.inside.node c.self.inside.calls.entries c.args.self.now _ c.args.holder.now c.self.view_is
    c.holder.view_is c.self.invariant.of c.self.invariant.rising c.if-ne.ensures

pub returns-in_err-kept-clause-call : goal.returns-in_err-kept-clause-call
returns-in_err-kept-clause-call c =
    rw c.from_residual.ensures (ap (option_map as_call) c.in_err-kept.ensures.value
    ∙ call_of-own c.self.inside.node c.self.inside.calls.entries c.args.self.now _ c.args.holder.now c.self.view_is
    c.holder.view_is c.self.invariant.of c.if-ne.ensures)

pub returns-in_err-kept-clause-none_new : goal.returns-in_err-kept-clause-none_new
returns-in_err-kept-clause-none_new c =
    removed_among c.self.inside.node c.self.inside.calls.entries c.args.self.now c.self.view_is _ _
    c.remove.ensures.entries

pub returns-in_err-kept-clause-ordered : goal.returns-in_err-kept-clause-ordered
returns-in_err-kept-clause-ordered c =
    ordered_in c.self.inside.node c.self.inside.calls.entries c.args.self.now c.self.view_is c.self.invariant.of
    c.self.invariant.rising

pub invariant_of-self-2 : goal.invariant_of-self-2
invariant_of-self-2 c = record {
  of = subst (All (IsOf c.self.inside.node)) (sym c.remove.ensures.entries)
      (filed-remove_entry c.self.inside.node _ c.self.inside.calls.entries c.self.invariant.of);
  rising = c.remove.ensures.ordered;
}

pub returns-then-ne-clause-none_new : goal.returns-then-ne-clause-none_new
returns-then-ne-clause-none_new c = among_itself c.args.self.now.calls

pub returns-clause-member : goal.returns-clause-member
returns-clause-member c =
    found_among c.self.inside.node c.self.inside.calls.entries c.args.self.now c.self.view_is _
    (Some c.into_call.result) (ap Some c.into_call.ensures ∙ c.in_ok-kept.ensures.value)

pub returns-clause-none_new : goal.returns-clause-none_new
returns-clause-none_new c =
    removed_among c.self.inside.node c.self.inside.calls.entries c.args.self.now c.self.view_is _ _
    c.remove.ensures.entries

pub returns-then-ne-clause-ordered : goal.returns-then-ne-clause-ordered
returns-then-ne-clause-ordered c =
    ordered_in c.self.inside.node c.self.inside.calls.entries c.args.self.now c.self.view_is c.self.invariant.of
    c.self.invariant.rising

pub returns-clause-ordered : goal.returns-clause-ordered
returns-clause-ordered c =
    ordered_in c.self.inside.node c.self.inside.calls.entries c.args.self.now c.self.view_is c.self.invariant.of
    c.self.invariant.rising
