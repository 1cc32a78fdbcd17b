use Rattle.std.proofs.Common.{◌≡◌, ap, sym, subst, ◌∙◌, ℕ, List, map, nat_cmp}
use Rattle.std.specs.Prelude.{All}
use Rattle.std.specs.BTreeMap.{BTreeMap, insert_entry}
use Rattle.std.specs.List.Sorted.{IsStrictlySortedBy}
use Rattle.std.specs.Map.{keys_of, values_of}
use Rattle.std.proofs.lemmas.Map.{keys-set_value}
use Rattle.std.proofs.lemmas.Result.{err_from_is_err_and}
use Rattle.lock_calls.specs.declared.call.LockCall.{LockCall}
use Rattle.lock_calls.specs.Calls.{as_call}
use Rattle.lock_calls.specs.LockCallsState.{IsOf}
use Rattle.lock_calls.proofs.Among.{put_among}
use Rattle.lock_calls.proofs.Filed.{filed-put, put_call-own, call_of-absent, written-put}
use Rattle.lock_calls.proofs.Ordered.{ordered_in}
use Rattle.lock_calls.proofs.calls.LockCalls.put.Goals as goal

pub invariant_of-self : goal.invariant_of-self
invariant_of-self c =
    let s : ℕ = c.call.inside.0.0.serial in
    let es = c.self.inside.calls.entries in
    let written : (c.get_mut.follows.lender c.set.new.self).entries ≡ insert_entry nat_cmp es s c.args.call =
    (c.get_mut.follows.holds c.set.new.self).0
    ∙ written-put s c.set.new.self c.in-Some.kept.now es c.self.invariant.rising c.in-Some.ensures.value
    ∙ ap (λ (d : LockCall). insert_entry nat_cmp es s d) c.set.ensures in
    record {
      of = subst (All (IsOf c.self.inside.node)) (sym written)
          (filed-put c.self.inside.node _ c.self.inside.calls.entries c.args.self.now c.args.call c.self.view_is
          (ap (λ (d : LockCall). d.holder.serial) c.call.view_is) c.self.invariant.of c.requires.own c.requires.live);
      rising = subst (IsStrictlySortedBy nat_cmp)
          (sym (ap keys_of (c.get_mut.follows.holds c.set.new.self).0 ∙ keys-set_value _ es c.set.new.self))
          c.self.invariant.rising;
    }

pub returns-in-Some-clause-ok : goal.returns-in-Some-clause-ok
returns-in-Some-clause-ok c =
    let s : ℕ = c.call.inside.0.0.serial in
    let es = c.self.inside.calls.entries in
    let written : (c.get_mut.follows.lender c.set.new.self).entries ≡ insert_entry nat_cmp es s c.args.call =
    (c.get_mut.follows.holds c.set.new.self).0
    ∙ written-put s c.set.new.self c.in-Some.kept.now es c.self.invariant.rising c.in-Some.ensures.value
    ∙ ap (λ (d : LockCall). insert_entry nat_cmp es s d) c.set.ensures in
    ap (λ (k : List (ℕ × LockCall)). map as_call (values_of k)) written
    ∙ put_call-own c.self.inside.node _ c.self.inside.calls.entries c.args.self.now c.args.call c.self.view_is
    (ap (λ (d : LockCall). d.holder.serial) c.call.view_is) c.self.invariant.of c.requires.own

pub returns-in-Some-clause-only_new : goal.returns-in-Some-clause-only_new
returns-in-Some-clause-only_new c =
    let s : ℕ = c.call.inside.0.0.serial in
    let es = c.self.inside.calls.entries in
    let written : (c.get_mut.follows.lender c.set.new.self).entries ≡ insert_entry nat_cmp es s c.args.call =
    (c.get_mut.follows.holds c.set.new.self).0
    ∙ written-put s c.set.new.self c.in-Some.kept.now es c.self.invariant.rising c.in-Some.ensures.value
    ∙ ap (λ (d : LockCall). insert_entry nat_cmp es s d) c.set.ensures in
    put_among c.self.inside.node es c.args.self.now c.self.view_is _ c.args.call _ written

pub returns-in-Some-clause-ordered : goal.returns-in-Some-clause-ordered
returns-in-Some-clause-ordered c =
    ordered_in c.self.inside.node c.self.inside.calls.entries c.args.self.now c.self.view_is c.self.invariant.of
    c.self.invariant.rising

pub returns-in_err-kept-clause-err : goal.returns-in_err-kept-clause-err
returns-in_err-kept-clause-err c =
    rw (err_from_is_err_and c.from_residual.result c.from_residual.ensures.1).1
    (call_of-absent c.self.inside.node _ c.self.inside.calls.entries c.args.self.now c.args.call c.self.view_is
    (ap (λ (d : LockCall). d.holder.serial) c.call.view_is) c.self.invariant.of c.requires.own
    (sym c.in_default.ensures.value))

pub returns-in_err-kept-clause-ordered : goal.returns-in_err-kept-clause-ordered
returns-in_err-kept-clause-ordered c =
    ordered_in c.self.inside.node c.self.inside.calls.entries c.args.self.now c.self.view_is c.self.invariant.of
    c.self.invariant.rising

pub returns-in_err-insert-clause-err : goal.returns-in_err-insert-clause-err
returns-in_err-insert-clause-err c =
    rw (err_from_is_err_and c.from_residual-in_err-insert.result c.from_residual-in_err-insert.ensures.1).1
    (call_of-absent c.self.inside.node _ c.self.inside.calls.entries c.args.self.now c.args.call c.self.view_is
    (ap (λ (d : LockCall). d.holder.serial) c.call.view_is) c.self.invariant.of c.requires.own
    (sym c.in_default.ensures.value))

pub invariant_of-self-2 : goal.invariant_of-self-2
invariant_of-self-2 c =
    let s : ℕ = c.call.inside.0.0.serial in
    let es = c.self.inside.calls.entries in
    let written : c.insert.new.self.entries ≡ insert_entry nat_cmp es s c.args.call =
    c.in_ok-insert.ensures.entries
    ∙ ap (λ (m : BTreeMap ℕ LockCall). insert_entry nat_cmp m.entries s c.in_ok-kept.kept)
    c.get_mut.follows.holds-at-none
    ∙ ap (λ (d : LockCall). insert_entry nat_cmp es s d) c.in_ok-kept.ensures in
    record {
      of = subst (All (IsOf c.self.inside.node)) (sym written)
          (filed-put c.self.inside.node _ c.self.inside.calls.entries c.args.self.now c.args.call c.self.view_is
          (ap (λ (d : LockCall). d.holder.serial) c.call.view_is) c.self.invariant.of c.requires.own c.requires.live);
      rising = c.insert.ensures.ordered;
    }

pub returns-clause-ok : goal.returns-clause-ok
returns-clause-ok c =
    let s : ℕ = c.call.inside.0.0.serial in
    let es = c.self.inside.calls.entries in
    let written : c.insert.new.self.entries ≡ insert_entry nat_cmp es s c.args.call =
    c.in_ok-insert.ensures.entries
    ∙ ap (λ (m : BTreeMap ℕ LockCall). insert_entry nat_cmp m.entries s c.in_ok-kept.kept)
    c.get_mut.follows.holds-at-none
    ∙ ap (λ (d : LockCall). insert_entry nat_cmp es s d) c.in_ok-kept.ensures in
    ap (λ (k : List (ℕ × LockCall)). map as_call (values_of k)) written
    ∙ put_call-own c.self.inside.node _ c.self.inside.calls.entries c.args.self.now c.args.call c.self.view_is
    (ap (λ (d : LockCall). d.holder.serial) c.call.view_is) c.self.invariant.of c.requires.own

pub returns-clause-only_new : goal.returns-clause-only_new
returns-clause-only_new c =
    let s : ℕ = c.call.inside.0.0.serial in
    let es = c.self.inside.calls.entries in
    let written : c.insert.new.self.entries ≡ insert_entry nat_cmp es s c.args.call =
    c.in_ok-insert.ensures.entries
    ∙ ap (λ (m : BTreeMap ℕ LockCall). insert_entry nat_cmp m.entries s c.in_ok-kept.kept)
    c.get_mut.follows.holds-at-none
    ∙ ap (λ (d : LockCall). insert_entry nat_cmp es s d) c.in_ok-kept.ensures in
    put_among c.self.inside.node es c.args.self.now c.self.view_is _ c.args.call _ written

pub returns-in_err-insert-clause-ordered : goal.returns-in_err-insert-clause-ordered
returns-in_err-insert-clause-ordered c =
    ordered_in c.self.inside.node c.self.inside.calls.entries c.args.self.now c.self.view_is c.self.invariant.of
    c.self.invariant.rising

pub returns-clause-ordered : goal.returns-clause-ordered
returns-clause-ordered c =
    ordered_in c.self.inside.node c.self.inside.calls.entries c.args.self.now c.self.view_is c.self.invariant.of
    c.self.invariant.rising
