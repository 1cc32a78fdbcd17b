use Rattle.std.proofs.Common.{List, [], ◌∷◌, ◌++◌, Some, ◌∙◌, ap, sym, subst, arith}
use Rattle.std.specs.List.Sorted.{IsPermutation}
use Rattle.std.proofs.lemmas.List.{length-map}
use Rattle.std.proofs.lemmas.List.Sorted.{IsPermutation-refl}
use Rattle.indexmap.specs.IndexMap.{insert_entry}
use Rattle.indexmap.proofs.CallerLemmas.{insert_entry-new}
use Rattle.lock_table.specs.declared.grant.Held.{Held}
use Rattle.lock_table.specs.Filed.{Entry, is_key}
use Rattle.lock_table.specs.Sharers.{Joins, Shared, grants_in, sharers_of}
use Rattle.lock_table.proofs.Index.{Sets}
use Rattle.lock_table.proofs.Copied.{copied_kept}
use Rattle.lock_table.proofs.Keeping.{kept-first}
use Rattle.lock_table.proofs.Sharing.{countable}
use Rattle.lock_table.proofs.others.OtherGrants.file.Goals as goal

pub join-requires-clause-countable : goal.join-requires-clause-countable
join-requires-clause-countable c =
    let most = countable c.self.inside.grants.entries c.self.inside.shared.entries c.self.invariant.counted
    c.args.key.resource in
    let same = ap (λ (s : Shared). grants_in (sharers_of c.args.key.resource s)) c.reserve-2.ensures.entries in
    let few = rw (← c.self.view_is) at c.requires.few in
    omega (arith, most, same, few, length-map c.self.inside.grants.entries (λ (e : Entry). e.0))

-- a refusal left all in its place
pub invariant_of-self-in_err-put : goal.invariant_of-self-in_err-put
invariant_of-self-in_err-put c =
    copied_kept c.self.inside.grants.entries c.reserve.new.self.entries c.self.inside.by_holder.entries
    c.put.new.places.entries c.self.inside.shared.entries c.reserve-2.new.self.entries c.reserve.ensures.entries
    c.in_err-put.ensures.err c.reserve-2.ensures.entries c.self.invariant

pub invariant_of-self-2 : goal.invariant_of-self-2
invariant_of-self-2 c =
    let m = c.self.inside.grants in
    let k = c.args.key in
    let v : Held = record { requester = c.args.requester; count = 1; number = c.args.number } in
    let absent = rw (← c.self.view_is) at c.requires.absent in
    let free = rw (← c.self.view_is) at c.requires.free in
    let last = rw (← c.self.view_is) at c.requires.last in
    kept-first m.entries c.self.inside.by_holder.entries c.self.inside.shared.entries c.self.invariant k v c.put.new.places.entries
    c.join.new.shared.entries absent free last
    c.in_ok-put.ensures.ok
    (subst (λ (s : Shared). Joins k.resource c.args.requester s c.join.new.shared.entries)
    c.reserve-2.ensures.entries c.join.ensures)
    c.insert.new.self.entries
    ((rw c.unwrap-none.ensures at c.insert.ensures.entries)
    ∙ ap (λ (es : List Entry). insert_entry is_key es k v) c.reserve.ensures.entries
    ∙ insert_entry-new is_key m k v absent)
    c.insert.ensures.unique
    (subst (λ (es : List Entry). Sets k (Some v) es c.insert.new.self.entries) c.reserve.ensures.entries
    (rw c.unwrap-none.ensures at c.insert.ensures.updates).0)

pub returns-clause-ok : goal.returns-clause-ok
returns-clause-ok c =
    let m = c.self.inside.grants in
    let k = c.args.key in
    let v : Held = record { requester = c.args.requester; count = 1; number = c.args.number } in
    let absent = rw (← c.self.view_is) at c.requires.absent in
    rw (← c.self.view_is)
    (subst (IsPermutation (m.entries ++ (k, v) ∷ []))
    (sym ((rw c.unwrap-none.ensures at c.insert.ensures.entries)
    ∙ ap (λ (es : List Entry). insert_entry is_key es k v) c.reserve.ensures.entries
    ∙ insert_entry-new is_key m k v absent))
    (IsPermutation-refl (m.entries ++ (k, v) ∷ [])))
