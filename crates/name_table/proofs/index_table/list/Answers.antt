use Rattle.std.proofs.Common.{◌∙◌, sym, ap, subst, is_some}
use Rattle.std.specs.Option.{option_copied_mut}
use Rattle.std.proofs.lemmas.Result.{err_from_is_err_and}
use Rattle.name_table.specs.Index.{HaveNames}
use Rattle.name_table.proofs.Listing.{writes_to, written_back, lists_more, lists_first, have_names-listed, have_names-first}
use Rattle.name_table.proofs.index_table.list.Goals as goal

pub returns-in_err-insert-clause-err : goal.returns-in_err-insert-clause-err
returns-in_err-insert-clause-err g c =
    rw (err_from_is_err_and c.from_residual.result c.from_residual.ensures.1).1
    (written_back c.args.owned.now.entries _ c.args.owner.now c.in-Some.names.now c.insert.new.self
    c.in-Some.ensures.value (c.get_mut.follows.holds c.insert.new.self).0 c.in_err-insert.ensures.err)

pub returns-in_err-insert-clause-named : goal.returns-in_err-insert-clause-named
returns-in_err-insert-clause-named g c = subst HaveNames
    (sym (written_back c.args.owned.now.entries _ c.args.owner.now c.in-Some.names.now c.insert.new.self
    c.in-Some.ensures.value (c.get_mut.follows.holds c.insert.new.self).0 c.in_err-insert.ensures.err))

pub returns-in-Some-clause-ok : goal.returns-in-Some-clause-ok
returns-in-Some-clause-ok g c =
    let h = c.get_mut.follows.holds c.insert.new.self in
    let k = c.in-Some.ensures.value in
    rw (← c.copy.ensures) (lists_more c.args.owned.now.entries _ c.args.owner.now c.copy.result c.in-Some.names.now
    c.insert.new.self k (h.3 (sym (ap is_some k))).0 c.in_ok-insert.ensures.ok)

pub returns-in-Some-clause-named : goal.returns-in-Some-clause-named
returns-in-Some-clause-named g c =
    let h = c.get_mut.follows.holds c.insert.new.self in
    let k = c.in-Some.ensures.value in
    have_names-listed c.args.owned.now.entries _ c.args.owner.now c.copy.result c.in-Some.names.now c.insert.new.self
    (h.3 (sym (ap is_some k))).0 c.in_ok-insert.ensures.ok

pub returns-clause-ok : goal.returns-clause-ok
returns-clause-ok g c =
    let none = sym (ap option_copied_mut c.in_default.is) ∙ c.get_mut.ensures.value in
    let same = ap (λ m. m.entries) c.get_mut.follows.holds-at-none in
    rw (← c.copy-2.ensures) (lists_first c.args.owned.now.entries _ c.args.owner.now c.copy-2.result
    c.one-names.result none c.one-names.ensures
    (rw (← c.copy-3.ensures) (writes_to _ _ _ c.copy-3.result _ same c.in_ok-insert-2.ensures.updates.0)))

pub returns-clause-named : goal.returns-clause-named
returns-clause-named g c =
    let same = ap (λ m. m.entries) c.get_mut.follows.holds-at-none in
    have_names-first c.args.owned.now.entries _ c.copy-3.result c.copy-2.result c.one-names.result
    (writes_to _ _ _ c.copy-3.result _ same c.in_ok-insert-2.ensures.updates.0) c.one-names.ensures
