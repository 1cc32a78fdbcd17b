use Rattle.std.proofs.Common.{None, Some, sym, ap, is_some}
use Rattle.std.proofs.lemmas.List.{nil_from_length}
use Rattle.name_table.proofs.Agreement.{have_names}
use Rattle.name_table.proofs.Listing.{writes_over, unlists_one, unlists_last, some_left}
use Rattle.name_table.proofs.index_table.unlist.Goals as goal

pub returns-then-is_empty-clause-unlisted : goal.returns-then-is_empty-clause-unlisted
returns-then-is_empty-clause-unlisted g c =
    let k = c.in-Some.ensures.value in
    let h = c.get_mut.follows.holds c.remove.new.self in
    unlists_last c.args.owned.now.entries _ c.args.owner.now c.args.name.now c.in-Some.names.now c.remove.new.self k
    (nil_from_length c.remove.new.self.keys (c.is_empty.ensures.0 c.if-is_empty.true))
    (writes_over _ _ _ c.args.owner.now (Some c.remove.new.self) None (h.3 (sym (ap is_some k))).0
    c.swap_remove.ensures.updates.0) c.remove.ensures

pub returns-then-is_empty-clause-named : goal.returns-then-is_empty-clause-named
returns-then-is_empty-clause-named g c =
    let k = c.in-Some.ensures.value in
    let h = c.get_mut.follows.holds c.remove.new.self in
    have_names c.args.owned.now.entries _ c.args.owner.now None
    (writes_over _ _ _ c.args.owner.now (Some c.remove.new.self) None (h.3 (sym (ap is_some k))).0
    c.swap_remove.ensures.updates.0) (λ kept i. cc)

pub returns-else-is_empty-clause-unlisted : goal.returns-else-is_empty-clause-unlisted
returns-else-is_empty-clause-unlisted g c =
    let k = c.in-Some.ensures.value in
    let h = c.get_mut.follows.holds c.remove.new.self in
    unlists_one c.args.owned.now.entries _ c.args.owner.now c.args.name.now c.in-Some.names.now c.remove.new.self k
    (h.3 (sym (ap is_some k))).0 c.remove.ensures

pub returns-else-is_empty-clause-named : goal.returns-else-is_empty-clause-named
returns-else-is_empty-clause-named g c =
    let k = c.in-Some.ensures.value in
    let h = c.get_mut.follows.holds c.remove.new.self in
    have_names c.args.owned.now.entries _ c.args.owner.now (Some c.remove.new.self) (h.3 (sym (ap is_some k))).0
    (some_left c.remove.new.self c.is_empty.result c.is_empty.ensures.1 c.if-is_empty.false)
