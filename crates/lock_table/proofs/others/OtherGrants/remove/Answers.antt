use Rattle.std.proofs.Common.{sym, subst}
use Rattle.lock_table.specs.Grants.{Gone}
use Rattle.lock_table.proofs.Keeping.{kept-gone}
use Rattle.lock_table.proofs.Removal.{gone-swapped}
use Rattle.lock_table.proofs.others.OtherGrants.remove.Goals as goal

pub invariant_of-self : goal.invariant_of-self
invariant_of-self c =
    let k = c.args.key.now in
    let es = c.self.inside.grants.entries in
    let found = sym c.in-Some.ensures.value in
    kept-gone es c.self.inside.by_holder.entries c.self.inside.shared.entries c.self.invariant k c.in-Some.held c.take.new.places.entries
    c.leave.new.shared.entries found c.swap_remove.new.self.entries
    (subst (Gone k es) (sym c.swap_remove.ensures.entries) (gone-swapped k es c.in-Some.held found))
    c.swap_remove.ensures.unique c.swap_remove.ensures.updates.0
    c.take.ensures
    c.leave.ensures

pub returns-in-Some : goal.returns-in-Some
returns-in-Some c =
    let k = c.args.key.now in
    let es = c.self.inside.grants.entries in
    rw (← c.self.view_is) (
      λ none. absurd (cc (none, c.in-Some.ensures.value)),
      λ v found. subst (Gone k es) (sym c.swap_remove.ensures.entries) (gone-swapped k es v found),
    )

pub returns-in_default : goal.returns-in_default
returns-in_default c =
    rw (← c.self.view_is) (
      λ none. c.in_default.ensures.unchanged,
      λ v found. absurd (cc (found, c.in_default.ensures.value)),
    )
