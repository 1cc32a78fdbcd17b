use Rattle.std.proofs.Common.{false, ◌==◌, ◌≡◌, sym, subst}
use Rattle.std.proofs.lemmas.List.Elements.{All-nil}
use Rattle.lock_table.specs.Filed.{Entry}
use Rattle.lock_table.specs.Grants.{IsNoneOn}
use Rattle.lock_table.proofs.grants.AllGrants.new.Goals as goal

pub invariant_of-result : goal.invariant_of-result
invariant_of-result c =
    λ _. subst (IsNoneOn c.global.result) (sym c.new.ensures)
    (All-nil (λ (e : Entry). (e.0.resource == c.global.result) ≡ false))
