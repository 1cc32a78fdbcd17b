use Rattle.std.proofs.Common.{false, ◌≡◌, ◌∙◌, sym, ap}
use Rattle.lock_table.specs.Grants.{is_in_place}
use Rattle.lock_table.proofs.Beside.{held_others, none_at}
use Rattle.lock_table.proofs.grants.AllGrants.get.Goals as goal
use Rattle.lock_table.proofs.grants.AllGrants.get.Goals.{in_default-via-in-Some+else-eq, in_default-via-in_default}

-- none of the others is on `global`, and the key is
pub returns-in_default : goal.returns-in_default
returns-in_default c =
    let other : is_in_place c.args.key.now c.self.inside.kept ≡ false = elim c.in_default.branch [
      | in_default-via-in-Some+else-eq w ↦ ap (is_in_place c.args.key.now) w.in-Some.is ∙ sym w.eq.ensures ∙ w.if-eq.false
      | in_default-via-in_default w ↦ ap (is_in_place c.args.key.now) w.in_default.is
    ] in record {
      value = rw (← c.self.view_is)
          (sym (held_others c.self.inside.kept c.self.inside.others c.args.key.now other
          ∙ none_at c.self.inside.global c.args.key.now c.self.inside.others (sym c.eq-then-self.ensures ∙ c.if-eq-2.true)
          (c.self.invariant c.if-self.true)));
    }
