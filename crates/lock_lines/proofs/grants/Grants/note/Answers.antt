use Rattle.std.proofs.Common.{ℕ, ◌+◌, ◌∙◌, ap}
use Rattle.std.specs.BTreeMap.{insert_entry}
use Rattle.lock_lines.specs.Held.{grant_cmp}
use Rattle.lock_lines.proofs.grants.Grants.note.Goals as goal

pub returns-clause-ok : goal.returns-clause-ok
returns-clause-ok c = c.in_ok-insert.ensures.entries
    ∙ ap (insert_entry grant_cmp c.args.self.now.times.entries c.args.grant) (c.in-Some.ensures.1 ∙ ap (λ (n : ℕ). n + 1) c.times.ensures)
