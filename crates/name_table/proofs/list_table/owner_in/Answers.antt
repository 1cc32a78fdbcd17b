use Rattle.std.proofs.Common.{ap, sym, ◌∙◌}
use Rattle.registry_model.proofs.Tables.{get-entry, owner_in}
use Rattle.name_table.proofs.list_table.owner_in.Goals as goal

pub returns-in_err-entry : goal.returns-in_err-entry
returns-in_err-entry c =
    c.from_residual.ensures ∙ ap owner_in c.in_err-entry.ensures ∙ sym (get-entry c.args.name.now c.args.pairs.now)

pub returns : goal.returns
returns c = ap owner_in c.in_ok-entry.ensures ∙ sym (get-entry c.args.name.now c.args.pairs.now)
