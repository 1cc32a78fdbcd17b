use Rattle.std.proofs.Common.{ap, ◌∙◌}
use Rattle.registry_model.specs.Table.{is_rising}
use Rattle.registry_model.proofs.Tables.{is_rising-remove, is_rising-strike}
use Rattle.name_table.proofs.list_table.ListTableNames.write.Goals as goal

pub invariant_of-self-in-Remove : goal.invariant_of-self-in-Remove
invariant_of-self-in-Remove g c =
    ap is_rising c.remove_from.ensures ∙ is_rising-remove c.in-Remove.name c.self.inside.pairs.items c.self.invariant

pub invariant_of-self-in-StrikeOwner : goal.invariant_of-self-in-StrikeOwner
invariant_of-self-in-StrikeOwner g c =
    ap is_rising c.strike_in.ensures
    ∙ is_rising-strike c.in-StrikeOwner.owner c.self.inside.pairs.items c.self.invariant
