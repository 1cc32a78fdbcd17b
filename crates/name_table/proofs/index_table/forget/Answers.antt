use Rattle.std.proofs.Common.{◌∙◌}
use Rattle.name_table.proofs.Listing.{forget_one}
use Rattle.name_table.proofs.index_table.forget.Goals as goal

pub loop-name-preserved : goal.loop-name-preserved
loop-name-preserved g c y =
    forget_one c.loop-name.names c.pop.new.self c.loop-name.owners.entries _ c.in-Some.name
    c.in-Some.ensures.member c.in-Some.ensures.others c.swap_remove.ensures.updates.0 y
    ∙ c.loop-name.invariant y
