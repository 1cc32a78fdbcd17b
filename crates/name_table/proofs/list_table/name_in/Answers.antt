use Rattle.std.proofs.Common.{◌∙◌, Option, ap, sym}
use Rattle.std.specs.Prelude.{is_some}
use Rattle.std.proofs.lemmas.List.{drop_all}
use Rattle.registry_model.specs.Process.{Text}
use Rattle.registry_model.specs.Table.{Table}
use Rattle.name_table.specs.Owners.{name_of}
use Rattle.name_table.proofs.Owners.{is_some-name_of}
use Rattle.name_table.proofs.list_table.name_in.Goals as goal

pub returns-clause-some : goal.returns-clause-some
returns-clause-some c =
    let nothing = ap (λ (t : Table). name_of c.args.owner.now t)
    (sym (drop_all c.loop-pair.pair-index c.args.pairs.now c.loop-pair-test.false))
    ∙ c.loop-pair.invariant in
    ap (λ (o : Option Text). is_some o) nothing ∙ is_some-name_of c.args.owner.now c.args.pairs.now
