use Rattle.std.proofs.Common.{rules, ◌≡◌, true, map, IfOk, subst, ◌∙◌}
use Rattle.registry_model.specs.Table.{Table, is_rising}
use Rattle.name_table.specs.Index.{pair_of}
use Rattle.name_table.proofs.Index.{is_rising-table_of}
use Rattle.name_table.proofs.index_table.IndexTableNames.pairs.Goals as goal

pub returns-in_err-sorted-clause-rising : goal.returns-in_err-sorted-clause-rising
returns-in_err-sorted-clause-rising g c =
    subst (λ (t : Table). is_rising t ≡ true) c.self.view_is (is_rising-table_of c.self.inside.owners.entries)

pub returns-clause-rising : goal.returns-clause-rising
returns-clause-rising g c =
    subst (λ (t : Table). is_rising t ≡ true) c.self.view_is (is_rising-table_of c.self.inside.owners.entries)

pub returns-clause-all : goal.returns-clause-all
returns-clause-all g c =
    let all : IfOk c.pairs_in.result
    (λ pairs. pairs.items ≡ map (λ e. pair_of (e.0.now, e.1.now)) c.in_ok-sorted.field-0.items) =
    search rules in
    subst (λ (t : Table). IfOk c.pairs_in.result (λ pairs. pairs.items ≡ t)) (c.in_ok-sorted.ensures ∙ c.self.view_is) all
