use Rattle.std.proofs.Common.{◌≡◌, true, ap, ◌∙◌, rules, subst, sym}
use Rattle.std.specs.Prelude.{not, ◌==◌}
use Rattle.std.proofs.lemmas.Fn.{filter_same}
use Rattle.registry_model.specs.Table.{Pair, Table, is_rising, without}
use Rattle.registry_model.proofs.Tables.{is_rising-without}
use Rattle.name_table.proofs.list_table.ListTableNames.drop_node.Goals as goal

pub invariant_of-self : goal.invariant_of-self
invariant_of-self g c =
    subst (λ (t : Table). is_rising t ≡ true)
    (sym (filter_same _ (λ (e : Pair). not (e.owner.node == c.args.node.now)) _ (λ x b f' k. search rules) _ _
    c.retain.ensures.filtered))
    (is_rising-without (λ d. d == c.args.node.now) c.self.inside.pairs.items c.self.invariant)

pub returns : goal.returns
returns g c =
    filter_same _ _ _ (λ x b f' k. search rules) _ _ c.retain.ensures.filtered
    ∙ ap (without (λ d. d == c.args.node.now)) c.self.view_is
