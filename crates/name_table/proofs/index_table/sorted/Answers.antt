use Rattle.std.proofs.Common.{rules, ◌≡◌, map, sym, ◌∙◌}
use Rattle.std.proofs.lemmas.List.Sorted.{IsNonDecreasingBy-from_sort_by}
use Rattle.name_table.proofs.Sorting.{sorted-table_of, pairs_of-map}
use Rattle.name_table.proofs.index_table.sorted.Goals as goal

pub returns : goal.returns
returns g c =
    let all : map (λ e. (e.0.now, e.1.now)) c.in_ok-sorted.sorted.items ≡ c.args.owners.now.entries = search rules in
    sym (pairs_of-map (λ e. (e.0.now, e.1.now)) c.sort_by.new.self.items)
    ∙ sorted-table_of (λ e. (e.0.now, e.1.now)) c.args.owners.now.entries c.in_ok-sorted.sorted.items
    c.sort_by.new.self.items c.iter.ensures.unique all c.sort_by.ensures.permutation
    (IsNonDecreasingBy-from_sort_by (λ e. e.0.now) _ c.in_ok-sort_by.ensures.sorted (λ a r q k. search rules))
