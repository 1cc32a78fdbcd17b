use Rattle.std.proofs.Common.{ℕ, ap, sym, ◌==◌, ◌∙◌, rules, tests}
use Rattle.std.specs.List.{list_all, list_any}
use Rattle.std.proofs.lemmas.Iterator.{YieldsList-from_slice}
use Rattle.std.proofs.lemmas.Iterator.Search.{all_from_yields_List}
use Rattle.term.specs.Nodes.{name_of}
use Rattle.node_seats.specs.declared.Nodes.{Nodes}
use Rattle.console.specs.Locking.{are_members as all_members}
use Rattle.console.proofs.locking.are_members.Goals as goal

pub returns-in-Named : goal.returns-in-Named
returns-in-Named c =
    all_from_yields_List (λ (name : ℕ). list_any (λ (m : ℕ). name_of m == name) c.args.members.now) _ _ _ c.all.ensures.ran
    (YieldsList-from_slice _ c.iter.ensures.rest) (λ x b q k. search (rules, tests))
    ∙ ap (list_all (λ (name : ℕ). list_any (λ (m : ℕ). name_of m == name) c.args.members.now)) (c.as_slice.ensures.names ∙ c.as_set.ensures.names)
    ∙ ap (λ (ns : Nodes). all_members ns c.args.members.now) (sym c.in-Named.is)
