use Rattle.std.proofs.Common.{ap, sym, ◌∙◌, rules, tests}
use Rattle.std.specs.List.{list_all}
use Rattle.std.proofs.lemmas.Iterator.{YieldsList-from_slice}
use Rattle.std.proofs.lemmas.Iterator.Search.{all_from_yields_List}
use Rattle.protocol_model.specs.Event.{names_members}
use Rattle.term.specs.NodeSets.{names_in}
use Rattle.transaction.specs.Calls.{target_of}
use Rattle.transaction.specs.declared.nodes.Nodes.{Nodes}
use Rattle.node_core.specs.Seen.{node_of}
use Rattle.node_core.proofs.Naming.{all_have}
use Rattle.node_core.proofs.node.NodeCore.names_members.Goals as goal

pub returns-in-Named : goal.returns-in-Named
returns-in-Named g c =
    all_from_yields_List (names_in c.args.self.now.members) _ _ _ c.all.ensures.ran
    (YieldsList-from_slice _ c.iter.ensures.rest) (λ x b q k. search (rules, tests))
    ∙ ap (list_all (names_in c.args.self.now.members)) (c.as_slice-names.ensures.names ∙ c.as_set.ensures.names)
    ∙ all_have c.in-Named.named c.args.self.now.members c.as_set.ensures.first
    ∙ ap (λ (ns : Nodes). names_members (node_of c.args.self.now) (target_of ns)) (sym c.in-Named.is)
