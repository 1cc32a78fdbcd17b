use Rattle.std.proofs.Common.{ap, ◌∙◌}
use Rattle.std.specs.Option.{option_copied, option_to_list}
use Rattle.term.specs.NodeSets.{with_older}
use Rattle.term.proofs.Latest.{last_of_either}
use Rattle.term.proofs.node_set.NodeSet.last_of_both.Goals as goal

pub returns : goal.returns
returns c = λ d.
    ap (λ o. with_older (option_to_list (option_copied o)) d) c.max.ensures
    ∙ last_of_either c.args.name.now (with_older c.args.self.now) (with_older c.args.other.now) c.last_named.result
    c.last_named-2.result c.last_named.ensures c.last_named-2.ensures d
