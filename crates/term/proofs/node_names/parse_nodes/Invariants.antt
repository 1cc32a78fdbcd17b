use Rattle.std.proofs.Common.{◌≡◌}
use Rattle.std.specs.Str.Iter.{split_steps}
use Rattle.std.specs.Str.Pattern.{FindsChar}
use Rattle.term.specs.Spelling.{SpellsNodeName}
use Rattle.term.proofs.NodeLists.{HasRead}
use Rattle.term.proofs.node_names.parse_nodes.Given as goal

abbrev pub invariant-loop-part : goal.invariant-loop-part
invariant-loop-part l =
    HasRead SpellsNodeName (split_steps FindsChar (λ a b. b ≡ a)) (λ x. x.now) l.fn.text l.part-iterator l.nodes l.is_over
