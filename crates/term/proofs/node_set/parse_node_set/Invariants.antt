use Rattle.std.proofs.Common.{◌≡◌, false}
use Rattle.std.specs.Str.Iter.{split_steps}
use Rattle.std.specs.Str.Pattern.{FindsChar}
use Rattle.term.specs.Spelling.{SpellsNode}
use Rattle.term.proofs.NodeLists.{HasRead}
use Rattle.term.proofs.node_set.parse_node_set.Given as goal

abbrev pub invariant-loop-part : goal.invariant-loop-part
invariant-loop-part l =
    HasRead SpellsNode (split_steps FindsChar (λ a b. b ≡ a)) (λ x. x.now) l.fn.text l.part-iterator l.nodes false
