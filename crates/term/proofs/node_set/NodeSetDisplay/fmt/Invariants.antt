use Rattle.std.proofs.Common.{◌≡◌, take}
use denote.Text.{Utf8}
use denote.Shadow.{shadow}
use Rattle.std.specs.Fmt.{HasWritten, IsPlainFormatter}
use Rattle.term.specs.NodeLists.{list_of_nodes}
use Rattle.term.proofs.NodeTexts.{separator_of}
use Rattle.term.proofs.node_set.NodeSetDisplay.fmt.Given as goal

abbrev pub invariant-loop-node : goal.invariant-loop-node
invariant-loop-node g l =
    shadow (Utf8 l.separator)
    × (l.separator ≡ separator_of l.node-index)
    × (IsPlainFormatter l.initial.f
    → HasWritten g.W.Write.write_str_gives l.initial.f (list_of_nodes (take l.node-index l.node-items)) l.f)
