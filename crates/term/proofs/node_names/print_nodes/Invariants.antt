use Rattle.std.proofs.Common.{◌≡◌, take, string_bytes}
use denote.Text.{Utf8}
use denote.Shadow.{shadow}
use Rattle.std.specs.List.{All}
use Rattle.term.specs.NodeLists.{list_of}
use Rattle.term.proofs.NodeTexts.{IsName, separator_of}
use Rattle.term.proofs.node_names.print_nodes.Given as goal

abbrev pub invariant-loop-name : goal.invariant-loop-name
invariant-loop-name g l =
    shadow (Utf8 l.separator)
    × (l.separator ≡ separator_of l.name-index)
    × (string_bytes l.text ≡ list_of (take l.name-index l.name-items))
    × All IsName (take l.name-index l.name-items)
