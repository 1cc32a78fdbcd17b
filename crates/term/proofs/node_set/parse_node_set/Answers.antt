use Rattle.std.proofs.Common.{◌∙◌, arith, sym}
use Rattle.std.proofs.lemmas.Iterator.Splits.{YieldsList-from_str_split}
use Rattle.term.specs.Spelling.{SpellsNode}
use Rattle.term.proofs.NodeLists.{read_none}
use Rattle.term.proofs.NodeSetTexts.{spells, read_node_set, one_more, no_node, no_room}
use Rattle.term.proofs.node_set.parse_node_set.Goals as goal

pub loop-part-init : goal.loop-part-init
loop-part-init c =
    rw (c.into_iter-part-iterator.ensures.into_iter_gives)
    (read_none SpellsNode _ _ c.args.text.now c.split-part-items.result _
    (YieldsList-from_str_split 44 c.args.text.now (omega arith) c.split-part-items.ensures.text
    c.split-part-items.ensures.has_more
    c.split-part-items.ensures.pattern)
    c.empty-nodes.ensures)

pub returns-in_err-node : goal.returns-in_err-node
returns-in_err-node c =
    rw (c.from_residual.ensures)
    (no_node _ _ c.args.text.now _ c.next.new.self _ c.loop-part.invariant c.in-Some.part c.parse_node.result c.in-Some.ensures.steps
    c.parse_node.ensures (sym c.ok.ensures.value ∙ c.in_err-node.was))

pub loop-part-preserved : goal.loop-part-preserved
loop-part-preserved c =
    one_more _ _ c.args.text.now _ _ _ c.loop-part.invariant c.in-Some.part c.in_ok-node.node _ c.insert.result c.in_ok-ok.field-0
    c.in-Some.ensures.steps
    (spells c.in-Some.part.now c.in_ok-node.node c.parse_node.result c.parse_node.ensures (sym c.ok.ensures.value ∙ c.in_ok-node.was))
    c.insert.ensures.inserted (sym c.ok-in-loop-part.ensures.value ∙ c.in_ok-ok.was) c.insert.ensures.set

pub returns-in_err-ok : goal.returns-in_err-ok
returns-in_err-ok c =
    rw (c.from_residual-in_err-ok.ensures)
    (no_room _ _ c.args.text.now _ c.next.new.self _ c.loop-part.invariant c.in-Some.part c.in_ok-node.node _ c.insert.result
    c.in-Some.ensures.steps
    (spells c.in-Some.part.now c.in_ok-node.node c.parse_node.result c.parse_node.ensures (sym c.ok.ensures.value ∙ c.in_ok-node.was))
    c.insert.ensures.inserted (sym c.ok-in-loop-part.ensures.value ∙ c.in_err-ok.was))

pub returns : goal.returns
returns c =
    read_node_set _ _ _ _ _ _ c.loop-part.invariant c.in-None.ensures.steps
