use Rattle.std.proofs.Common.{arith, subst, sym}
use Rattle.std.proofs.lemmas.Iterator.Splits.{YieldsList-from_str_split}
use Rattle.std.proofs.lemmas.Result.{err_from_is_err_and}
use Rattle.term.specs.Spelling.{SpellsNodeName}
use Rattle.term.proofs.ExactNodes.{spelled_first}
use Rattle.term.proofs.NodeLists.{read_none, read_more, read_set, read_too_many, read_fault}
use Rattle.term.proofs.node_names.parse_nodes.Goals as goal

pub loop-part-init : goal.loop-part-init
loop-part-init c =
    rw (c.into_iter-part-iterator.ensures.into_iter_gives)
    (read_none SpellsNodeName _ _ c.args.text.now c.split-part-items.result _
    (YieldsList-from_str_split 44 c.args.text.now (omega arith) c.split-part-items.ensures.text
    c.split-part-items.ensures.has_more
    c.split-part-items.ensures.pattern)
    c.empty-nodes.ensures)

pub returns-in_err-name : goal.returns-in_err-name
returns-in_err-name c =
    let p = err_from_is_err_and c.from_residual.result c.from_residual.ensures.1 in
    rw (p.1, p.2)
    (read_fault _ _ c.args.text.now _ c.next.new.self c.in-Some.part _ _ _ c.loop-part.invariant c.in-Some.ensures.steps
    c.in_err-name.ensures)

pub loop-part-preserved : goal.loop-part-preserved
loop-part-preserved c =
    rw (c.is_err-is_over.ensures.value)
    (read_more SpellsNodeName _ _ c.args.text.now _ _ c.in-Some.part c.first.result _ _ _ c.insert.result c.loop-part.invariant
    c.in-Some.ensures.steps
    (subst (SpellsNodeName c.in-Some.part.now) (sym c.first.ensures.node) c.in_ok-name.ensures) c.insert.ensures.inserted c.insert.ensures.set)

pub returns-then-is_over : goal.returns-then-is_over
returns-then-is_over c =
    read_too_many _ _ _ _ _ _ _ c.if-is_over.true c.loop-part.invariant c.in-None.ensures.steps

pub returns : goal.returns
returns c =
    let spelled = read_set _ _ _ _ _ _ _ c.if-is_over.false c.loop-part.invariant c.in-None.ensures.steps in
    rw (c.of.ensures.first_nodes (spelled_first _ _ spelled)) spelled
