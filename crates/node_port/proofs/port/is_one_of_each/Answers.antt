use Rattle.std.proofs.Common.{◌==◌, arith, sym, ◌∙◌}
use Rattle.node_port.proofs.Beginnings.{all_apart, apart_to_end, pair_not_apart}
use Rattle.node_port.proofs.port.is_one_of_each.Goals as goal

pub returns-then-eq : goal.returns-then-eq
returns-then-eq c = λ set.
    pair_not_apart c.args.nodes.now c.loop-place.place c.index-nodes-place.result c.index-nodes-place-in-loop-place.result (omega arith)
    (omega arith) c.index-nodes-place.is c.index-nodes-place-in-loop-place.is
    (sym (c.eq.ensures ∙ (λ i. c.name.ensures i == c.name-in-loop-place.ensures i)) ∙ c.if-eq.true)

pub returns : goal.returns
returns c = λ set.
    sym (all_apart c.args.nodes.now set.rising
    (apart_to_end c.args.nodes.now c.loop-place.place (omega arith) c.loop-place.invariant))
