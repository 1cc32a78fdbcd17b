use Rattle.std.proofs.Common.{ℕ, Bool, ◌==◌, ◌≡◌, ◌∙◌, List, length, take, ap, sym, subst, arith}
use Rattle.std.specs.Prelude.{◌||◌}
use Rattle.std.specs.List.{All}
use Rattle.std.proofs.Math.Bool.{or_assoc}
use Rattle.term.specs.Nodes.{IsFirst}
use Rattle.term.specs.NodeSets.{set_of, with_node}
use Rattle.world_events.proofs.Openings.{at_ok, matched_ok, length-with_node, first-with_node}
use Rattle.term.proofs.Subsets.{set_of-take}
use Rattle.world_events.proofs.opening.gather.Goals as goal

pub loop-node-preserved : goal.loop-node-preserved
loop-node-preserved c = record {
  holds = λ x. at_ok c.insert.result c.if-is_err.ensures.negation c.insert.ensures.holds x
      ∙ ap (λ (b : Bool). b || (c.first.result == x)) (c.loop-node.invariant.holds x)
      ∙ or_assoc (set_of c.args.set.now x) (set_of (take c.loop-node.node-index c.args.nodes.now) x)
      (c.first.result == x)
      ∙ ap (λ (b : Bool). set_of c.args.set.now x || b)
      (ap (λ (n : ℕ). set_of (take c.loop-node.node-index c.args.nodes.now) x || (n == x)) (c.first.ensures.node ∙ c.copy.ensures)
      ∙ sym (set_of-take c.args.nodes.now c.loop-node.node-index c.node-item.result c.loop-node-test.true
      c.node-item.is x));
  first = λ first. subst (All IsFirst) (sym inserted)
      (first-with_node c.loop-node.set c.first.result (c.loop-node.invariant.first first)
      (subst IsFirst (sym c.first.ensures.node) c.first.ensures.first));
  room = omega (
    arith,
    ap (λ (ns : List ℕ). length ns) inserted,
    length-with_node c.loop-node.set c.first.result,
    c.loop-node.invariant.room,
  );
}
  where
    inserted : c.insert.new.self ≡ with_node c.loop-node.set c.first.result
    inserted = (matched_ok _ _ c.insert.result c.if-is_err.ensures.negation c.insert.ensures.inserted).1.0

pub returns-clause-first : goal.returns-clause-first
returns-clause-first c = c.loop-node.invariant.first
