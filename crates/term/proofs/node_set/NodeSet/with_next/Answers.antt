use Rattle.std.proofs.Common.{◌≡◌, ℕ, Bor, sym, ap, ◌∙◌}
use Rattle.term.proofs.Succeeded.{put_behind, next_of}
use Rattle.term.proofs.node_set.NodeSet.with_next.Goals.{then-eq, else-eq}
use Rattle.term.proofs.node_set.NodeSet.with_next.Goals as goal

present : (c : goal.After-insert-is_new) → c.copy.result ≡ next_of c.args.older.now c.args.next.now c.node-item.result
present c = elim c.if-eq.branch [
  | then-eq w ↦ rw (sym c.eq.ensures ∙ w.if-eq.true) (c.copy.ensures ∙ ap (λ (p : Bor ℕ). p.now) w.present-is)
  | else-eq w ↦ rw (sym c.eq.ensures ∙ w.if-eq.false) (c.copy.ensures ∙ ap (λ (p : Bor ℕ). p.now) w.present-is)
]

pub loop-node-preserved : goal.loop-node-preserved
loop-node-preserved c =
    put_behind c.as_slice-node-items.result.now c.loop-node.nodes c.insert-is_new.new.self c.args.older.now c.args.next.now
    c.loop-node.node-index c.node-item.result c.copy.result c.insert-is_new.result
    (rw c.as_slice-node-items.ensures.nodes c.as_slice-node-items.ensures.set) c.loop-node-test.true c.node-item.is c.requires.next
    (rw c.as_slice-node-items.ensures.nodes c.requires.new) (present c) c.loop-node.invariant c.insert-is_new.ensures.inserted
