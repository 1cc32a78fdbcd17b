use Rattle.std.proofs.Common.{◌≡◌, sym, ap, ◌∙◌, get_or, List, ℕ}
use Rattle.std.specs.List.{filter}
use Rattle.std.proofs.lemmas.List.{get_or_default}
use Rattle.protocol_model.specs.Round.{granted}
use Rattle.term.specs.NodeSets.{IsNodeSet, without_node}
use Rattle.locker.specs.RoundState.{RoundState, seen}
use Rattle.locker.proofs.Lists.{passing_or_from-zero, passing_or_from-all, passing_or_from-kept, passing_or_from-left}
use Rattle.locker.proofs.round.Round.granted.Goals as goal
use Rattle.locker.proofs.round.Round.granted.Goals.{then-not-has_grant, else-not-has_grant}

pub loop-node-init : goal.loop-node-init
loop-node-init c =
    c.copy-granted.ensures ∙ sym c.as_slice-node-items.ensures.nodes
    ∙ passing_or_from-zero (granted (seen c.args.self.now)) c.as_slice-node-items.result.now

pub loop-node-preserved : goal.loop-node-preserved
loop-node-preserved c =
    let items : List ℕ = c.as_slice-node-items.result.now in
    let is : get_or items c.loop-node.node-index 0 ≡ c.node-item.result
    = sym (c.node-item.is ∙ get_or_default items c.loop-node.node-index c.node-item.result 0 c.loop-node-test.true) in
    let rising : IsNodeSet items = rw (← c.as_slice-node-items.ensures.nodes) at c.as_slice-node-items.ensures.set in
    elim c.if-not-has_grant.branch [
      | then-not-has_grant w ↦ w.granted-is ∙ w.remove.ensures.others
          ∙ ap (λ (nodes : List ℕ). without_node nodes c.node-item.result) c.loop-node.invariant
          ∙ passing_or_from-left
          (granted (seen c.args.self.now)) c.loop-node.node-index c.node-item.result items rising.rising
          c.loop-node-test.true is (sym w.if-not-has_grant.ensures)
      | else-not-has_grant w ↦ w.granted-is ∙ c.loop-node.invariant
          ∙ passing_or_from-kept (granted (seen c.args.self.now)) c.loop-node.node-index c.node-item.result items
          c.loop-node-test.true is (sym w.if-not-has_grant.ensures)
    ]

pub returns : goal.returns
returns c =
    c.loop-node.invariant
    ∙ passing_or_from-all
    (granted (seen c.args.self.now)) c.loop-node.node-index c.as_slice-node-items.result.now c.loop-node-test.false
    ∙ ap (λ (nodes : List ℕ). filter (granted (seen c.args.self.now)) nodes)
    (c.as_slice-node-items.ensures.nodes ∙ ap (λ (h : RoundState). h.nodes) c.self.view_is)
