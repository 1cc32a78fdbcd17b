use Rattle.std.proofs.Common.{ℕ, ◌≡◌, ◌∙◌, sym, ap, subst}
use Rattle.node_loop.specs.Held.{Looping}
use Rattle.node_loop.specs.Coming.{IsLoopOf}
use Rattle.node_seats.specs.Publishing.{Publishes}
use Rattle.node_seats.proofs.Onward.{loop_on}
use Rattle.node_seats.proofs.Taking.{own_on, by_handing_over}
use Rattle.node_seats.proofs.Going.{aside}
use Rattle.node_threads.proofs.running.show.Goals.{then-shown, else-shown}
use Rattle.node_threads.proofs.running.show.Goals as goal

pub hand_out-requires-clause-came : goal.hand_out-requires-clause-came
hand_out-requires-clause-came g c = own_on c.args.node.now c.show-publisher.new.node c.requires.came
    (by_handing_over c.args.node.now c.show-publisher.new.node c.show-publisher.ensures.node)

pub hand_out-requires-clause-shown : goal.hand_out-requires-clause-shown
hand_out-requires-clause-shown g c = c.show-publisher.ensures.all c.if-shown.true

pub hand_out-requires-clause-written : goal.hand_out-requires-clause-written
hand_out-requires-clause-written g c = c.show-publisher.ensures.written c.if-shown.true

pub hand_out-requires-clause-book : goal.hand_out-requires-clause-book
hand_out-requires-clause-book g c = c.show-publisher.ensures.book ∙ c.requires.book

pub returns-clause-came : goal.returns-clause-came
returns-clause-came g c =
    let shown : IsLoopOf c.args.node.now.log.node c.show-publisher.new.node = loop_on c.args.node.now.log.node c.args.node.now
    c.show-publisher.new.node c.requires.came (by_handing_over c.args.node.now c.show-publisher.new.node c.show-publisher.ensures.node) in
    let same : c.show-publisher.new.node.log.node ≡ c.args.node.now.log.node =
    ap (λ (a : Looping). a.log.node) c.show-publisher.ensures.node in
    elim c.if-shown.branch [
      | then-shown w ↦ subst (IsLoopOf c.args.node.now.log.node) (sym w.node-is)
          (subst (λ (n : ℕ). IsLoopOf n w.hand_out.new.node) same w.hand_out.ensures.came)
      | else-shown w ↦ subst (IsLoopOf c.args.node.now.log.node) (sym w.node-is) shown
    ]

pub returns-clause-publishes : goal.returns-clause-publishes
returns-clause-publishes g c =
    let p = c.show-publisher.result.0.publisher in
    elim c.if-shown.branch [
      | then-shown w ↦ subst (λ (a : Looping). Publishes a p) (sym w.node-is)
          (aside p c.show-publisher.new.node w.hand_out.new.node c.show-publisher.ensures.publishes w.hand_out.ensures.comes w.hand_out.ensures.all)
      | else-shown w ↦ subst (λ (a : Looping). Publishes a p) (sym w.node-is) c.show-publisher.ensures.publishes
    ]

pub returns-clause-host : goal.returns-clause-host
returns-clause-host g c = elim c.if-shown.branch [
  | then-shown w ↦ w.host-is ∙ w.hand_out.ensures.same
  | else-shown w ↦ w.host-is
]
