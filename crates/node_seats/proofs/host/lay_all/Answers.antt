use Rattle.std.proofs.Common.{ℕ, List, ◌∙◌, ap, refl, sym, subst}
use Rattle.shared_table.specs.Told.{Told}
use Rattle.shared_table.specs.Held.{Looping}
use Rattle.shared_table.specs.Coming.{IsLoopOf}
use Rattle.shared_table.specs.Onward.{ComesFrom}
use Rattle.shared_table.proofs.Onward.{comes_on, comes_from_itself}
use Rattle.node_seats.proofs.host.lay_all.Goals.{in-None, in-Some+in_default}
use Rattle.node_seats.proofs.host.lay_all.Goals as goal

abbrev owing : Looping → List Told → Looping
owing a replies = record a { desk = record a.desk { replies = replies } }

pub loop-init : goal.loop-init
loop-init g c = (tt, tt, c.requires.came, refl, comes_from_itself c.args.node.now, c.requires.held, refl)

pub loop-preserved : goal.loop-preserved
loop-preserved g c = (
  tt,
  tt,
  subst (λ (n : ℕ). IsLoopOf n c.next-in-loop.new.node) (ap (λ (l : Looping). l.log.node) c.loop.invariant.3) c.next-in-loop.ensures.came,
  c.next-in-loop.ensures.rest ∙ ap (λ (l : Looping). owing l c.next-in-loop.new.node.desk.replies) c.loop.invariant.3,
  comes_on c.args.node.now c.loop.node c.next-in-loop.new.node c.loop.invariant.4 c.next-in-loop.ensures.comes,
  c.next-in-loop.ensures.held,
  c.lay.ensures ∙ c.loop.invariant.6,
)

pub returns-clause-comes : goal.returns-clause-comes
returns-clause-comes g c = elim c.match-next.branch [
  | in-None w ↦ subst (ComesFrom c.args.node.now) (sym w.node-is) c.loop.invariant.4
  | in-Some+in_default w ↦ subst (ComesFrom c.args.node.now) (sym w.node-is)
      (comes_on c.args.node.now c.loop.node w.next-in-loop.new.node c.loop.invariant.4 w.next-in-loop.ensures.comes)
]
