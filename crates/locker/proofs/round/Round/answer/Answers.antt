use Rattle.std.proofs.Common.{sym}
use Rattle.locker.proofs.Rounds.{seen-opened, seen-answered}
use Rattle.locker.proofs.round.Round.answer.Goals as goal
use Rattle.locker.proofs.round.Round.answer.Goals.{then-opens, else-opens}

pub returns-in-Some-clause-protocol : goal.returns-in-Some-clause-protocol
returns-in-Some-clause-protocol c = elim c.if-opens.branch [
  | then-opens w ↦ rw (w.self-inside-is, ← c.self.view_is)
      (seen-opened (record { nodes = c.self.inside.nodes; marks = c.self.inside.marks })
      c.self.invariant c.args.node.now c.in-Some.place c.args.granted c.of_answer.result w.ask_the_rest.new.marks
      (sym (rw w.self-inside-is at c.in-Some.ensures.value))
      (sym (rw (← c.self.view_is) at w.if-opens.ensures)) w.ask_the_rest.auto.marks
      w.ask_the_rest.ensures c.of_answer.ensures)
  | else-opens w ↦ rw (w.self-inside-is, ← c.self.view_is)
      (seen-answered (record { nodes = c.self.inside.nodes; marks = c.self.inside.marks })
      c.self.invariant c.args.node.now c.in-Some.place c.args.granted c.of_answer.result
      (sym (rw w.self-inside-is at c.in-Some.ensures.value)) (sym (rw (← c.self.view_is) at w.if-opens.ensures))
      (sym (rw (← c.self.view_is) at c.if-not-owes.ensures)) c.of_answer.ensures)
]
