use Rattle.std.proofs.Common.{sym, ap, ◌∙◌, arith}
use Rattle.std.proofs.lemmas.List.{get_or_default}
use Rattle.protocol_model.specs.Round.{mark_down}
use Rattle.locker.specs.RoundState.{as_mark}
use Rattle.locker.specs.declared.mark.Mark.{Mark}
use Rattle.locker.specs.declared.mark.Mark.TheVariants.{Later, Gone}
use Rattle.locker.proofs.Rounds.{seen-down}
use Rattle.locker.proofs.round.Round.down.Goals as goal

pub returns-in-Some-clause-protocol : goal.returns-in-Some-clause-protocol
returns-in-Some-clause-protocol c = rw (← c.self.view_is)
    (seen-down (record { nodes = c.self.inside.nodes; marks = c.self.inside.marks }) c.self.invariant
    c.args.node.now c.in-Some.place c.down.result (sym (rw (← c.self.view_is) at c.in-Some.ensures.value))
    (c.down.ensures ∙ ap (λ (m : Mark). mark_down (as_mark m))
    (get_or_default c.self.inside.marks c.in-Some.place Later Gone
    (omega (arith, c.self.invariant.room, c.in-Some.ensures.within)))))
