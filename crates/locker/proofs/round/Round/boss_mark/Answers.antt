use Rattle.std.proofs.Common.{◌-◌, length, sym, ap, ◌∙◌, arith}
use Rattle.std.proofs.lemmas.List.{get_or_default}
use Rattle.locker.specs.RoundState.{as_mark}
use Rattle.locker.specs.declared.mark.Mark.TheVariants.{Later, Gone}
use Rattle.locker.proofs.Marks.{mark_at-boss}
use Rattle.locker.proofs.round.Round.boss_mark.Goals as goal

pub returns-clause-value : goal.returns-clause-value
returns-clause-value c = rw (← c.self.view_is, c.len.ensures.value)
    (ap as_mark (get_or_default c.self.inside.marks (length c.self.inside.nodes - 1) Later Gone
    (omega (arith, c.self.invariant.set.fits, c.self.invariant.room, c.self.invariant.some)))
    ∙ sym (mark_at-boss (record { nodes = c.self.inside.nodes; marks = c.self.inside.marks }) c.self.invariant))
