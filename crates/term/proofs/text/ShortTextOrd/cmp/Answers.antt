use Rattle.std.proofs.Common.{sym, ◌∙◌}
use Rattle.term.proofs.Texts.{nat_cmp-text_of}
use Rattle.term.proofs.Keys.{decided}
use Rattle.term.proofs.text.ShortTextOrd.cmp.Goals as goal

pub returns-in-Equal : goal.returns-in-Equal
returns-in-Equal c =
    rw (← c.self.view_is, ← c.other.view_is)
    (c.cmp-in-Equal.ensures ∙ sym (nat_cmp-text_of _ _ c.self.invariant.text c.other.invariant.text))

pub returns-in_default : goal.returns-in_default
returns-in_default c =
    rw (← c.self.view_is, ← c.other.view_is)
    (decided _ _ c.self.invariant.text c.other.invariant.text _ _ c.self.invariant.keyed c.other.invariant.keyed _ c.cmp.ensures
    c.in_default.not-Equal ∙ sym (nat_cmp-text_of _ _ c.self.invariant.text c.other.invariant.text))
