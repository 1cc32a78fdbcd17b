use Rattle.std.proofs.Common.{sym, ◌∙◌}
use Rattle.term.proofs.Texts.{text_of-eq}
use Rattle.term.proofs.Keys.{different}
use Rattle.term.proofs.text.ShortTextPartialEq.eq.Goals as goal

pub returns-then-self-other : goal.returns-then-self-other
returns-then-self-other c =
    rw (← c.self.view_is, ← c.other.view_is)
    (c.eq.ensures ∙ sym (text_of-eq _ _ c.self.invariant.text c.other.invariant.text))

pub returns-else-self-other : goal.returns-else-self-other
returns-else-self-other c =
    rw (← c.self.view_is, ← c.other.view_is)
    (different _ _ c.self.invariant.text c.other.invariant.text _ _ c.self.invariant.keyed c.other.invariant.keyed
    c.if-self-other.false)
