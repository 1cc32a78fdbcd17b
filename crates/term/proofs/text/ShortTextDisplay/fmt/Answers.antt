use Rattle.term.proofs.Texts.{bytes_of-text_of}
use Rattle.term.proofs.text.ShortTextDisplay.fmt.Goals as goal

pub returns-clause-writes : goal.returns-clause-writes
returns-clause-writes g c =
    rw (← c.self.view_is, bytes_of-text_of _ c.self.invariant.text) (c.fmt.ensures.writes)
