use Rattle.term.proofs.Texts.{bytes_of-text_of}
use Rattle.term.proofs.text.ShortTextHash.hash.Goals as goal

pub returns : goal.returns
returns g c =
    rw (← c.self.view_is, bytes_of-text_of _ c.self.invariant.text) (c.hash.ensures)
