use Rattle.std.proofs.Common.{sym, ◌∙◌}
use Rattle.term.proofs.Texts.{bytes_of-text_of}
use Rattle.term.proofs.text.ShortText.as_str.Goals as goal

pub returns-clause-bytes : goal.returns-clause-bytes
returns-clause-bytes c =
    rw (← c.self.view_is) (c.as_str.ensures.value ∙ sym (bytes_of-text_of _ c.self.invariant.text))
