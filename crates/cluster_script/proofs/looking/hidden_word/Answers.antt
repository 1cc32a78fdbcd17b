use Rattle.std.proofs.Common.{Bool, ap, ◌∙◌}
use Rattle.std.specs.Prelude.{if◌then◌else◌}
use Rattle.protocol_model.specs.Event.{NoSuchNode, NodeLeft}
use Rattle.protocol_model.specs.NamedEvents.{Plain}
use Rattle.command_lines.specs.Printing.{refusal_word}
use Rattle.cluster_script.proofs.looking.hidden_word.Goals as goal

pub returns-in-Some : goal.returns-in-Some
returns-in-Some c =
    c.word.ensures ∙ ap (λ (b : Bool). refusal_word (if b then Plain NodeLeft else Plain NoSuchNode)) c.in-Some.ensures.here

pub returns-in-None : goal.returns-in-None
returns-in-None c =
    c.word-in-None.ensures ∙ ap (λ (b : Bool). refusal_word (if b then Plain NodeLeft else Plain NoSuchNode)) c.in-None.ensures.here
