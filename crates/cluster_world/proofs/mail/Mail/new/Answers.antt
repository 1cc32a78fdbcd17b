use Rattle.std.proofs.Common.{ℕ, ◌∙◌, List, sym, subst}
use Rattle.std.specs.List.{All}
use Rattle.term.specs.Nodes.{IsFirst}
use Rattle.cluster_world.proofs.Mailing.{new_sound, new_links}
use Rattle.cluster_world.proofs.mail.Mail.new.Goals as goal

pub invariant_of-result : goal.invariant_of-result
invariant_of-result c = new_sound c.copy.result c.empty.result c.in_ok-new.field-0
    (subst (λ (ns : List ℕ). All IsFirst ns) (sym c.copy.ensures) c.requires.first) c.empty.ensures
    (c.in_ok-new.ensures.nodes ∙ c.as_slice.ensures.nodes ∙ sym c.copy.ensures) c.in_ok-new.ensures.empty

pub returns-clause-links : goal.returns-clause-links
returns-clause-links c = new_links c.copy.result c.empty.result c.in_ok-new.field-0 c.empty.ensures c.in_ok-new.ensures.empty
