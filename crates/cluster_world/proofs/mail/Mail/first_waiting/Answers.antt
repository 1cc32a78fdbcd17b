use Rattle.std.proofs.Common.{ℕ, ◌∙◌, Option, Some, None, option_map, ap, sym, subst}
use Rattle.term.specs.NodeSets.{with_older}
use Rattle.cluster_world.specs.declared.admission.Delivery.{Delivery}
use Rattle.cluster_world.specs.Links.{Unsent, earlier, with_unsent, WaitsFirst, IsLeastOpen}
use Rattle.cluster_world.specs.Mail.{Mailed, IsSound, on_links, links_of}
use Rattle.cluster_world.proofs.Mails.{waits_of_all}
use Rattle.cluster_world.proofs.mail.Mail.first_waiting.Goals as goal

pub returns-in_default : goal.returns-in_default
returns-in_default c =
    subst (λ (o : Option (ℕ × ℕ)). WaitsFirst o (links_of c.args.self.now)) (sym c.ends_of.ensures)
    (subst
    (λ (u : Option Unsent).
    WaitsFirst (option_map {U = ℕ × ℕ} (λ (d : Delivery). (d.sender, d.receiver)) c.first_on_mesh.result)
    (with_unsent u (on_links c.args.self.now)))
    (sym (ap (λ (h : Mailed). h.unsent) (sym c.self.view_is) ∙ c.in_default.is)) c.first_on_mesh.ensures.first)

pub returns : goal.returns
returns c =
    subst (λ (o : Option (ℕ × ℕ)). WaitsFirst o (links_of c.args.self.now))
    (ap (λ (u : Unsent). earlier c.ends_of-2.result u.sender c.first_receiver.result) (sym c.outbox.view_is)
    ∙ sym c.earlier.ensures)
    (waits_of_all c.args.self.now (subst (λ (h : Mailed). IsSound h) c.self.view_is c.self.invariant) c.in-Some.outbox
    c.ends_of-2.result c.first_receiver.result
    (ap (λ (h : Mailed). h.unsent) (sym c.self.view_is) ∙ c.in-Some.is)
    (subst (λ (o : Option (ℕ × ℕ)). WaitsFirst o (on_links c.args.self.now)) (sym c.ends_of-2.ensures) c.first_on_mesh-2.ensures.first)
    (subst (λ (h : Mailed). IsLeastOpen (with_older h.departed) c.in-Some.outbox.letters c.first_receiver.result)
    c.self.view_is c.first_receiver.ensures))
