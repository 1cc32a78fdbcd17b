use Rattle.std.proofs.Common.{ℕ, ◌≡◌, ◌<◌, ◌∙◌, Some, List, ap, sym, subst, get_or, length, arith}
use Rattle.std.proofs.lemmas.List.{length-map}
use Rattle.term.specs.Nodes.{name_of}
use Rattle.cluster_world.specs.Links.{SentLetter, IsBetween, WaitsFirst}
use Rattle.cluster_world.specs.Mail.{Mailed, on_links}
use Rattle.cluster_world.proofs.Mailing.{stands_there, link_of_front, first_delivery, none_on_mesh}
use Rattle.cluster_world.proofs.mail.Mail.first_on_mesh.Goals as goal

pub bounds-as_slice-link : goal.bounds-as_slice-link
bounds-as_slice-link c =
    omega (
      arith,
      c.in_ok-link.ensures.0.1,
      ap (λ (ns : List ℕ). length ns) c.self.invariant.names,
      length-map c.self.inside.nodes name_of,
      ap (λ (ns : List ℕ). length ns) c.as_slice.ensures.nodes,
    )

-- the link of the letter that stands first
module _ (c : goal.After-copy-receiver) where
  abbrev v : Mailed
  v = record {
    nodes = c.self.inside.nodes;
    departed = c.self.inside.departed;
    mesh = c.self.inside.mesh;
    unsent = c.self.inside.unsent;
  }

  between : IsBetween c.in_ok-link.link (name_of c.in_ok-front_at.field-0.now.sender) c.copy-receiver.result v.nodes
  between = link_of_front v c.self.invariant c.as_slice.ensures.set c.in_ok-link.link c.in_ok-link.ensures.0
      c.in_ok-front_at.field-0.now c.in_ok-front_at.ensures c.copy-receiver.result
      (stands_there c.as_slice.result.now v.nodes c.in_ok-link.link.receiver c.copy-receiver.result
      c.index-as_slice-link.result c.copy-receiver.ensures c.index-as_slice-link.is c.as_slice.ensures.nodes)

  sent_by : c.copy-sender.result ≡ c.in_ok-front_at.field-0.now.sender
  sent_by = c.copy-sender.ensures ∙ ap (λ (s : SentLetter). s.sender) c.branch.view_is

pub returns-clause-first : goal.returns-clause-first
returns-clause-first c =
    subst (λ (h : Mailed). WaitsFirst (Some (c.copy-sender.result, c.copy-receiver.result)) (on_links h)) c.self.view_is
    (subst (λ (f : ℕ). WaitsFirst (Some (f, c.copy-receiver.result)) (on_links (v c))) (sym (sent_by c))
    (first_delivery (v c) c.self.invariant c.in_ok-link.link c.in_ok-front_at.field-0.now c.copy-receiver.result
    c.in_ok-link.ensures.1 c.in_ok-front_at.ensures (between c)))

pub returns-clause-link : goal.returns-clause-link
returns-clause-link c =
    subst (λ (h : Mailed). IsBetween c.in_ok-link.link (name_of c.copy-sender.result) c.copy-receiver.result h.nodes) c.self.view_is
    (subst (λ (f : ℕ). IsBetween c.in_ok-link.link (name_of f) c.copy-receiver.result (v c).nodes) (sym (sent_by c)) (between c))
