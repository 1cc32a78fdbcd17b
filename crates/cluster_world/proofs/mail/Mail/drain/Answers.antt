use Rattle.std.proofs.Common.{ℕ, true, ◌≡◌, ◌∙◌, Some, ap, sym, subst}
use Rattle.std.specs.List.{All}
use Rattle.term.specs.NodeSets.{with_older}
use Rattle.link.specs.MeshState.{place}
use Rattle.node_core.specs.declared.Letter.{Letter}
use Rattle.cluster_world.specs.Links.{Unsent}
use Rattle.cluster_world.specs.Mail.{Mailed, links_of}
use Rattle.cluster_world.proofs.Mails.{links_drained, outbox_own}
use Rattle.cluster_world.proofs.mail.Mail.drain.Goals as goal

pub post-requires-clause-within : goal.post-requires-clause-within
post-requires-clause-within c =
    let v : Mailed = record {
      nodes = c.self.inside.nodes;
      departed = c.self.inside.departed;
      mesh = c.self.inside.mesh;
      unsent = c.self.inside.unsent;
    } in
    subst (λ (x : Unsent). All (λ (s : ℕ × Letter). with_older c.self.inside.nodes s.0 ≡ true) x.letters) (sym c.outbox.view_is)
    (outbox_own v c.self.invariant c.in-Some.outbox (sym c.take.ensures.value ∙ c.in-Some.is)).letters

pub post-requires-clause-sender : goal.post-requires-clause-sender
post-requires-clause-sender c =
    let v : Mailed = record {
      nodes = c.self.inside.nodes;
      departed = c.self.inside.departed;
      mesh = c.self.inside.mesh;
      unsent = c.self.inside.unsent;
    } in
    subst (λ (x : Unsent). place x.sender c.self.inside.nodes ≡ Some x.place) (sym c.outbox.view_is)
    (outbox_own v c.self.invariant c.in-Some.outbox (sym c.take.ensures.value ∙ c.in-Some.is)).sender

pub returns-in-Some-unsent-clause-links : goal.returns-in-Some-unsent-clause-links
returns-in-Some-unsent-clause-links c =
    let v : Mailed = record {
      nodes = c.self.inside.nodes;
      departed = c.self.inside.departed;
      mesh = c.self.inside.mesh;
      unsent = c.self.inside.unsent;
    } in
    let x : Unsent = record {
      place = c.outbox.inside.place;
      sender = c.outbox.inside.sender;
      letters = c.outbox.inside.letters.items;
    } in
    c.post.ensures.links
    ∙ links_drained v c.take.new.self x c.take.ensures.after
    (sym c.take.ensures.value ∙ c.in-Some.is ∙ ap Some (sym c.outbox.view_is))
    ∙ ap (λ (h : Mailed). links_of h) c.self.view_is

pub returns-clause-links : goal.returns-clause-links
returns-clause-links c =
    let v : Mailed = record {
      nodes = c.self.inside.nodes;
      departed = c.self.inside.departed;
      mesh = c.self.inside.mesh;
      unsent = c.self.inside.unsent;
    } in
    let x : Unsent = record {
      place = c.outbox.inside.place;
      sender = c.outbox.inside.sender;
      letters = c.outbox.inside.letters.items;
    } in
    c.post.ensures.links
    ∙ links_drained v c.take.new.self x c.take.ensures.after
    (sym c.take.ensures.value ∙ c.in-Some.is ∙ ap Some (sym c.outbox.view_is))
    ∙ ap (λ (h : Mailed). links_of h) c.self.view_is
