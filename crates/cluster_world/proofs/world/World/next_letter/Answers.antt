use Rattle.std.proofs.Common.{ℕ, None, ap, sym, subst, ◌∙◌}
use Rattle.std.specs.Prelude.{MatchOption}
use Rattle.std.specs.Option.{option_map}
use Rattle.protocol_model.specs.Links.{Links}
use Rattle.term.specs.NodeSets.{names_in}
use Rattle.link.specs.declared.link_place.LinkPlace.{LinkPlace}
use Rattle.link.specs.MeshState.{place}
use Rattle.node_core.specs.declared.Letter.{Letter}
use Rattle.cluster_world.specs.declared.admission.Delivery.{Delivery}
use Rattle.cluster_world.specs.WorldState.{WorldState, nodes_of}
use Rattle.cluster_world.specs.Links.{WaitsFirst}
use Rattle.cluster_world.specs.Playing.{WaitsOn}
use Rattle.cluster_world.specs.Settling.{IsNextLetter}
use Rattle.cluster_world.proofs.Mails.{all_on_links}
use Rattle.cluster_world.proofs.Waiting.{waits_nowhere, first_letter, next_found, has_place, has_sender}
use Rattle.cluster_world.proofs.world.World.next_letter.Goals as goal

pub returns-then-is_drained : goal.returns-then-is_drained
returns-then-is_drained g c =
    subst (λ (k : WorldState). MatchOption c.first_on_mesh.result (WaitsOn None k) (λ (d : Delivery). IsNextLetter d k)) c.self.view_is
    (next_found _ c.self.invariant c.nodes-nodes.ensures.left c.first_on_mesh.result
    (subst (λ (w : Links Letter). WaitsFirst (option_map (λ (d : Delivery). (d.sender, d.receiver)) c.first_on_mesh.result) w)
    (all_on_links c.self.inside.links (sym c.is_drained.ensures ∙ c.if-is_drained.true)) c.first_on_mesh.ensures.first)
    c.first_on_mesh.ensures.link)

pub returns-in_err-sender : goal.returns-in_err-sender
returns-in_err-sender g c =
    rw c.from_residual.ensures
    (subst (λ (k : WorldState). WaitsOn None k) c.self.view_is
    (waits_nowhere _ c.self.invariant c.nodes-nodes.ensures.left c.in_err-sender.ensures))

pub returns-in_err-place_of : goal.returns-in_err-place_of
returns-in_err-place_of g c =
    absurd (has_sender _ c.self.invariant c.nodes-nodes.ensures.left c.in_ok-sender.sender c.in_ok-sender.receiver
    c.in_ok-sender.ensures
    (ap (names_in c.self.inside.links.nodes) (sym c.name.ensures)
    ∙ ap (λ (k : WorldState). names_in (nodes_of k) c.name.result.now) c.self.view_is ∙ c.in_err-place_of.ensures.place))

pub returns-in_err-position : goal.returns-in_err-position
returns-in_err-position g c =
    absurd (has_place _ c.self.invariant c.nodes-nodes.ensures.left c.in_ok-sender.sender c.in_ok-sender.receiver
    c.in_ok-sender.ensures
    (ap (place c.in_ok-sender.receiver) (sym c.nodes-nodes.ensures.nodes) ∙ sym c.in_err-position.ensures))

pub returns : goal.returns
returns g c =
    let d : Delivery = record {
      link = record { sender = c.in_ok-place_of.field-0; receiver = c.in_ok-position.field-0 };
      sender = c.in_ok-sender.sender;
      receiver = c.in_ok-sender.receiver;
    } in
    let n = c.in_ok-place_of.ensures.place in
    subst (λ (k : WorldState). IsNextLetter d k) c.self.view_is
    (first_letter _ c.self.invariant c.nodes-nodes.ensures.left d c.in_ok-sender.ensures (record {
      sender = (n.0, ap (λ (k : WorldState). place n.0 (nodes_of k)) c.self.view_is ∙ n.1, n.2 ∙ c.name.ensures);
      receiver = ap (place c.in_ok-sender.receiver) (sym c.nodes-nodes.ensures.nodes) ∙ sym c.in_ok-position.ensures;
    }))
