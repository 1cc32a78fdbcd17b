use Rattle.std.proofs.Common.{ℕ, true, ◌≡◌, ◌≤◌, ◌^◌, ◌-◌, ◌∙◌, min, length, ap, sym, subst}
use Rattle.std.specs.List.{All}
use Rattle.protocol_model.specs.Links.{posted}
use Rattle.term.specs.NodeSets.{with_older}
use Rattle.node_core.specs.declared.Letter.{Letter}
use Rattle.node_core.specs.Made.{Made}
use Rattle.cluster_world.specs.Links.{letters_to}
use Rattle.cluster_world.specs.Mail.{links_of}
use Rattle.cluster_world.proofs.Rooms.{fits_room}
use Rattle.cluster_world.proofs.turns.take_in.Goals as goal

pub post-requires-clause-within : goal.post-requires-clause-within
post-requires-clause-within g c =
    subst (λ (m : Made). All (λ (s : ℕ × Letter). with_older c.args.links.now.nodes s.0 ≡ true) m.letters) (sym c.turn.view_is)
    c.requires.within

pub enter_all-requires : goal.enter_all-requires
enter_all-requires g c =
    fits_room _ c.turn.inside.entries.len c.turn.inside.entries.cap _
    c.turn.inside.entries.ok.0 c.turn.inside.entries.small c.turn.inside.entries.ok.1
    (subst (λ (m : Made). min (2 ^ 64 - 1) (length m.entries) ≤ c.args.history.now.room) (sym c.turn.view_is) c.requires.room)

pub returns-clause-links : goal.returns-clause-links
returns-clause-links g c =
    c.post.ensures.links
    ∙ ap (λ (m : Made). posted c.args.node.now (λ t. letters_to t m.letters) (links_of c.args.links.now)) c.turn.view_is
