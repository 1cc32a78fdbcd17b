use Rattle.std.proofs.Common.{ℕ, Bool, true, false, ◌≡◌, ◌∙◌, List, Some, ap, sym, subst}
use Rattle.std.specs.Prelude.{◌&&◌}
use Rattle.term.specs.NodeSets.{with_older}
use Rattle.link.specs.MeshState.{place}
use Rattle.node_core.specs.CoreState.{HaveLeft}
use Rattle.world_events.specs.declared.events.LocalEvent.{LocalEvent}
use Rattle.world_events.specs.declared.events.WorldEvent.TheVariants.{At}
use Rattle.world_events.specs.declared.refusal.Refusal.TheVariants.{NoSuchNode, NodeLeft}
use Rattle.world_events.specs.Events.{knows_contact}
use Rattle.cluster_world.specs.WorldState.{WorldState, nodes_of}
use Rattle.cluster_world.specs.Playing.{RefusedWith}
use Rattle.cluster_world.proofs.Listed.{no_place}
use Rattle.cluster_world.proofs.Plays.{refuses_strange, refuses_gone}
use Rattle.cluster_world.proofs.Posting.{closed_is}
use Rattle.cluster_world.proofs.world.World.running.Goals as goal

-- the events of a node that is unknown, or has left
strange : (old h : WorldState) → h ≡ old → HaveLeft (nodes_of h) h.links.departed → (a : ℕ) → with_older (nodes_of h) a ≡ false
    → (e : LocalEvent) → knows_contact (nodes_of old) e ≡ true → RefusedWith NoSuchNode (At a e) old
strange old h same left a none e known = subst (RefusedWith NoSuchNode (At a e)) same
    (refuses_strange h left a e (ap (λ (b : Bool). b && knows_contact (nodes_of h) e) none))

gone : (old h : WorldState) → h ≡ old → HaveLeft (nodes_of h) h.links.departed → (a : ℕ) → with_older (nodes_of h) a ≡ true
    → with_older h.links.departed a ≡ true → (e : LocalEvent) → knows_contact (nodes_of old) e ≡ true → RefusedWith NodeLeft (At a e) old
gone old h same left a here away e known = subst (RefusedWith NodeLeft (At a e)) same
    (refuses_gone h left a e here (subst (λ (k : WorldState). knows_contact (nodes_of k) e ≡ true) (sym same) known) away)

pub returns-then-not-reaches-clause-refused : goal.returns-then-not-reaches-clause-refused
returns-then-not-reaches-clause-refused g c =
    strange c.args.self.now _ c.self.view_is c.nodes-nodes.ensures.left c.args.node.now
    (ap (λ (ns : List ℕ). with_older ns c.args.node.now) (sym c.nodes-nodes.ensures.nodes)
    ∙ sym c.reaches.ensures ∙ c.if-not-reaches.true)

pub returns-in_default-clause-refused : goal.returns-in_default-clause-refused
returns-in_default-clause-refused g c =
    let here : with_older c.self.inside.links.nodes c.args.node.now ≡ true =
    ap (λ (ns : List ℕ). with_older ns c.args.node.now) (sym c.nodes-nodes.ensures.nodes)
    ∙ sym c.reaches.ensures ∙ c.if-not-reaches.false in
    gone c.args.self.now _ c.self.view_is c.nodes-nodes.ensures.left c.args.node.now here
    (c.nodes-nodes.ensures.left.older c.args.node.now here (no_place c.self.inside.links.nodes c.args.node.now
    (ap (λ (ns : List ℕ). place c.args.node.now ns) (sym c.nodes-nodes.ensures.nodes) ∙ sym c.position.ensures ∙ c.in_default.is)))

pub returns-then-has_left-clause-refused : goal.returns-then-has_left-clause-refused
returns-then-has_left-clause-refused g c =
    gone c.args.self.now _ c.self.view_is c.nodes-nodes.ensures.left c.args.node.now
    (ap (λ (ns : List ℕ). with_older ns c.args.node.now) (sym c.nodes-nodes.ensures.nodes)
    ∙ sym c.reaches.ensures ∙ c.if-not-reaches.false)
    (ap (λ (s : ℕ → Bool). s c.args.node.now) (sym (closed_is c.self.inside.links)) ∙ sym c.has_left.ensures ∙ c.if-has_left.true)

pub returns-clause-ok : goal.returns-clause-ok
returns-clause-ok g c =
    subst (λ (h : WorldState). (place c.args.node.now (nodes_of h) ≡ Some c.in-Some.place)
    × (with_older h.links.departed c.args.node.now ≡ false)) c.self.view_is (
      ap (λ (ns : List ℕ). place c.args.node.now ns) (sym c.nodes-nodes.ensures.nodes) ∙ sym c.position.ensures ∙ c.in-Some.is,
      ap (λ (s : ℕ → Bool). s c.args.node.now) (sym (closed_is c.self.inside.links)) ∙ sym c.has_left.ensures ∙ c.if-has_left.false,
    )
