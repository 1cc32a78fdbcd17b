use Rattle.std.proofs.Common.{ℕ, Bool, true, false, ◌≡◌, ◌∙◌, List, get_or, refl, ap, sym, subst}
use Rattle.std.specs.Prelude.{◌&&◌}
use Rattle.std.proofs.lemmas.Result.{err_from_is_err_and}
use Rattle.term.specs.NodeSets.{with_older}
use Rattle.link.specs.MeshState.{place}
use Rattle.node_core.specs.declared.Event.{Event as NodeEvent}
use Rattle.node_core.specs.CoreState.{HaveLeft}
use Rattle.node_core.specs.Steps.{refusal_of}
use Rattle.world_events.specs.declared.events.LocalEvent.{LocalEvent}
use Rattle.world_events.specs.declared.events.WorldEvent.TheVariants.{At}
use Rattle.world_events.specs.declared.refusal.Refusal.TheVariants.{NoSuchNode}
use Rattle.world_events.specs.Events.{knows_contact}
use Rattle.cluster_world.specs.WorldState.{WorldState, nodes_of}
use Rattle.cluster_world.specs.Playing.{RefusedWith}
use Rattle.cluster_world.specs.Whole.{IsWhole}
use Rattle.cluster_world.proofs.Plays.{refuses_strange, refuses_step, free_by_node}
use Rattle.cluster_world.proofs.world.World.admit_own.Goals as goal

-- the contact of the event is unknown
strange : (old h : WorldState) → h ≡ old → HaveLeft (nodes_of h) h.links.departed → (a : ℕ) (e : LocalEvent)
    → knows_contact (nodes_of h) e ≡ false → RefusedWith NoSuchNode (At a e) old
strange old h same left a e none = subst (RefusedWith NoSuchNode (At a e)) same
    (refuses_strange h left a e (and_false (with_older (nodes_of h) a) (knows_contact (nodes_of h) e) none))
  where
    and_false : (b d : Bool) → d ≡ false → (b && d) ≡ false
    and_false true d e = e
    and_false false d e = refl

pub returns-then-not-knows_contact-clause-refused : goal.returns-then-not-knows_contact-clause-refused
returns-then-not-knows_contact-clause-refused g c =
    strange c.args.self.now _ c.self.view_is c.nodes.ensures.left c.args.node.now c.args.event.now
    (ap (λ (ns : List ℕ). knows_contact ns c.args.event.now) (sym c.nodes.ensures.nodes)
    ∙ sym c.knows_contact.ensures ∙ c.if-not-knows_contact.true)

pub returns-in_err-place-clause-refused : goal.returns-in_err-place-clause-refused
returns-in_err-place-clause-refused g c =
    let why : RefusedWith c.in_err-place.field-0.0 (At c.args.node.now c.args.event.now) c.args.self.now =
    c.in_err-place.ensures.refused c.args.event.now
    (ap (λ (h : WorldState). knows_contact (nodes_of h) c.args.event.now) (sym c.self.view_is)
    ∙ ap (λ (ns : List ℕ). knows_contact ns c.args.event.now) (sym c.nodes.ensures.nodes)
    ∙ sym c.knows_contact.ensures ∙ c.if-not-knows_contact.false) in
    let p = err_from_is_err_and c.from_residual.result c.from_residual.ensures.1 in
    rw (p.1, p.2) why

pub returns-in-Some-clause-refused : goal.returns-in-Some-clause-refused
returns-in-Some-clause-refused g c =
    refuses_step c.args.self.now (subst IsWhole c.self.view_is c.self.invariant) c.in_ok-place.ensures.left
    c.args.node.now c.in_ok-place.place c.args.event.now c.index.result.now c.in_ok-place.ensures.ok.0
    (subst (λ (h : WorldState). c.index.result.now ≡ get_or h.cores c.in_ok-place.place c.index.result.now) c.self.view_is
    c.index.ensures)
    (ap (λ (h : WorldState). knows_contact (nodes_of h) c.args.event.now) (sym c.self.view_is)
    ∙ ap (λ (ns : List ℕ). knows_contact ns c.args.event.now) (sym c.nodes.ensures.nodes)
    ∙ sym c.knows_contact.ensures ∙ c.if-not-knows_contact.false)
    c.in_ok-place.ensures.ok.1 c.in-Some.fault
    (ap (λ (e : NodeEvent). refusal_of e c.index.result.now) (sym c.cause.ensures) ∙ c.in-Some.ensures.cause)

pub returns-in-None-clause-ok : goal.returns-in-None-clause-ok
returns-in-None-clause-ok g c = record {
  node = c.args.node.now;
  place = c.in_ok-place.ensures.ok.0;
  own = refl;
  accepted = free_by_node c.args.self.now (subst IsWhole c.self.view_is c.self.invariant) c.in_ok-place.ensures.left
      c.args.node.now c.in_ok-place.place c.args.event.now c.index.result.now c.in_ok-place.ensures.ok.0
      (subst (λ (h : WorldState). c.index.result.now ≡ get_or h.cores c.in_ok-place.place c.index.result.now) c.self.view_is
      c.index.ensures)
      (ap (λ (h : WorldState). knows_contact (nodes_of h) c.args.event.now) (sym c.self.view_is)
      ∙ ap (λ (ns : List ℕ). knows_contact ns c.args.event.now) (sym c.nodes.ensures.nodes)
      ∙ sym c.knows_contact.ensures ∙ c.if-not-knows_contact.false)
      c.in_ok-place.ensures.ok.1
      (ap (λ (e : NodeEvent). refusal_of e c.index.result.now) (sym c.cause.ensures) ∙ c.in-None.ensures.cause);
}
