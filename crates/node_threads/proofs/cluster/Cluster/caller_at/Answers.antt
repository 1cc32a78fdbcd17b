use Rattle.std.proofs.Common.{◌==◌, sym, ap, ◌∙◌, rules}
use Rattle.std.specs.List.{position}
use Rattle.term.specs.NodeSets.{set_of}
use Rattle.node_seats.specs.declared.fault.SeatFault.TheVariants.{Memory}
use Rattle.node_seats.specs.Faults.{IsSeatRefused}
use Rattle.node_threads.specs.Clusters.{Crewed, nodes_in}
use Rattle.node_threads.specs.Seating.{are_spent}
use Rattle.node_threads.specs.Wires.{name_of}
use Rattle.node_seats.specs.Callers.{nodes_at}
use Rattle.node_threads.proofs.Rows.{crew_known, crew_unknown, crew_kept, seat_is}
use Rattle.node_threads.proofs.cluster.Cluster.caller_at.Goals as goal

pub returns-in_default-clause-refused : goal.returns-in_default-clause-refused
returns-in_default-clause-refused g c = crew_unknown c.args.node.now c.as_slice.result.now c.self.inside.running.items (record {
  cluster = c.self.inside.cluster.items;
  lone = c.self.inside.lone.items;
  world = nodes_at c.self.inside.shared.hub.value;
  crew = c.self.inside.running.items;
  seating = c.self.inside.seating;
}) c.args.self.now
    c.index_of.result c.index_of.ensures c.as_slice.ensures.value c.self.invariant.1 c.self.view_is c.in_default.is

pub returns-in_default-next-clause-refused : goal.returns-in_default-next-clause-refused
returns-in_default-next-clause-refused g c = (
  crew_known c.args.node.now c.as_slice.result.now c.self.inside.running.items (record {
    cluster = c.self.inside.cluster.items;
    lone = c.self.inside.lone.items;
    world = nodes_at c.self.inside.shared.hub.value;
    crew = c.self.inside.running.items;
    seating = c.self.inside.seating;
  }) c.args.self.now
      c.index_of.result c.index_of.ensures c.as_slice.ensures.value c.self.invariant.1 c.self.view_is
      c.in-Some.index c.in-Some.is,
  ap (λ (k : Crewed). are_spent k.seating) (sym c.self.view_is) ∙ c.in_default-next.ensures,
)

pub returns-in_err-caller-clause-refused : goal.returns-in_err-caller-clause-refused
returns-in_err-caller-clause-refused g c =
    let refused : IsSeatRefused Memory (set_of (nodes_in c.args.self.now) c.args.node.now) (are_spent c.args.self.now.seating) = (
      crew_known c.args.node.now c.as_slice.result.now c.self.inside.running.items (record {
        cluster = c.self.inside.cluster.items;
        lone = c.self.inside.lone.items;
        world = nodes_at c.self.inside.shared.hub.value;
        crew = c.self.inside.running.items;
        seating = c.self.inside.seating;
      }) c.args.self.now
          c.index_of.result c.index_of.ensures c.as_slice.ensures.value c.self.invariant.1 c.self.view_is
          c.in-Some.index c.in-Some.is,
      ap (λ (k : Crewed). are_spent k.seating) (sym c.self.view_is) ∙ c.in-Some-next.ensures.0,
    ) in search rules

pub returns-clause-ok : goal.returns-clause-ok
returns-clause-ok g c = seat_is c.args.node.now (record {
  cluster = c.self.inside.cluster.items;
  lone = c.self.inside.lone.items;
  world = nodes_at c.self.inside.shared.hub.value;
  crew = c.self.inside.running.items;
  seating = c.self.inside.seating;
}) c.args.self.now c.in-Some.index
    (sym (c.index_of.ensures ∙ ap (position (λ w. name_of w == c.args.node.now)) c.as_slice.ensures.value) ∙ c.in-Some.is) c.self.view_is c.index_mut.result.now
    c.index_mut.ensures.value c.in_ok-caller.caller (c.in_ok-caller.ensures.place ∙ c.in-Some-next.ensures.1) c.in_ok-caller.ensures.asks c.in_ok-caller.ensures.nodes
    c.in_ok-caller.ensures.unasked c.in_ok-caller.ensures.unread

pub invariant_of-self-2 : goal.invariant_of-self-2
invariant_of-self-2 g c = (
  c.self.invariant.0,
  crew_kept c.self.inside.cluster.items c.self.inside.lone.items c.self.inside.running.items c.in-Some.index c.index_mut.result.now
      c.caller.new.self c.index_mut.ensures.value c.in_ok-caller.ensures.node c.self.invariant.1,
  c.self.invariant.2,
)
