use Rattle.std.proofs.Common.{◌==◌, sym, ap, ◌∙◌}
use Rattle.std.specs.List.{position}
use Rattle.node_seats.specs.Callers.{nodes_at}
use Rattle.node_threads.specs.Clusters.{LeftAsAsked, LeftAt}
use Rattle.node_threads.specs.Wires.{name_of}
use Rattle.node_threads.proofs.Rows.{crew_known, inbox_is, on_ok}
use Rattle.node_threads.proofs.cluster.Cluster.leave.Goals as goal

pub returns-clause-stranger : goal.returns-clause-stranger
returns-clause-stranger g c = λ e. absurd (cc (sym (crew_known c.args.node.now c.as_slice.result.now c.self.inside.running.items (record {
  cluster = c.self.inside.cluster.items;
  lone = c.self.inside.lone.items;
  world = nodes_at c.self.inside.shared.hub.value;
  crew = c.self.inside.running.items;
  seating = c.self.inside.seating;
}) c.args.self.now
    c.index_of.result c.index_of.ensures c.as_slice.ensures.value c.self.invariant.1 c.self.view_is
    c.in-Some.index c.in-Some.is) ∙ e))

pub returns-clause-left : goal.returns-clause-left
returns-clause-left g c = on_ok c.leave.result (LeftAsAsked c.index_mut.result.now.inbox) (LeftAt c.args.self.now c.args.node.now)
    (λ left. record {
      inbox = c.index_mut.result.now.inbox;
      at = inbox_is c.args.node.now (record {
        cluster = c.self.inside.cluster.items;
        lone = c.self.inside.lone.items;
        world = nodes_at c.self.inside.shared.hub.value;
        crew = c.self.inside.running.items;
        seating = c.self.inside.seating;
      }) c.args.self.now c.in-Some.index
          (sym (c.index_of.ensures ∙ ap (position (λ w. name_of w == c.args.node.now)) c.as_slice.ensures.value) ∙ c.in-Some.is) c.self.view_is c.index_mut.result.now
          c.index_mut.ensures.value;
      left = left;
    }) c.leave.ensures.left
