use Rattle.std.proofs.Common.{ℕ, ◌≡◌, sym, ap, subst, ◌∙◌}
use Rattle.std.specs.Prelude.{IfOk}
use Rattle.term.specs.NodeSets.{set_of}
use Rattle.node_seats.specs.Callers.{nodes_at}
use Rattle.node_threads.specs.Clusters.{nodes_in}
use Rattle.node_threads.specs.Wires.{name_of}
use Rattle.node_threads.proofs.Rows.{crew_known, crew_unknown, stands}
use Rattle.node_threads.proofs.Standings.{untold}
use Rattle.node_threads.proofs.cluster.Cluster.status.Goals as goal

pub returns-in-Some-clause-stranger : goal.returns-in-Some-clause-stranger
returns-in-Some-clause-stranger g c = λ e. absurd (cc (sym (crew_known c.args.node.now c.as_slice.result.now c.self.inside.running.items (record {
  cluster = c.self.inside.cluster.items;
  lone = c.self.inside.lone.items;
  world = nodes_at c.self.inside.shared.hub.value;
  crew = c.self.inside.running.items;
  seating = c.self.inside.seating;
}) c.args.self.now
    c.index_of.result c.index_of.ensures c.as_slice.ensures.value c.self.invariant.1 c.self.view_is
    c.in-Some.index c.in-Some.is) ∙ e))

pub returns-in-Some-clause-node : goal.returns-in-Some-clause-node
returns-in-Some-clause-node g c = subst (λ (n : ℕ). IfOk c.status.result (λ status. status.node ≡ n))
    (ap name_of c.index.ensures
    ∙ stands c.args.node.now c.as_slice.result.now c.self.inside.running.items (record {
      cluster = c.self.inside.cluster.items;
      lone = c.self.inside.lone.items;
      world = nodes_at c.self.inside.shared.hub.value;
      crew = c.self.inside.running.items;
      seating = c.self.inside.seating;
    }) c.args.self.now
    c.index_of.result c.index_of.ensures c.as_slice.ensures.value c.self.invariant.1 c.self.view_is
    c.in-Some.index c.index.result.now c.in-Some.is)
    c.status.ensures.node

pub returns-in-Some-clause-untold : goal.returns-in-Some-clause-untold
returns-in-Some-clause-untold g c = untold c.status.result (set_of (nodes_in c.args.self.now) c.args.node.now)
    (crew_known c.args.node.now c.as_slice.result.now c.self.inside.running.items (record {
      cluster = c.self.inside.cluster.items;
      lone = c.self.inside.lone.items;
      world = nodes_at c.self.inside.shared.hub.value;
      crew = c.self.inside.running.items;
      seating = c.self.inside.seating;
    }) c.args.self.now
    c.index_of.result c.index_of.ensures c.as_slice.ensures.value c.self.invariant.1 c.self.view_is
    c.in-Some.index c.in-Some.is)
    c.status.ensures.ended

pub returns-in-None-clause-untold : goal.returns-in-None-clause-untold
returns-in-None-clause-untold g c = crew_unknown c.args.node.now c.as_slice.result.now c.self.inside.running.items (record {
  cluster = c.self.inside.cluster.items;
  lone = c.self.inside.lone.items;
  world = nodes_at c.self.inside.shared.hub.value;
  crew = c.self.inside.running.items;
  seating = c.self.inside.seating;
}) c.args.self.now
    c.index_of.result c.index_of.ensures c.as_slice.ensures.value c.self.invariant.1 c.self.view_is c.in-None.is
