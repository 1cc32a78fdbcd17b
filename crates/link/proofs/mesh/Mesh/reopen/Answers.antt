use Rattle.std.proofs.Common.{Some, ◌≡◌, ap, sym, ◌∙◌}
use Rattle.link.specs.MeshState.{MeshState, place, seen}
use Rattle.link.specs.Reopening.{reopened}
use Rattle.link.proofs.Writes.{seen-reopened}
use Rattle.link.proofs.mesh.Mesh.reopen.Goals as goal

pub returns-clause-ok : goal.returns-clause-ok
returns-clause-ok g c =
    let h : MeshState g.row.L.Denot = record {
      nodes = c.self.inside.nodes.items;
      links = c.self.inside.links.items;
      closed =
          c.self.inside.closed;
    } in
    let there : place c.args.node.now h.nodes ≡ Some c.in-Some.place =
    ap (λ (k : MeshState g.row.L.Denot). place c.args.node.now k.nodes) c.self.view_is ∙ sym c.place.ensures
    ∙ c.in-Some.is in
    seen-reopened h c.args.node.now c.in-Some.place c.self.invariant there
    ∙ ap (λ (k : MeshState g.row.L.Denot). reopened c.args.node.now (seen k)) c.self.view_is
