use Rattle.std.proofs.Common.{Some, true, ◌≡◌, ◌==◌, ◌+◌, ◌*◌, List, [], length, get_or, set, ap, sym, subst, ◌∙◌, arith}
use Rattle.std.specs.Prelude.{if◌then◌else◌}
use Rattle.std.specs.Vec.{with_items}
use Rattle.std.proofs.lemmas.List.{with_items_is}
use Rattle.protocol_model.specs.Links.{closed_out}
use Rattle.term.specs.declared.limits.TheConstants.{MOST_NODES}
use Rattle.link.specs.MeshState.{MeshState, place, seen}
use Rattle.link.proofs.Writes.{seen-cleared}
use Rattle.link.proofs.mesh.Mesh.close_out.Goals as goal

pub returns-clause-ok : goal.returns-clause-ok
returns-clause-ok g c =
    let h : MeshState g.row.L.Denot = record {
      nodes = c.self.inside.nodes.items;
      links = c.self.inside.links.items;
      closed =
          c.self.inside.closed;
    } in
    let there : place c.args.node.now h.nodes ≡ Some c.in-Some.receiver =
    ap (λ (k : MeshState g.row.L.Denot). place c.args.node.now k.nodes) c.self.view_is ∙ sym c.place.ensures
    ∙ c.in-Some.is in
    let links : (with_items c.self.inside.links c.clear_towards.new.links).items ≡ c.clear_towards.new.links =
    with_items_is c.self.inside.links c.clear_towards.new.links
    (omega (
      arith,
      c.clear_towards.ensures.count,
      ap length c.as_mut_slice.ensures.value,
      c.as_mut_slice.ensures.len,
      c.self.invariant.links,
    )) in
    ap (λ (ls : List (List g.row.L.Denot)). seen (record
    { nodes = h.nodes; links = ls; closed = set h.closed c.in-Some.receiver true })) links
    ∙ seen-cleared h c.args.node.now c.in-Some.receiver c.clear_towards.new.links c.self.invariant there
    (λ i k l m. subst (λ (ls : List (List g.row.L.Denot)). get_or c.clear_towards.new.links (i * MOST_NODES + k) []
    ≡ (if k == c.in-Some.receiver then [] else get_or ls (i * MOST_NODES + k) [])) c.as_mut_slice.ensures.value
    (c.clear_towards.ensures.cleared i k l m))
    ∙ ap (λ (k : MeshState g.row.L.Denot). closed_out c.args.node.now (seen k)) c.self.view_is
