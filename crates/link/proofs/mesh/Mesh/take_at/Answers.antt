use Rattle.std.proofs.Common.{ℕ, List, get_or, set, ap, subst, sym, ◌∙◌}
use Rattle.std.specs.List.{slice_get}
use Rattle.protocol_model.specs.Links.{taken}
use Rattle.link.specs.MeshState.{MeshState, seen, from_of, to_of, IsWithin}
use Rattle.link.proofs.Places.{place-get_or, read_link}
use Rattle.link.proofs.Writes.{seen-pop}
use Rattle.link.proofs.mesh.Mesh.take_at.Goals as goal

pub returns-clause-oldest : goal.returns-clause-oldest
returns-clause-oldest g c =
    c.pop.ensures.oldest ∙ ap (λ (ls : List g.row.L.Denot). slice_get ls 0)
    (read_link _ c.args.self.now c.args.link c.index.result c.index_mut.result.now c.self.view_is c.self.invariant
    c.requires c.index.ensures c.index_mut.ensures.value)

pub returns-clause-taken : goal.returns-clause-taken
returns-clause-taken g c =
    let h : MeshState g.row.L.Denot = record {
      nodes = c.self.inside.nodes.items;
      links = c.self.inside.links.items;
      closed =
          c.self.inside.closed;
    } in
    let within = subst (λ (k : MeshState g.row.L.Denot). IsWithin c.args.link k) (sym c.self.view_is) c.requires in
    ap (λ (n : ℕ). seen (record { nodes = h.nodes; links = set h.links n c.pop.new.self; closed = h.closed })) c.index.ensures
    ∙ seen-pop h (from_of c.args.link h) (to_of c.args.link h) c.args.link.sender c.args.link.receiver
    c.index_mut.result.now c.pop.new.self c.self.invariant
    (place-get_or h.nodes c.args.link.sender c.self.invariant.rising within.0)
    (place-get_or h.nodes c.args.link.receiver c.self.invariant.rising within.1)
    (c.index_mut.ensures.value ∙ ap (λ (n : ℕ). get_or h.links n c.index_mut.result.now) c.index.ensures) c.pop.ensures.rest
    ∙ ap (λ (k : MeshState g.row.L.Denot). taken (from_of c.args.link k) (to_of c.args.link k) (seen k)) c.self.view_is
