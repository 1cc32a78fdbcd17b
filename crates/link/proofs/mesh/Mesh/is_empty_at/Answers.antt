use Rattle.std.proofs.Common.{List, ap, ◌∙◌}
use Rattle.protocol_model.specs.Links.{is_nil}
use Rattle.link.proofs.Places.{read_link}
use Rattle.link.proofs.mesh.Mesh.is_empty_at.Goals as goal

pub returns : goal.returns
returns g c =
    c.is_empty.ensures ∙ ap (λ (ls : List g.row.L.Denot). is_nil ls)
    (read_link _ c.args.self.now c.args.link c.index.result c.index-2.result.now c.self.view_is c.self.invariant
    c.requires c.index.ensures c.index-2.ensures)
