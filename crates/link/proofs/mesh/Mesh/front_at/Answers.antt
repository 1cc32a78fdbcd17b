use Rattle.std.proofs.Common.{List, ap, ◌∙◌}
use Rattle.std.specs.List.{slice_get}
use Rattle.link.proofs.Places.{read_link}
use Rattle.link.proofs.mesh.Mesh.front_at.Goals as goal

pub returns : goal.returns
returns g c =
    c.front.ensures ∙ ap (λ (ls : List g.row.L.Denot). slice_get ls 0)
    (read_link _ c.args.self.now c.args.link c.index.result c.index-2.result.now c.self.view_is c.self.invariant
    c.requires c.index.ensures c.index-2.ensures)
