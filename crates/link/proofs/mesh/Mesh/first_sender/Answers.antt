use Rattle.std.proofs.Common.{ℕ, length, refl, sym, ap, subst, ◌∙◌, arith}
use Rattle.protocol_model.specs.Links.{is_nil}
use Rattle.link.specs.MeshState.{MeshState, IsWhole, seen}
use Rattle.link.proofs.Waiting.{copy_at, none_more, none_towards, least_towards}
use Rattle.link.proofs.mesh.Mesh.first_sender.Goals as goal

pub returns-then-not-is_empty : goal.returns-then-not-is_empty
returns-then-not-is_empty g c =
    let h = c.args.self.now in
    let whole = subst (λ (h : MeshState g.row.L.Denot). IsWhole h) c.self.view_is c.self.invariant in
    let nodes = ap (λ (h : MeshState g.row.L.Denot). h.nodes) c.self.view_is in
    least_towards h c.args.to.now c.loop-place.place c.copy.result whole c.loop-place.invariant
    (omega (arith, c.loop-place-test.true, c.len-place-end.ensures, ap length nodes))
    (copy_at c.loop-place.place nodes c.copy.ensures c.index-from.ensures)
    (ap (λ (f : ℕ). is_nil ((seen h).queue f c.args.to.now)) c.copy.ensures ∙ sym c.is_empty.ensures
    ∙ c.if-not-is_empty.true)

pub loop-place-preserved : goal.loop-place-preserved
loop-place-preserved g c =
    let nodes = ap (λ (h : MeshState g.row.L.Denot). h.nodes) c.self.view_is in
    none_more c.args.self.now c.args.to.now c.loop-place.place c.index-from.result.now c.loop-place.invariant
    (omega (arith, c.loop-place-test.true, c.len-place-end.ensures, ap length nodes))
    (copy_at c.loop-place.place nodes refl c.index-from.ensures) (sym c.is_empty.ensures ∙ c.if-not-is_empty.false)

pub returns : goal.returns
returns g c =
    let nodes = ap (λ (h : MeshState g.row.L.Denot). h.nodes) c.self.view_is in
    none_towards c.args.self.now c.args.to.now c.loop-place.place c.loop-place.invariant
    (omega (arith, c.loop-place-test.false, c.len-place-end.ensures, ap length nodes))
