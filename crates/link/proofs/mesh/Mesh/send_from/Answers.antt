use Rattle.std.proofs.Common.{ℕ, false, Some, ◌≡◌, ◌<◌, length, get_or, set, ap, subst, sym, ◌∙◌}
use Rattle.std.proofs.lemmas.Result.{on_ok_weaker, IfErr-weaker}
use Rattle.protocol_model.specs.Links.{posted}
use Rattle.link.specs.declared.faults.LinkFault.TheVariants.{Memory}
use Rattle.link.specs.declared.faults.Unsent.{Unsent}
use Rattle.link.specs.Faults.{IsUnsent}
use Rattle.link.specs.MeshState.{MeshState, IsWhole, place, seen, only_to, node_at}
use Rattle.link.proofs.Places.{place-get_or, joined, closed_at-Some}
use Rattle.link.proofs.Writes.{seen-push}
use Rattle.link.proofs.mesh.Mesh.send_from.Goals as goal

pub returns-clause-ok : goal.returns-clause-ok
returns-clause-ok g c =
    let h : MeshState g.row.L.Denot = record {
      nodes = c.self.inside.nodes.items;
      links = c.self.inside.links.items;
      closed =
          c.self.inside.closed;
    } in
    let within = subst (λ (k : MeshState g.row.L.Denot). c.args.sender < length k.nodes) (sym c.self.view_is) c.requires in
    let receiver : place c.args.to.now h.nodes ≡ Some c.in-Some.receiver =
    ap (λ (k : MeshState g.row.L.Denot). place c.args.to.now k.nodes) c.self.view_is ∙ sym c.place.ensures
    ∙ c.in-Some.is in
    on_ok_weaker c.push.result
    (λ more. ap (λ (n : ℕ). seen (record { nodes = h.nodes; links = set h.links n c.push.new.self; closed = h.closed }))
    c.index.ensures
    ∙ seen-push h (node_at c.args.sender h) c.args.to.now c.args.sender c.in-Some.receiver c.args.letter
    c.index_mut.result.now c.push.new.self c.self.invariant
    (place-get_or h.nodes c.args.sender c.self.invariant.rising within) receiver c.if-self-receiver.false
    (c.index_mut.ensures.value ∙ ap (λ (n : ℕ). get_or h.links n c.index_mut.result.now) c.index.ensures) more
    ∙ ap (λ (k : MeshState g.row.L.Denot). posted (node_at c.args.sender k) (only_to c.args.to.now c.args.letter) (seen k))
    c.self.view_is)
    c.push.ensures.ok

pub returns-clause-err : goal.returns-clause-err
returns-clause-err g c =
    let h = c.args.self.now in
    let f = node_at c.args.sender h in
    let whole = subst (λ (k : MeshState g.row.L.Denot). IsWhole k) c.self.view_is c.self.invariant in
    let receiver : place c.args.to.now h.nodes ≡ Some c.in-Some.receiver = sym c.place.ensures ∙ c.in-Some.is in
    let running = subst (λ (k : MeshState g.row.L.Denot). get_or k.closed c.in-Some.receiver false ≡ false) c.self.view_is
    c.if-self-receiver.false in
    IfErr-weaker c.push.result (λ unsent. unsent ≡ record { fault = Memory; letter = c.args.letter })
    (λ unsent. IsUnsent unsent.fault f c.args.to.now h)
    (λ unsent is. subst (λ (u : Unsent g.row.L.Denot). IsUnsent u.fault f c.args.to.now h) (sym is) (
      joined h f c.args.to.now c.args.sender c.in-Some.receiver
          (place-get_or h.nodes c.args.sender whole.rising c.requires) receiver,
      closed_at-Some (place c.args.to.now h.nodes) c.in-Some.receiver h.closed receiver ∙ running,
    )) c.push.ensures.err
