use Rattle.std.proofs.Common.{◌++◌, [], ◌∷◌, take, take_all, subst, sym, ap, ◌∙◌}
use Rattle.std.specs.Prelude.{All}
use Rattle.std.proofs.lemmas.Grind.{take_at_read}
use Rattle.std.proofs.lemmas.List.Elements.{All-append, All-cons, All-nil}
use Rattle.server.specs.declared.served.Witness.{Witness}
use Rattle.server.specs.Covering.{IsCovered}
use Rattle.server.proofs.covering.cover_all.Goals as goal

pub loop-witness-preserved : goal.loop-witness-preserved
loop-witness-preserved c =
    let names = c.args.cluster.now ++ c.args.lone.now in
    let witnesses = c.args.witnesses.now in
    let index = c.loop-witness.witness-index in
    let witness = c.witness-item.result in
    subst (All (IsCovered c.args.pasts.now names))
    (sym ((take_at_read witnesses index witness c.loop-witness-test.true).1
    ∙ ap (λ (w : Witness). take index witnesses ++ w ∷ []) (sym c.witness-item.is)))
    (All-append (IsCovered c.args.pasts.now names) (take index witnesses) (witness ∷ []) c.loop-witness.invariant
    (All-cons (IsCovered c.args.pasts.now names) witness [] c.cover.ensures (All-nil (IsCovered c.args.pasts.now names))))

pub returns : goal.returns
returns c = subst (All (IsCovered c.args.pasts.now (c.args.cluster.now ++ c.args.lone.now)))
    (take_all c.loop-witness.witness-index c.args.witnesses.now c.loop-witness-test.false) c.loop-witness.invariant
