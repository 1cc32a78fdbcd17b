use Rattle.std.proofs.Common.{◌+◌, ◌∙◌, ap, arith}
use Rattle.std.specs.Prelude.{not}
use Rattle.registry_model.specs.Table.{Pair}
use Rattle.wire_end.proofs.Rising.{falls, rises_on}
use Rattle.wire_end.proofs.saying.rise.Goals as goal

pub returns-then-ge : goal.returns-then-ge
returns-then-ge c = falls c.args.pairs.now (c.loop-place.place + 1)
    (rises_on c.args.pairs.now c.loop-place.place c.index-pairs-place.result c.index-pairs-place-in-loop-place.result
    c.below.inside.name c.above.inside.name c.ge.result c.loop-place.invariant.first
    (omega (arith, c.loop-place-test.true, c.loop-place.auto.place-end)) c.index-pairs-place.is c.index-pairs-place-in-loop-place.is
    (ap (λ (p : Pair). p.name) c.below.view_is) (ap (λ (p : Pair). p.name) c.above.view_is) c.ge.ensures c.loop-place.invariant.rise
    ∙ ap not c.if-ge.true)

pub loop-place-preserved : goal.loop-place-preserved
loop-place-preserved c = record {
  first = omega (arith, c.loop-place.invariant.first);
  rise =
      (rises_on c.args.pairs.now c.loop-place.place c.index-pairs-place.result c.index-pairs-place-in-loop-place.result
      c.below.inside.name c.above.inside.name c.ge.result c.loop-place.invariant.first
      (omega (arith, c.loop-place-test.true, c.loop-place.auto.place-end)) c.index-pairs-place.is c.index-pairs-place-in-loop-place.is
      (ap (λ (p : Pair). p.name) c.below.view_is) (ap (λ (p : Pair). p.name) c.above.view_is) c.ge.ensures c.loop-place.invariant.rise
      ∙ ap not c.if-ge.false);
}
