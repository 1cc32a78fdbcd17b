use Rattle.std.proofs.Common.{refl, arith, ap, List, map}
use Rattle.std.proofs.lemmas.Option.{slice_get_within}
use Rattle.registry_model.specs.Settlement.{Notice}
use Rattle.replay.proofs.Sameness.{neither, not_false, item_at, seen_same, seen_more, seen_apart, as_itself}
use Rattle.replay.proofs.equal.same_notices.Goals as goal

pub returns-then-not-same_notice : goal.returns-then-not-same_notice
returns-then-not-same_notice c =
    neither (λ e. seen_apart (λ (p : Notice). p) c.args.some.now c.args.others.now c.loop-place.place
    c.index-some-place.result c.index-others-place.result (item_at c.args.some.now c.loop-place.place c.index-some-place.result c.loop-place-test.true c.index-some-place.is)
    (item_at c.args.others.now c.loop-place.place c.index-others-place.result (omega (arith, c.loop-place-test.true, c.if-some-others.false)) c.index-others-place.is)
    (not_false c.if-not-same_notice.ensures) (ap (λ (ps : List Notice). map (λ (p : Notice). p) ps) e))

pub loop-place-preserved : goal.loop-place-preserved
loop-place-preserved c =
    seen_more (λ (p : Notice). p) c.args.some.now c.args.others.now c.loop-place.place c.index-some-place.result
    c.index-others-place.result (item_at c.args.some.now c.loop-place.place c.index-some-place.result c.loop-place-test.true c.index-some-place.is)
    (item_at c.args.others.now c.loop-place.place c.index-others-place.result (omega (arith, c.loop-place-test.true, c.if-some-others.false)) c.index-others-place.is)
    (c.if-not-same_notice.ensures.0 refl) c.loop-place.invariant

pub returns : goal.returns
returns c = (
  λ t. as_itself c.args.some.now c.args.others.now
      (seen_same (λ (p : Notice). p) c.args.some.now c.args.others.now c.if-some-others.false
      (λ k x y h i. c.loop-place.invariant k x y
      (omega (arith, slice_get_within c.args.some.now k x h, c.loop-place-test.false, c.loop-place.auto.place-end)) h i)),
  λ e. refl,
)
