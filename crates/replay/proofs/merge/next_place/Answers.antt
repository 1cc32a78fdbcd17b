use Rattle.std.proofs.Common.{◌≡◌, None}
use Rattle.replay.specs.Reading.{head_of, goes_first}
use Rattle.replay.proofs.Least.{least_chosen}
use Rattle.replay.proofs.Reading.{goes_first-trans, goes_first-anti, has_head}
use Rattle.replay.proofs.Sameness.{item_at}
use Rattle.replay.proofs.merge.next_place.Goals as goal

pub loop-place-preserved : goal.loop-place-preserved
loop-place-preserved c =
    least_chosen (λ r. head_of r ≡ None) goes_first goes_first-trans goes_first-anti c.args.readers.now c.loop-place.place
    c.index-readers-place.result c.loop-place.first c.first_of-first.result
    (item_at c.args.readers.now c.loop-place.place c.index-readers-place.result c.loop-place-test.true
    c.index-readers-place.is) (has_head _ _ _ c.head.ensures c.if-is_none.ensures) c.loop-place.invariant
    c.first_of-first.ensures
