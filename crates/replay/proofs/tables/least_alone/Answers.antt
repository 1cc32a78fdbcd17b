use Rattle.std.proofs.Common.{arith, length, map}
use Rattle.replay.specs.Ends.{end_of, is_lesser, EndedWell}
use Rattle.replay.proofs.Ends.{end_at, chosen_end, ended_alone}
use Rattle.replay.proofs.Least.{least_skip, least_chosen, least_end, lt-trans, lt-anti}
use Rattle.replay.proofs.tables.least_alone.Goals as goal

pub loop-place-preserved-then-not-end : goal.loop-place-preserved-then-not-end
loop-place-preserved-then-not-end g c =
    least_skip EndedWell is_lesser (map (end_of g.N.Names.contents) c.args.ends.now) c.loop-place.place
    (end_of g.N.Names.contents c.index-ends-place.result) c.loop-place.least
    (end_at g.N.Names.contents c.args.ends.now c.loop-place.place c.index-ends-place.result c.loop-place-test.true
    c.index-ends-place.is) c.if-not-end.true c.loop-place.invariant

pub loop-place-preserved : goal.loop-place-preserved
loop-place-preserved g c =
    least_chosen EndedWell is_lesser (λ x y z. lt-trans x.log.node y.log.node z.log.node) (λ x. lt-anti x.log.node)
    (map (end_of g.N.Names.contents) c.args.ends.now) c.loop-place.place
    (end_of g.N.Names.contents c.index-ends-place.result) c.loop-place.least c.least_of-least.result
    (end_at g.N.Names.contents c.args.ends.now c.loop-place.place c.index-ends-place.result c.loop-place-test.true
    c.index-ends-place.is) (ended_alone c.index-ends-place.result.ended_alone c.if-not-end.false) c.loop-place.invariant
    (chosen_end g.N.Names.contents c.args.ends.now c.loop-place.place c.loop-place.least c.least_of-least.result
    c.least_of-least.ensures)

pub returns : goal.returns
returns g c =
    least_end EndedWell is_lesser (map (end_of g.N.Names.contents) c.args.ends.now) c.loop-place.place
    (length c.args.ends.now) c.loop-place.least (omega (arith, c.loop-place-test.false, c.loop-place.auto.place-end))
    c.loop-place.invariant
