use Rattle.std.proofs.Common.{map}
use Rattle.cluster_world.specs.Seen.{seen}
use Rattle.replay.specs.Ends.{end_of, is_lesser, HasTableOf}
use Rattle.replay.proofs.Ends.{end_at, chosen_end}
use Rattle.replay.proofs.Least.{least_skip, least_chosen, lt-trans, lt-anti}
use Rattle.replay.proofs.Sameness.{match_true, match_false}
use Rattle.replay.proofs.tables.least_other_table.Goals as goal

pub loop-place-preserved-then-branch : goal.loop-place-preserved-then-branch
loop-place-preserved-then-branch g c =
    least_skip (HasTableOf (seen c.args.world.now)) is_lesser (map (end_of g.N.Names.contents) c.args.ends.now)
    c.loop-place.place (end_of g.N.Names.contents c.index-ends-place.result) c.loop-place.least
    (end_at g.N.Names.contents c.args.ends.now c.loop-place.place c.index-ends-place.result c.loop-place-test.true
    c.index-ends-place.is) (match_true (HasTableOf (seen c.args.world.now) (end_of g.N.Names.contents c.index-ends-place.result)) (HasTableOf (seen c.args.world.now) (end_of g.N.Names.contents c.index-ends-place.result) → ⊥) c.in_ok-has_table.field-0 c.if-branch.true c.in_ok-has_table.ensures) c.loop-place.invariant

pub loop-place-preserved : goal.loop-place-preserved
loop-place-preserved g c =
    least_chosen (HasTableOf (seen c.args.world.now)) is_lesser (λ x y z. lt-trans x.log.node y.log.node z.log.node)
    (λ x. lt-anti x.log.node) (map (end_of g.N.Names.contents) c.args.ends.now) c.loop-place.place
    (end_of g.N.Names.contents c.index-ends-place.result) c.loop-place.least c.least_of-least.result
    (end_at g.N.Names.contents c.args.ends.now c.loop-place.place c.index-ends-place.result c.loop-place-test.true
    c.index-ends-place.is) (match_false (HasTableOf (seen c.args.world.now) (end_of g.N.Names.contents c.index-ends-place.result)) (HasTableOf (seen c.args.world.now) (end_of g.N.Names.contents c.index-ends-place.result) → ⊥) c.in_ok-has_table.field-0 c.if-branch.false c.in_ok-has_table.ensures) c.loop-place.invariant
    (chosen_end g.N.Names.contents c.args.ends.now c.loop-place.place c.loop-place.least c.least_of-least.result
    c.least_of-least.ensures)
