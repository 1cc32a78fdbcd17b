use Rattle.std.proofs.Common.{refl, arith, map, length}
use Rattle.replay.specs.Ends.{end_of, logs_of}
use Rattle.replay.specs.Transcripts.{Fits, has_lesser_seat}
use Rattle.replay.proofs.Least.{least_skip, least_chosen, least_end, lt-trans, lt-anti}
use Rattle.replay.proofs.Sameness.{item_at, not_false}
use Rattle.replay.proofs.transcripts.least_stranger.Goals as goal

pub loop-place-preserved-then-fits : goal.loop-place-preserved-then-fits
loop-place-preserved-then-fits g c =
    least_skip (Fits (logs_of (map (end_of g.N.Names.contents) c.args.ends.now)) c.args.transcripts.now) has_lesser_seat
    c.args.transcripts.now c.loop-place.place c.index-transcripts-place.result c.loop-place.least
    (item_at c.args.transcripts.now c.loop-place.place c.index-transcripts-place.result c.loop-place-test.true
    c.index-transcripts-place.is) (c.if-fits.ensures.0 refl) c.loop-place.invariant

pub loop-place-preserved : goal.loop-place-preserved
loop-place-preserved g c =
    least_chosen (Fits (logs_of (map (end_of g.N.Names.contents) c.args.ends.now)) c.args.transcripts.now)
    has_lesser_seat (λ x y z. lt-trans x.seat y.seat z.seat) (λ x. lt-anti x.seat) c.args.transcripts.now
    c.loop-place.place c.index-transcripts-place.result c.loop-place.least c.least_of-least.result
    (item_at c.args.transcripts.now c.loop-place.place c.index-transcripts-place.result c.loop-place-test.true
    c.index-transcripts-place.is) (not_false c.if-fits.ensures) c.loop-place.invariant c.least_of-least.ensures

pub returns : goal.returns
returns g c =
    least_end (Fits (logs_of (map (end_of g.N.Names.contents) c.args.ends.now)) c.args.transcripts.now) has_lesser_seat
    c.args.transcripts.now c.loop-place.place (length c.args.transcripts.now) c.loop-place.least
    (omega (arith, c.loop-place-test.false, c.loop-place.auto.place-end)) c.loop-place.invariant
