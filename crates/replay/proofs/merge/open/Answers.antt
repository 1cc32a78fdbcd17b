use Rattle.std.proofs.Common.{◌∙◌, ap, map, refl}
use Rattle.std.proofs.lemmas.Option.{slice_get-map}
use Rattle.std.specs.Option.{option_map}
use Rattle.replay.specs.Ends.{End, end_of, logs_of}
use Rattle.replay.proofs.Ends.{end_at}
use Rattle.replay.proofs.Reading.{longer, reads_more, begins_more}
use Rattle.replay.proofs.merge.open.Goals as goal

pub loop-end-preserved : goal.loop-end-preserved
loop-end-preserved g c = record {
  long = longer (logs_of (map (end_of g.N.Names.contents) c.args.ends.now)) c.loop-end.readers.items c.push.new.self.items
      c.loop-end.end-index _ c.in_ok-push.ensures.items c.loop-end.invariant.long;
  reads = reads_more (logs_of (map (end_of g.N.Names.contents) c.args.ends.now)) c.loop-end.readers.items
      c.push.new.self.items c.loop-end.end-index _ c.in_ok-push.ensures.items c.loop-end.invariant.long
      (slice_get-map (λ (e : End). e.log) (map (end_of g.N.Names.contents) c.args.ends.now) c.loop-end.end-index
      ∙ ap (option_map (λ (e : End). e.log)) (end_at g.N.Names.contents c.args.ends.now c.loop-end.end-index c.end-item.result
      c.loop-end-test.true c.end-item.is)) c.loop-end.invariant.reads;
  at = begins_more (logs_of (map (end_of g.N.Names.contents) c.args.ends.now)) c.loop-end.readers.items
      c.push.new.self.items c.loop-end.end-index _ c.in_ok-push.ensures.items c.loop-end.invariant.long refl
      c.loop-end.invariant.at;
}
