use Rattle.std.proofs.Common.{◌∙◌, length, map, sym, ap, subst}
use Rattle.std.proofs.lemmas.List.{length-map}
use Rattle.cluster_world.specs.Seen.{seen}
use Rattle.node_log.specs.Openings.{repeats}
use Rattle.node_log.specs.declared.transcript.Transcript.{Transcript}
use Rattle.replay.specs.Ends.{end_of, is_lesser, HasTableOf}
use Rattle.replay.specs.Least.{LeastOther}
use Rattle.replay.proofs.Ends.{end_at, same_node, same_length}
use Rattle.replay.proofs.Playing.{nodes_are}
use Rattle.replay.proofs.Replaying.{as_many, table_differs, seat_differs}
use Rattle.replay.proofs.Sameness.{item_at}
use Rattle.replay.proofs.run.compare.Goals as goal

pub returns-in-Some-clause-refused : goal.returns-in-Some-clause-refused
returns-in-Some-clause-refused g c =
    let least = (subst (LeastOther (HasTableOf (seen c.args.world.now)) is_lesser (map (end_of g.N.Names.contents) c.args.ends.now)
    (length c.args.ends.now)) c.in-Some.is c.in_ok-place.ensures) in
    table_differs (map (end_of g.N.Names.contents) c.args.ends.now) c.args.transcripts.now (seen c.args.world.now) _ c.in-Some.place
    c.copy.result c.len.result (end_of g.N.Names.contents c.index-ends-place.result)
    (ap repeats (nodes_are g.N.Names.contents c.args.ends.now) ∙ c.requires.once)
    (sym (length-map c.args.ends.now (end_of g.N.Names.contents))) least
    (end_at g.N.Names.contents c.args.ends.now c.in-Some.place c.index-ends-place.result least.within c.index-ends-place.is)
    (sym (c.copy.ensures ∙ c.node.ensures ∙ sym (same_node _ _ c.index-ends-place.is)))
    (c.len.ensures ∙ sym (same_length _ _ c.index-ends-place.is))

pub returns-in-Some-least_stranger-clause-refused : goal.returns-in-Some-least_stranger-clause-refused
returns-in-Some-least_stranger-clause-refused g c =
    seat_differs (map (end_of g.N.Names.contents) c.args.ends.now) c.args.transcripts.now (seen c.args.world.now)
    c.in-Some-least_stranger.place _ c.index-transcripts-place.result
    (as_many (HasTableOf (seen c.args.world.now)) (map (end_of g.N.Names.contents) c.args.ends.now) _
    (sym (length-map c.args.ends.now (end_of g.N.Names.contents))) (subst
    (LeastOther (HasTableOf (seen c.args.world.now)) is_lesser (map (end_of g.N.Names.contents) c.args.ends.now)
    (length c.args.ends.now)) c.in_default.is c.in_ok-place.ensures)) c.in-Some-least_stranger.ensures
    (item_at c.args.transcripts.now c.in-Some-least_stranger.place c.index-transcripts-place.result
    c.in-Some-least_stranger.ensures.within c.index-transcripts-place.is)
    (ap (λ (t : Transcript). t.seat) c.index-transcripts-place.is)

pub returns-in-None-clause-tables : goal.returns-in-None-clause-tables
returns-in-None-clause-tables g c =
    as_many (HasTableOf (seen c.args.world.now)) (map (end_of g.N.Names.contents) c.args.ends.now) _
    (sym (length-map c.args.ends.now (end_of g.N.Names.contents))) (subst
    (LeastOther (HasTableOf (seen c.args.world.now)) is_lesser (map (end_of g.N.Names.contents) c.args.ends.now)
    (length c.args.ends.now)) c.in_default.is c.in_ok-place.ensures)
