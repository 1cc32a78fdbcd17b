use Rattle.std.proofs.Common.{true, ◌≡◌, ◌∙◌, map, sym}
use Rattle.std.proofs.lemmas.Result.{err_from_is_err_and}
use Rattle.std.proofs.lemmas.List.{length-map}
use Rattle.replay.specs.Ends.{end_of, logs_of, EndedWell}
use Rattle.replay.specs.Replaying.{IsFault}
use Rattle.replay.proofs.Consistent.{never_torn}
use Rattle.replay.proofs.FirstNodes.{opens_names, firsts}
use Rattle.replay.specs.Consistent.{AreConsistent, is_torn}
use Rattle.replay.proofs.Ends.{end_at, same_node}
use Rattle.replay.proofs.Replaying.{as_many, alone, stopped, replayed, differs, of_world}
use Rattle.replay.proofs.run.replay.Goals as goal

pub returns-in-Some-clause-refused : goal.returns-in-Some-clause-refused
returns-in-Some-clause-refused g c =
    alone c.args.cluster.now c.args.lone.now (map (end_of g.N.Names.contents) c.args.ends.now) c.args.transcripts.now _
    c.in-Some.place c.copy.result (end_of g.N.Names.contents c.index-ends-place.result)
    (sym (length-map c.args.ends.now (end_of g.N.Names.contents))) c.in-Some.ensures
    (end_at g.N.Names.contents c.args.ends.now c.in-Some.place c.index-ends-place.result c.in-Some.ensures.within
    c.index-ends-place.is) (sym (c.copy.ensures ∙ c.node.ensures ∙ sym (same_node _ _ c.index-ends-place.is)))

pub returns-in_default-start-clause-refused : goal.returns-in_default-start-clause-refused
returns-in_default-start-clause-refused g c =
    as_many EndedWell (map (end_of g.N.Names.contents) c.args.ends.now) _
    (sym (length-map c.args.ends.now (end_of g.N.Names.contents))) c.in_default.ensures

pub returns-in_err-events-clause-refused : goal.returns-in_err-events-clause-refused
returns-in_err-events-clause-refused g c =
    let fault : IsFault c.args.cluster.now c.args.lone.now (map (end_of g.N.Names.contents) c.args.ends.now) c.args.transcripts.now c.in_err-events.field-0.0 =
    stopped c.args.cluster.now c.args.lone.now (map (end_of g.N.Names.contents) c.args.ends.now) c.args.transcripts.now
    c.in-Ok.world c.in_err-events.field-0.0
    (opens_names c.args.cluster.now c.args.lone.now c.in-Ok.world c.in-Ok.ensures.nodes)
    (as_many EndedWell (map (end_of g.N.Names.contents) c.args.ends.now) _
    (sym (length-map c.args.ends.now (end_of g.N.Names.contents))) c.in_default.ensures) c.in_err-events.ensures.stopped in
    let p = err_from_is_err_and c.from_residual.result c.from_residual.ensures.1 in
    rw (p.1, p.2) fault

pub compare-requires-clause-nodes : goal.compare-requires-clause-nodes
compare-requires-clause-nodes g c =
    of_world c.args.cluster.now c.args.lone.now c.args.ends.now c.in-Ok.world c.play_logs.new.world c.in_ok-events.events
    (logs_of (map (end_of g.N.Names.contents) c.args.ends.now)) (firsts c.args.cluster.now c.args.lone.now c.in-Ok.world
    c.in-Ok.ensures.nodes c.in-Ok.ensures.first) (opens_names c.args.cluster.now c.args.lone.now c.in-Ok.world
    c.in-Ok.ensures.nodes) c.in_ok-events.ensures.ok c.requires.each

pub returns-in_err-compare-clause-refused : goal.returns-in_err-compare-clause-refused
returns-in_err-compare-clause-refused g c =
    let fault : IsFault c.args.cluster.now c.args.lone.now (map (end_of g.N.Names.contents) c.args.ends.now)
    c.args.transcripts.now c.in_err-compare.field-0.0 =
    differs c.args.cluster.now c.args.lone.now (map (end_of g.N.Names.contents) c.args.ends.now) c.args.transcripts.now
    c.in-Ok.world c.play_logs.new.world c.in_ok-events.events c.in_err-compare.field-0.0
    (opens_names c.args.cluster.now c.args.lone.now c.in-Ok.world c.in-Ok.ensures.nodes) c.in_ok-events.ensures.ok
    (as_many EndedWell (map (end_of g.N.Names.contents) c.args.ends.now) _
    (sym (length-map c.args.ends.now (end_of g.N.Names.contents))) c.in_default.ensures) c.in_err-compare.ensures.refused in
    let p = err_from_is_err_and c.from_residual-in_err-compare.result c.from_residual-in_err-compare.ensures.1 in
    rw (p.1, p.2) fault

pub returns-clause-ok : goal.returns-clause-ok
returns-clause-ok g c =
    replayed c.args.cluster.now c.args.lone.now (map (end_of g.N.Names.contents) c.args.ends.now) c.args.transcripts.now
    c.in-Ok.world c.play_logs.new.world c.in_ok-events.events (opens_names c.args.cluster.now c.args.lone.now c.in-Ok.world
    c.in-Ok.ensures.nodes) c.in_ok-events.ensures.ok (as_many EndedWell (map (end_of g.N.Names.contents) c.args.ends.now) _
    (sym (length-map c.args.ends.now (end_of g.N.Names.contents))) c.in_default.ensures)
    c.in_ok-compare.ensures.tables c.in_ok-compare.ensures.transcripts

pub returns-in_err-events-clause-torn : goal.returns-in_err-events-clause-torn
returns-in_err-events-clause-torn g c =
    let fault : IsFault c.args.cluster.now c.args.lone.now (map (end_of g.N.Names.contents) c.args.ends.now) c.args.transcripts.now c.in_err-events.field-0.0 =
    stopped c.args.cluster.now c.args.lone.now (map (end_of g.N.Names.contents) c.args.ends.now) c.args.transcripts.now
    c.in-Ok.world c.in_err-events.field-0.0
    (opens_names c.args.cluster.now c.args.lone.now c.in-Ok.world c.in-Ok.ensures.nodes)
    (as_many EndedWell (map (end_of g.N.Names.contents) c.args.ends.now) _
    (sym (length-map c.args.ends.now (end_of g.N.Names.contents))) c.in_default.ensures) c.in_err-events.ensures.stopped in
    let torn : is_torn c.in_err-events.field-0.0 ≡ true → AreConsistent c.args.cluster.now c.args.lone.now (map (end_of g.N.Names.contents) c.args.ends.now) → ⊥ =
    never_torn c.args.cluster.now c.args.lone.now (map (end_of g.N.Names.contents) c.args.ends.now) c.args.transcripts.now
    c.in_err-events.field-0.0
    (firsts c.args.cluster.now c.args.lone.now c.in-Ok.world c.in-Ok.ensures.nodes c.in-Ok.ensures.first) fault in
    let p = err_from_is_err_and c.from_residual.result c.from_residual.ensures.1 in
    rw (p.1, p.2) torn

pub returns-in_err-compare-clause-torn : goal.returns-in_err-compare-clause-torn
returns-in_err-compare-clause-torn g c =
    let fault : IsFault c.args.cluster.now c.args.lone.now (map (end_of g.N.Names.contents) c.args.ends.now)
    c.args.transcripts.now c.in_err-compare.field-0.0 =
    differs c.args.cluster.now c.args.lone.now (map (end_of g.N.Names.contents) c.args.ends.now) c.args.transcripts.now
    c.in-Ok.world c.play_logs.new.world c.in_ok-events.events c.in_err-compare.field-0.0
    (opens_names c.args.cluster.now c.args.lone.now c.in-Ok.world c.in-Ok.ensures.nodes) c.in_ok-events.ensures.ok
    (as_many EndedWell (map (end_of g.N.Names.contents) c.args.ends.now) _
    (sym (length-map c.args.ends.now (end_of g.N.Names.contents))) c.in_default.ensures) c.in_err-compare.ensures.refused in
    let torn : is_torn c.in_err-compare.field-0.0 ≡ true → AreConsistent c.args.cluster.now c.args.lone.now
    (map (end_of g.N.Names.contents) c.args.ends.now) → ⊥ =
    never_torn c.args.cluster.now c.args.lone.now (map (end_of g.N.Names.contents) c.args.ends.now) c.args.transcripts.now
    c.in_err-compare.field-0.0
    (firsts c.args.cluster.now c.args.lone.now c.in-Ok.world c.in-Ok.ensures.nodes c.in-Ok.ensures.first) fault in
    let p = err_from_is_err_and c.from_residual-in_err-compare.result c.from_residual-in_err-compare.ensures.1 in
    rw (p.1, p.2) torn
