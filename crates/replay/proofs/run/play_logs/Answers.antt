use Rattle.std.proofs.Common.{◌≡◌, ◌∙◌, List, None, length, map, subst, ap, rules}
use Rattle.cluster_world.specs.Seen.{names_of}
use Rattle.node_log.specs.Openings.{repeats}
use Rattle.replay.specs.declared.merge.Reader.{Reader}
use Rattle.replay.specs.Ends.{end_of, logs_of}
use Rattle.replay.specs.Least.{AllSuch, IsLeastOther}
use Rattle.replay.specs.Reading.{head_of, goes_first}
use Rattle.replay.specs.Replaying.{StopsLogs}
use Rattle.replay.proofs.Playing.{run_through, played_at, stuck_at, has_entry, item_here, nodes_are}
use Rattle.replay.proofs.run.play_logs.Goals as goal

pub returns-in_default-clause-ok : goal.returns-in_default-clause-ok
returns-in_default-clause-ok g c =
    run_through (logs_of (map (end_of g.N.Names.contents) c.args.ends.now))
    (ap repeats (nodes_are g.N.Names.contents c.args.ends.now) ∙ c.requires.once) c.args.world.now c.loop-events.events
    c.loop-events.world c.loop-events.readers.items c.loop-events.invariant
    (subst (λ (rs : List Reader). AllSuch (λ (r : Reader). head_of r ≡ None) rs (length rs)) c.as_slice.ensures.value
    c.in_default.ensures)

pub returns-in_err-play_next-clause-stopped : goal.returns-in_err-play_next-clause-stopped
returns-in_err-play_next-clause-stopped g c =
    let stop : StopsLogs c.in_err-play_next.field-0.0 (logs_of (map (end_of g.N.Names.contents) c.args.ends.now))
    (names_of c.args.world.now) =
    stuck_at (logs_of (map (end_of g.N.Names.contents) c.args.ends.now))
    (ap repeats (nodes_are g.N.Names.contents c.args.ends.now) ∙ c.requires.once) c.args.world.now
    c.loop-events.events c.loop-events.world c.loop-events.readers.items c.loop-events.invariant
    c.in_err-play_next.field-0.0 c.in-Some.place
    (subst
    (λ (rs : List Reader). IsLeastOther (λ (r : Reader). head_of r ≡ None) goes_first rs (length rs) c.in-Some.place)
    c.as_slice.ensures.value c.in-Some.ensures) c.index.result.now
    (item_here c.loop-events.readers.items c.as_slice.result.now c.in-Some.place c.index.result.now
    c.as_slice.ensures.value c.in-Some.ensures.within c.index.ensures) c.in_err-play_next.ensures.stopped in
    search rules

pub loop-events-preserved : goal.loop-events-preserved
loop-events-preserved g c =
    let here = item_here c.loop-events.readers.items c.as_slice.result.now c.in-Some.place c.index.result.now
    c.as_slice.ensures.value c.in-Some.ensures.within c.index.ensures in
    played_at (logs_of (map (end_of g.N.Names.contents) c.args.ends.now))
    (ap repeats (nodes_are g.N.Names.contents c.args.ends.now) ∙ c.requires.once) c.args.world.now c.loop-events.events
    c.loop-events.world c.loop-events.readers.items c.loop-events.invariant c.in-Some.place
    (subst
    (λ (rs : List Reader). IsLeastOther (λ (r : Reader). head_of r ≡ None) goes_first rs (length rs) c.in-Some.place)
    c.as_slice.ensures.value c.in-Some.ensures) c.index.result.now here c.play_next.new.world
    c.in_ok-play_next.ensures.ok c.advance.new.readers.items (c.advance.ensures c.index.result.now here)

pub advance-requires-clause-left : goal.advance-requires-clause-left
advance-requires-clause-left g c =
    has_entry (logs_of (map (end_of g.N.Names.contents) c.args.ends.now))
    (ap repeats (nodes_are g.N.Names.contents c.args.ends.now) ∙ c.requires.once) c.args.world.now c.loop-events.events
    c.loop-events.world c.loop-events.readers.items c.loop-events.invariant c.in-Some.place
    (subst
    (λ (rs : List Reader). IsLeastOther (λ (r : Reader). head_of r ≡ None) goes_first rs (length rs) c.in-Some.place)
    c.as_slice.ensures.value c.in-Some.ensures)
