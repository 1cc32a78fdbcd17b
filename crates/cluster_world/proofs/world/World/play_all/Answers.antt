use Rattle.std.proofs.Common.{◌∙◌, Some, sym, ap, arith}
use Rattle.std.proofs.lemmas.Option.{slice_get-get_or}
use Rattle.world_events.specs.declared.events.WorldEvent.{WorldEvent}
use Rattle.cluster_world.proofs.Running.{so_far_more, ran_all, ran_stopped}
use Rattle.cluster_world.proofs.world.World.play_all.Goals as goal

pub loop-played-preserved : goal.loop-played-preserved
loop-played-preserved g c =
    so_far_more c.args.events.now c.args.self.now c.loop-played.self c.play_into.new.self c.loop-played.played
    c.loop-played.answers.items c.play_into.new.answers.items
    c.index-events-played.result c.loop-played.invariant
    (slice_get-get_or c.args.events.now c.loop-played.played c.index-events-played.result c.loop-played-test.true
    ∙ ap (λ (e : WorldEvent). Some e) (sym c.index-events-played.is))
    c.in_default.ensures.ok

pub returns-in-Err : goal.returns-in-Err
returns-in-Err g c =
    ran_stopped c.args.events.now c.args.self.now c.loop-played.self c.play_into.new.self c.loop-played.played
    c.loop-played.answers.items c.play_into.new.answers.items
    c.index-events-played.result c.in-Err.refusal c.loop-played.invariant c.loop-played-test.true
    (slice_get-get_or c.args.events.now c.loop-played.played c.index-events-played.result c.loop-played-test.true
    ∙ ap (λ (e : WorldEvent). Some e) (sym c.index-events-played.is))
    c.in-Err.ensures.refused c.play_into.ensures.kept c.in-Err.ensures.as_before c.in-Err.ensures.unanswered

pub returns : goal.returns
returns g c =
    ran_all c.args.events.now c.args.self.now c.loop-played.self c.loop-played.played c.loop-played.answers.items
    c.loop-played.invariant
    (omega (arith, c.loop-played-test.false, c.loop-played.auto.played-end))
