use Rattle.std.proofs.Common.{refl, subst, take_all, ◌∙◌}
use Rattle.registry_model.specs.Table.{Table, Put}
use Rattle.protocol_model.specs.Turn.{with_replica}
use Rattle.node_core.specs.Joining.{put_names}
use Rattle.node_core.specs.Steps.{Makes}
use Rattle.node_events.specs.Made.{nothing}
use Rattle.node_core.proofs.Joining.{writes_next}
use Rattle.node_core.proofs.node.NodeCore.put_names.Goals as goal

pub returns-in_err-write_change-clause-kept : goal.returns-in_err-write_change-clause-kept
returns-in_err-write_change-clause-kept g c =
    let before = c.loop-pair.invariant.makes nothing in let after = c.write_change.ensures.kept in
    record {
      name = after.name ∙ before.name;
      world = after.world ∙ before.world;
      queue = after.queue ∙ c.loop-pair.invariant.queue;
    }

pub loop-pair-preserved : goal.loop-pair-preserved
loop-pair-preserved g c = record {
  queue = c.in_ok-write_change.ensures.kept.queue ∙ c.loop-pair.invariant.queue;
  makes = λ made. writes_next Put c.args.self.now c.loop-pair.self c.write_change.new.self made c.args.pairs.now c.loop-pair.pair-index
      c.pair-item.result _ c.copy.result c.loop-pair-test.true c.pair-item.is refl c.copy.ensures
      (c.loop-pair.invariant.makes made)
      (c.in_ok-write_change.ensures.turn made);
}

pub returns-clause-turn : goal.returns-clause-turn
returns-clause-turn g c = λ made.
    subst (λ (ps : Table). Makes (λ n a. with_replica (put_names ps)) c.args.self.now made c.loop-pair.self made)
    (take_all c.loop-pair.pair-index c.args.pairs.now c.loop-pair-test.false) (c.loop-pair.invariant.makes made)

pub returns-clause-kept : goal.returns-clause-kept
returns-clause-kept g c = let all = c.loop-pair.invariant.makes nothing in
    record { name = all.name; world = all.world; queue = c.loop-pair.invariant.queue }
