use Rattle.std.proofs.Common.{List, refl, subst, take_all, ◌∙◌}
use Rattle.registry_model.specs.Process.{Text}
use Rattle.registry_model.specs.Table.{Remove}
use Rattle.protocol_model.specs.Turn.{with_replica}
use Rattle.node_core.specs.Joining.{remove_names}
use Rattle.node_core.specs.Steps.{Makes}
use Rattle.node_events.specs.Made.{nothing}
use Rattle.node_core.proofs.Joining.{writes_next}
use Rattle.node_core.proofs.node.NodeCore.remove_names.Goals as goal

pub returns-in_err-write_change-clause-kept : goal.returns-in_err-write_change-clause-kept
returns-in_err-write_change-clause-kept g c =
    let before = c.loop-name.invariant.makes nothing in let after = c.write_change.ensures.kept in
    record {
      name = after.name ∙ before.name;
      world = after.world ∙ before.world;
      queue = after.queue ∙ c.loop-name.invariant.queue;
    }

pub loop-name-preserved : goal.loop-name-preserved
loop-name-preserved g c = record {
  queue = c.in_ok-write_change.ensures.kept.queue ∙ c.loop-name.invariant.queue;
  makes = λ made. writes_next Remove c.args.self.now c.loop-name.self c.write_change.new.self made c.args.names.now c.loop-name.name-index
      c.name-item.result _ c.copy.result c.loop-name-test.true c.name-item.is refl c.copy.ensures
      (c.loop-name.invariant.makes made)
      (c.in_ok-write_change.ensures.turn made);
}

pub returns-clause-turn : goal.returns-clause-turn
returns-clause-turn g c = λ made.
    subst (λ (ps : List Text). Makes (λ n a. with_replica (remove_names ps)) c.args.self.now made c.loop-name.self made)
    (take_all c.loop-name.name-index c.args.names.now c.loop-name-test.false) (c.loop-name.invariant.makes made)

pub returns-clause-kept : goal.returns-clause-kept
returns-clause-kept g c = let all = c.loop-name.invariant.makes nothing in
    record { name = all.name; world = all.world; queue = c.loop-name.invariant.queue }
