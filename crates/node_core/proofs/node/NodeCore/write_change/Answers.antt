use Rattle.std.proofs.lemmas.Result.{on_ok_weaker, on_err_weaker}
use Rattle.node_core.proofs.Writing.{in_any_case, unwritten, written}
use Rattle.node_core.proofs.node.NodeCore.write_change.Goals as goal

pub returns-in_err-note_change-clause-unchanged : goal.returns-in_err-note_change-clause-unchanged
returns-in_err-note_change-clause-unchanged g c =
    in_any_case c.from_residual.result
    (unwritten _ c.args.self.now _ c.note_change.new.watch c.self.view_is (λ j. g.N.Names.contents c.self.inside.table)
    c.note_change.ensures.watch)

pub returns-clause-turn : goal.returns-clause-turn
returns-clause-turn g c = λ made.
    on_ok_weaker c.write.result
    (λ ok. written _ c.args.self.now made _ c.note_change.new.watch _ _ c.self.view_is ok c.unless_told-change.ensures
    c.in_ok-note_change.ensures.watch)
    c.write.ensures.ok

pub returns-clause-unchanged : goal.returns-clause-unchanged
returns-clause-unchanged g c =
    on_err_weaker c.write.result
    (λ err. unwritten _ c.args.self.now _ c.note_change.new.watch c.self.view_is err c.in_ok-note_change.ensures.watch)
    c.write.ensures.err
