use Rattle.std.proofs.Common.{ℕ, ◌≡◌, Some, List, ap, sym, ◌∙◌}
use Rattle.std.specs.Option.{option_map}
use Rattle.std.proofs.lemmas.Result.{on_ok_weaker}
use Rattle.registry_model.specs.Table.{Pair, Table}
use Rattle.registry_model.specs.Settlement.{settle}
use Rattle.protocol_model.specs.Node.{Op as AnyOp}
use Rattle.transaction.specs.declared.op.Op.{Op}
use Rattle.transaction.specs.Ops.{op_of}
use Rattle.node_core.specs.CoreState.{CoreState}
use Rattle.node_core.specs.Joining.{IsAdmitting}
use Rattle.node_core.proofs.Joining.{decides_admission}
use Rattle.node_core.proofs.node.NodeCore.held.Goals as goal

admitting_is : (h0 h : CoreState) (op : Op) (i j : ℕ) (pairs : Table) → h0 ≡ h → h0.registrar.current ≡ Some op
    → op_of op ≡ AnyOp.Admission i pairs → j ≡ i → IsAdmitting h j pairs
admitting_is h0 h op i j pairs same current is joiner =
    ap (λ (x : CoreState). option_map op_of x.registrar.current) (sym same) ∙ ap (option_map op_of) current ∙ ap Some is
    ∙ ap (λ (d : ℕ). Some (AnyOp.Admission d pairs)) (sym joiner)

pub returns-in_ok-settled-in-Some-Admission-clause-turn : goal.returns-in_ok-settled-in-Some-Admission-clause-turn
returns-in_ok-settled-in-Some-Admission-clause-turn g c =
    let admitting = admitting_is _ c.args.self.now c.in-Some-Admission.field-0.now _ c.copy-joiner.result
    c.in-Some-Admission.pairs.items c.self.view_is (sym c.in-Some-Admission.ensures)
    (ap op_of c.in-Some-Admission.field-0-is) c.copy-joiner.ensures in
    on_ok_weaker c.decide_admission.result
    (decides_admission c.args.self.now c.decide_admission.new.self c.args.turn.now c.decide_admission.new.turn
    c.args.asked c.copy-joiner.result c.in-Some-Admission.pairs.items admitting)
    (c.decide_admission.ensures.turn c.in-Some-Admission.pairs.items admitting
    (c.in_ok-settled-in-Some-Admission.ensures
    ∙ ap (λ (ps : List Pair). settle (g.N.Names.contents c.self.inside.table) ps) c.as_slice.ensures.value
    ∙ ap (λ (h : CoreState). settle h.table c.in-Some-Admission.pairs.items) c.self.view_is))
