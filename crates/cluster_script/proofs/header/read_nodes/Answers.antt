use Rattle.std.proofs.Common.{◌+◌, ◌∙◌, ℕ, Bool, List, Vec, Global, ap, map, take, drop, ◌∷◌, ◌++◌, []}
use Rattle.std.specs.Prelude.{if◌then◌else◌}
use Rattle.std.proofs.lemmas.Result.{err_from_is_err_and}
use Rattle.term.specs.declared.node_name.NodeName.{NodeName}
use Rattle.cluster_script.proofs.Headers.{now, texts-parts, AllSpell-more, ReadsNodes-bad}
use Rattle.cluster_script.proofs.header.read_nodes.Goals as goal

abbrev items : Vec NodeName Global → List ℕ
items nodes = nodes.items

pub returns-in_err-parse_node_name : goal.returns-in_err-parse_node_name
returns-in_err-parse_node_name c =
    let i = c.loop-text.text-index in
    let p = err_from_is_err_and c.from_residual.result c.from_residual.ensures.1 in
    ReadsNodes-bad items (map now c.args.texts.now) c.from_residual.result p.0 c.in_err-parse_node_name.field-0.0 p.1 p.2 (
      map now (take i c.args.texts.now),
      c.loop-text.nodes.items,
      _,
      map now (drop (i + 1) c.args.texts.now),
      texts-parts c.args.texts.now i _ c.loop-text-test.true,
      c.loop-text.invariant,
      c.in_err-parse_node_name.ensures,
    )

pub loop-text-preserved : goal.loop-text-preserved
loop-text-preserved c =
    AllSpell-more c.args.texts.now c.loop-text.text-index _ c.loop-text.nodes.items c.push.new.self.items
    c.in_ok-parse_node_name.field-0 c.loop-text-test.true c.loop-text.invariant c.in_ok-parse_node_name.ensures
    (c.push.ensures.items ∙ ap (λ (b : Bool). if b then c.loop-text.nodes.items ++ c.in_ok-parse_node_name.field-0 ∷ []
    else c.loop-text.nodes.items) c.if-is_err.ensures.negation)
