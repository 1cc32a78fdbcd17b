use Rattle.std.proofs.Common.{◌∙◌, ap, sym, codes, option_map, List, ℕ, Bor}
use Rattle.clap.specs.Words.{first_of, found_of, rows_of}
use Rattle.clap.proofs.CallerLemmas.{some_of_text}
use Rattle.clap.proofs.WalkLemmas.{first_value-rows}
use Rattle.arguments.specs.Reading.{RefusesNode, TellsNode, Values}
use Rattle.arguments.proofs.Counted.{handed_on}
use Rattle.arguments.proofs.reading.read_node.Goals as goal

pub unwrap-node-requires : goal.unwrap-node-requires
unwrap-node-requires c =
    some_of_text _ c.get_str.result _ (c.get_str.ensures ∙ first_value-rows (found_of c.args.matches.now) (codes "node")) c.requires.node

pub unwrap-nodes-requires : goal.unwrap-nodes-requires
unwrap-nodes-requires c =
    some_of_text _ c.get_str-2.result _ (c.get_str-2.ensures ∙ first_value-rows (found_of c.args.matches.now) (codes "nodes")) c.requires.nodes

pub returns-in_err-node : goal.returns-in_err-node
returns-in_err-node c =
    let f = found_of c.args.matches.now in
    let values : Values = λ id. first_of id (rows_of f) in
    handed_on (TellsNode values) (RefusesNode values) c.from_residual.result c.in_err-node.field-0.0 c.from_residual.ensures.1
    (record {
      text = c.unwrap-node.result.now;
      list = c.unwrap-nodes.result.now;
      node = sym (c.get_str.ensures ∙ first_value-rows f (codes "node")) ∙ ap (option_map (λ (s : Bor (List ℕ)). s.now)) c.unwrap-node.ensures;
      nodes = sym (c.get_str-2.ensures ∙ first_value-rows f (codes "nodes")) ∙ ap (option_map (λ (s : Bor (List ℕ)). s.now)) c.unwrap-nodes.ensures;
      refused = c.in_err-node.ensures;
    })

pub returns : goal.returns
returns c =
    let f = found_of c.args.matches.now in
    record {
      text = c.unwrap-node.result.now;
      list = c.unwrap-nodes.result.now;
      node = sym (c.get_str.ensures ∙ first_value-rows f (codes "node")) ∙ ap (option_map (λ (s : Bor (List ℕ)). s.now)) c.unwrap-node.ensures;
      nodes = sym (c.get_str-2.ensures ∙ first_value-rows f (codes "nodes")) ∙ ap (option_map (λ (s : Bor (List ℕ)). s.now)) c.unwrap-nodes.ensures;
      placed = c.in_ok-node.ensures;
    }
