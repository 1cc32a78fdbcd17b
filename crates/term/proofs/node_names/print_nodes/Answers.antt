use Rattle.std.proofs.Common.{ℕ, List, rules, ◌∙◌, subst}
use Rattle.std.proofs.lemmas.List.{take_all}
use Rattle.std.specs.List.{All}
use Rattle.term.specs.Spelling.{SpellsNodeName, name_bytes}
use Rattle.term.proofs.NodeTexts.{IsName, separator_of-more, list-more, names-more, list_of-spells}
use Rattle.term.proofs.node_names.print_nodes.Goals as goal

pub loop-name-preserved : goal.loop-name-preserved
loop-name-preserved g c = (
  search rules,
  separator_of-more c.loop-name.name-index,
  rw (
    c.in_ok-push_str-2.ensures.bytes,
    c.in_ok-push_str.ensures.bytes,
    c.as_str.ensures.bytes,
    c.loop-name.invariant.1,
    c.loop-name.invariant.2,
  )
      (list-more name_bytes _ _ c.name-item.result c.loop-name-test.true c.name-item.is),
  names-more _ _ c.name-item.result c.loop-name-test.true c.name-item.is c.loop-name.invariant.3
      (subst (λ (bytes : List ℕ). SpellsNodeName bytes c.name-item.result) c.as_str.ensures.bytes c.as_str.ensures.spelled),
)

pub returns-clause-spelled : goal.returns-clause-spelled
returns-clause-spelled g c =
    let whole = take_all c.loop-name.name-index c.as_slice-name-items.result.now c.loop-name-test.false
    ∙ c.as_slice-name-items.ensures.names in
    rw (c.loop-name.invariant.2, whole)
    (list_of-spells c.args.names.now c.requires c.as_slice-name-items.ensures.set
    (subst (All IsName) whole c.loop-name.invariant.3))
