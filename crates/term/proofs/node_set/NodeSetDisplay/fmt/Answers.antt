use Rattle.std.proofs.Common.{◌≡◌, ◌+◌, ◌++◌, rules, take}
use Rattle.std.proofs.Output.{has_written_append, has_written_of_eq}
use Rattle.std.specs.Fmt.{HasWritten}
use Rattle.term.specs.NodeLists.{list_of_nodes}
use Rattle.term.specs.Spelling.{node_bytes}
use Rattle.term.proofs.NodeTexts.{separator_of-more, list-more}
use Rattle.term.proofs.node_set.NodeSetDisplay.fmt.Goals as goal

pub loop-node-preserved : goal.loop-node-preserved
loop-node-preserved g c =
    let i = c.loop-node.node-index in
    let xs = c.as_slice-node-items.result.now in
    let grown : (list_of_nodes (take i xs) ++ c.loop-node.separator.now) ++ node_bytes c.node-item.result ≡ list_of_nodes (take (i + 1) xs) =
    rw (c.loop-node.invariant.1)
    (list-more node_bytes xs i c.node-item.result c.loop-node-test.true c.node-item.is) in (
      search rules,
      separator_of-more i,
      λ plain.
          let parted : HasWritten g.W.Write.write_str_gives c.args.f.now
          (list_of_nodes (take i xs) ++ c.loop-node.separator.now)
          c.write_str.new.self =
          has_written_append _ _ _ _ _ _ (c.loop-node.invariant.2 plain) (search rules) in
          has_written_of_eq _ _ _ _ _ grown (has_written_append _ _ _ _ _ _ parted (search rules)),
    )
