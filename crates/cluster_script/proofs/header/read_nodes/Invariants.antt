use Rattle.std.proofs.Common.{map, take}
use Rattle.cluster_script.specs.Script.{AllSpell}
use Rattle.cluster_script.proofs.Headers.{now}
use Rattle.cluster_script.proofs.header.read_nodes.Given as goal

-- the texts so far spell these nodes
abbrev pub invariant-loop-text : goal.invariant-loop-text
invariant-loop-text l = AllSpell (map now (take l.text-index l.texts)) l.nodes.items
