use Rattle.std.proofs.Common.{ℕ, true, ◌≡◌, sym, subst, ◌∙◌, arith}
use Rattle.term.specs.Nodes.{IsFirst, creation_of}
use Rattle.term.specs.NodeSets.{set_of}
use Rattle.node_port.proofs.Beginnings.{first_named}
use Rattle.node_port.proofs.Opening.{founds_by, founds_empty, behind_by, plainly_by}
use Rattle.node_port.proofs.running.open_by.Goals as goal

pub found-requires-clause-known : goal.found-requires-clause-known
found-requires-clause-known g c =
    let node = c.args.node.now in
    let one : creation_of node ≡ 1 = c.founds.ensures.first c.if-founds.true in
    let first : IsFirst node = omega (arith, one) in
    subst (λ (n : ℕ). set_of c.args.names.now n ≡ true) (first_named node first) c.requires.known

pub returns-then-founds-clause-opened : goal.returns-then-founds-clause-opened
returns-then-founds-clause-opened g c = λ bytes k.
    founds_by c.args.node.now c.args.names.now (g.W.Write.contents c.args.writer.now) (g.W.Write.contents c.found.new.writer) c.found.result bytes
    (sym (c.founds.ensures.says bytes k) ∙ c.if-founds.true) c.found.ensures

pub returns-then-founds-clause-empty : goal.returns-then-founds-clause-empty
returns-then-founds-clause-empty g c =
    founds_empty c.args.node.now c.args.names.now (g.W.Write.contents c.args.writer.now) (g.W.Write.contents c.found.new.writer) c.found.result
    c.found.ensures

pub returns-in-Some-clause-opened : goal.returns-in-Some-clause-opened
returns-in-Some-clause-opened g c = λ bytes k.
    behind_by c.args.node.now c.args.names.now bytes _ (g.W.Write.contents c.args.writer.now) c.open_behind.result
    (c.in-Some.ensures.begins bytes k) c.open_behind.ensures.opened

pub returns-in-None-clause-opened : goal.returns-in-None-clause-opened
returns-in-None-clause-opened g c = λ bytes k.
    plainly_by c.args.node.now c.args.names.now (g.W.Write.contents c.args.writer.now) (g.W.Write.contents c.open_plainly.new.writer)
    c.open_plainly.result bytes (sym (c.founds.ensures.says bytes k) ∙ c.if-founds.false) (c.in-None.ensures.begins bytes k)
    (c.open_plainly.ensures.opened bytes k)
