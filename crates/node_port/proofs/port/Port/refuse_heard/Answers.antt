use Rattle.std.proofs.Common.{IfOk, refl, sym, subst}
use Rattle.wire_end.specs.declared.faults.HearFault.{HearFault}
use Rattle.node_port.specs.Shown.{Gaps, Strays, Misses}
use Rattle.node_port.specs.Working.{RefusesFor}
use Rattle.node_port.specs.declared.port.Standing.{Standing}
use Rattle.node_port.specs.declared.port.Standing.TheVariants.{Runs, Broken}
use Rattle.node_port.proofs.Growing.{grows_answer}
use Rattle.node_port.proofs.port.Port.refuse_heard.Goals as goal

pub returns-in_ok-push_gap-in-Gap-clause-refused : goal.returns-in_ok-push_gap-in-Gap-clause-refused
returns-in_ok-push_gap-in-Gap-clause-refused c =
    let a = c.args.self.now in
    let b = record a { output = record a.output { answers = c.push_gap.new.text } } in
    subst (λ (f : HearFault). RefusesFor f c.args.from.now c.args.number Broken a b) (sym c.in-Gap.is)
    (refl, grows_answer (Gaps c.args.from.now c.args.number) a.output b.output refl c.in_ok-push_gap-in-Gap.ensures)

pub returns-in_ok-push_no_such_node-in-NoSuchNode-clause-refused : goal.returns-in_ok-push_no_such_node-in-NoSuchNode-clause-refused
returns-in_ok-push_no_such_node-in-NoSuchNode-clause-refused c =
    let a = c.args.self.now in
    let b = record a { output = record a.output { answers = c.push_no_such_node.new.text } } in
    subst (λ (f : HearFault). RefusesFor f c.args.from.now c.args.number Runs a b) (sym c.in-NoSuchNode.is)
    (refl, grows_answer Misses a.output b.output refl c.in_ok-push_no_such_node-in-NoSuchNode.ensures)

pub returns-in-Part-clause-refused : goal.returns-in-Part-clause-refused
returns-in-Part-clause-refused c =
    let from = c.args.from.now in
    let n = c.args.number in
    let r = c.refuse_part.result in
    subst (λ (f : HearFault). IfOk r (λ (s : Standing). RefusesFor f from n s c.args.self.now c.refuse_part.new.self)) (sym c.in-Part.is)
    (c.refuse_part.ensures.refused from n)

pub returns-in_ok-push_stray-in-Stray-clause-refused : goal.returns-in_ok-push_stray-in-Stray-clause-refused
returns-in_ok-push_stray-in-Stray-clause-refused c =
    let a = c.args.self.now in
    let b = record a { output = record a.output { answers = c.push_stray.new.text } } in
    subst (λ (f : HearFault). RefusesFor f c.args.from.now c.args.number Runs a b) (sym c.in-Stray.is)
    (refl, grows_answer Strays a.output b.output refl c.in_ok-push_stray-in-Stray.ensures)
