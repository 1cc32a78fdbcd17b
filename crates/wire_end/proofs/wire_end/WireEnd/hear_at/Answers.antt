use Rattle.std.proofs.Common.{rules, arith, ◌≡◌, Ok, subst}
use Rattle.std.proofs.lemmas.Grind.{common_steps}
use Rattle.wire_end.specs.declared.wire.Wire.{Wire}
use Rattle.wire_end.specs.Links.{HearsPart}
use Rattle.wire_end.specs.Wirings.{wire_at}
use Rattle.wire_end.proofs.wire_end.WireEnd.hear_at.Goals as goal

pub returns-clause-ok : goal.returns-clause-ok
returns-clause-ok c =
    let value = c.index_mut.ensures.value in
    let view = c.self.view_is in
    let same : c.index_mut.result.now ≡ wire_at c.args.place c.args.self.now.wires = grind (arith, common_steps) in
    let heard : HearsPart c.args.line.number c.args.line.part (wire_at c.args.place c.args.self.now.wires) c.hear.new.self (Ok c.in_ok-letter.letter)
    = subst (λ (w : Wire). HearsPart c.args.line.number c.args.line.part w c.hear.new.self (Ok c.in_ok-letter.letter)) same c.in_ok-letter.ensures in
    (c.hear.new.self, heard, search rules)
