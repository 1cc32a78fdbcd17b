use Rattle.std.proofs.Common.{◌≡◌, arith, subst}
use Rattle.term.specs.Spelling.{SpellsSerial}
use Rattle.term.proofs.Serials.{serial-unique}
use Rattle.term.proofs.digits.parse_creation.Goals as goal

pub returns-then-creation-eq1 : goal.returns-then-creation-eq1
returns-then-creation-eq1 c = λ n s.
    let first : SpellsSerial c.args.digits.now 1 =
    subst (SpellsSerial c.args.digits.now) c.if-creation-eq1.true c.in_ok-creation.ensures in
    let same : n ≡ 1 = serial-unique c.args.digits.now n 1 s.number first in
    omega (arith, s.later, same)
