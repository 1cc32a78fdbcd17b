use Rattle.std.proofs.Common.{◌≡◌, true, false, get_or, sym}
use Rattle.std.specs.Int.{is_in_range}
use Rattle.term.proofs.Serials.{is_in_range-low}
use Rattle.node_port.proofs.Digits.{is_nought, number-read}
use Rattle.node_port.proofs.numbers.parse_positive.Goals as goal

pub returns-then-begins_number : goal.returns-then-begins_number
returns-then-begins_number c =
    let begins : is_in_range 49 57 (get_or c.args.digits.now 0 0) ≡ true =
    rw (← c.as_bytes.ensures.value) (sym c.if-begins_number.ensures) in
    rw c.ok.ensures.value
    (number-read c.args.digits.now c.parse.result c.parse.ensures.value.0 (is_in_range-low _ begins))

pub returns-else-begins_number : goal.returns-else-begins_number
returns-else-begins_number c = λ n s.
    let begins : is_in_range 49 57 (get_or c.args.digits.now 0 0) ≡ false =
    rw (← c.as_bytes.ensures.value) (sym c.if-begins_number.ensures) in
    is_nought c.args.digits.now n s begins
