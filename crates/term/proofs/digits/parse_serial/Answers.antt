use Rattle.std.proofs.Common.{◌≡◌, true, false, get_or, sym}
use Rattle.std.specs.Int.{is_in_range}
use Rattle.term.proofs.Serials.{is_in_range-low, is_in_range-serial, serial-read}
use Rattle.term.proofs.digits.parse_serial.Goals as goal

pub returns-then-begins_serial : goal.returns-then-begins_serial
returns-then-begins_serial c =
    let begins : is_in_range 49 57 (get_or c.args.digits.now 0 0) ≡ true =
    rw (← c.as_bytes.ensures.value) (sym c.if-begins_serial.ensures) in
    rw c.ok.ensures.value
    (serial-read c.args.digits.now c.parse.result c.parse.ensures.value.0 (is_in_range-low _ begins))

pub returns-else-begins_serial : goal.returns-else-begins_serial
returns-else-begins_serial c = λ n s.
    let begins : is_in_range 49 57 (get_or c.args.digits.now 0 0) ≡ false =
    rw (← c.as_bytes.ensures.value) (sym c.if-begins_serial.ensures) in
    cc (begins, is_in_range-serial c.args.digits.now n s)
