use Rattle.std.proofs.Common.{◌≡◌, true, false, get_or, sym}
use Rattle.std.specs.Cmp.Lexicographic.{same_text, other_text}
use Rattle.std.specs.Int.{is_in_range}
use Rattle.term.proofs.Serials.{is_in_range-low}
use Rattle.command_lines.proofs.Counts.{count_zero, count_read, count_none}
use Rattle.command_lines.proofs.lock_texts.parse_count.Goals as goal

pub returns-then-eq : goal.returns-then-eq
returns-then-eq c = count_zero c.args.digits.now (same_text c.args.digits.now _ c.if-eq.ensures)

pub returns-then-begins_count : goal.returns-then-begins_count
returns-then-begins_count c =
    let begins : is_in_range 49 57 (get_or c.args.digits.now 0 0) ≡ true =
    rw (← c.as_bytes.ensures.value) (sym c.if-begins_count.ensures) in
    rw c.ok.ensures.value
    (count_read c.args.digits.now c.parse.result c.parse.ensures.value.0 (is_in_range-low _ begins))

pub returns-else-begins_count : goal.returns-else-begins_count
returns-else-begins_count c =
    let begins : is_in_range 49 57 (get_or c.args.digits.now 0 0) ≡ false =
    rw (← c.as_bytes.ensures.value) (sym c.if-begins_count.ensures) in
    count_none c.args.digits.now begins (other_text c.args.digits.now _ c.if-eq.ensures)
