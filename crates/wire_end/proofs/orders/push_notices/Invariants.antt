use Rattle.std.proofs.Common.{◌≡◌, ◌++◌, string_bytes, take}
use Rattle.std.specs.Prelude.{flat_map}
use Rattle.wire_end.specs.Orders.{notice_line}
use Rattle.wire_end.proofs.orders.push_notices.Given as goal

-- the text has the lines of the notices so far behind it
abbrev pub invariant-loop-noted : goal.invariant-loop-noted
invariant-loop-noted l =
    string_bytes l.text ≡ string_bytes l.fn.text ++ flat_map (notice_line l.node) (take l.noted-index l.notices)
