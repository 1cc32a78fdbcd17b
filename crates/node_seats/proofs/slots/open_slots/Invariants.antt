use Rattle.std.proofs.Common.{◌≡◌, All}
use Rattle.node_seats.proofs.slots.open_slots.Given as goal

abbrev pub invariant-loop : goal.invariant-loop
invariant-loop l = All (λ way. way.book ≡ l.fn.origin.book) l.theirs.items × All (λ way. way.book ≡ l.fn.origin.book) l.ours.items
