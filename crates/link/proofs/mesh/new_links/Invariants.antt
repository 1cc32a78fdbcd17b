use Rattle.std.proofs.Common.{◌≡◌, [], length, All}
use Rattle.link.proofs.mesh.new_links.Given as goal

abbrev pub invariant-loop : goal.invariant-loop
invariant-loop g l = record { count : length l.links.items ≡ l.counter; empty : All (λ link. link ≡ []) l.links.items }
