use Rattle.std.proofs.Common.{◌≡◌, ◌≤◌, true, take}
use Rattle.registry_model.specs.Table.{is_rising}
use Rattle.wire_end.proofs.saying.rise.Given as goal

-- the names so far rise
abbrev pub invariant-loop-place : goal.invariant-loop-place
invariant-loop-place l = record {
  first : 1 ≤ l.place;
  rise : is_rising (take l.place l.pairs) ≡ true;
}
