use Rattle.std.proofs.Common.{ℕ, ◌≡◌, Some, length, map}
use Rattle.std.specs.List.{slice_get}
use Rattle.replay.specs.declared.merge.Reader.{Reader}
use Rattle.replay.specs.Ends.{end_of, logs_of}
use Rattle.replay.proofs.merge.open.Given as goal

abbrev pub invariant-loop-end : goal.invariant-loop-end
invariant-loop-end g l = record {
  long : length l.readers.items ≡ l.end-index;
  reads : (k : ℕ) (r : Reader) → slice_get l.readers.items k ≡ Some r
      → slice_get (logs_of (map (end_of g.N.Names.contents) l.ends)) k ≡ Some r.log.now;
  at : (k : ℕ) (r : Reader) → slice_get l.readers.items k ≡ Some r → r.at ≡ 0;
}
