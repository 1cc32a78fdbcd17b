use Rattle.std.proofs.Common.{◌≡◌, ◌++◌}
use Rattle.server.specs.Served.{transcripts_in, witnesses_in}
use Rattle.server.proofs.served.legacy_of.Given as goal

abbrev pub invariant-loop-left : goal.invariant-loop-left
invariant-loop-left l =
    (l.legacy.transcripts.items ++ transcripts_in l.left-iterator.rest.items ≡ transcripts_in l.fn.lefts.items)
    × (l.legacy.witnesses.items ++ witnesses_in l.left-iterator.rest.items ≡ witnesses_in l.fn.lefts.items)
