use Rattle.replay.specs.Ends.{end_of, logs_of}
use Rattle.replay.specs.Steps.{log_of}
use Rattle.replay.specs.Transcripts.{given_by}
use Rattle.std.proofs.Common.{map, arith}
use Rattle.replay.proofs.Parts.{none_iff}
use Rattle.replay.proofs.transcripts.is_followed.Goals as goal

pub returns-in-None : goal.returns-in-None
returns-in-None g c =
    none_iff given_by c.args.transcript.now.node c.args.transcript.now.seat c.args.transcript.now.entries.items
    (log_of c.args.transcript.now.node (logs_of (map (end_of g.N.Names.contents) c.args.ends.now))) c.is_empty.result _
    c.in-None.ensures (omega (arith, c.args.transcript.now.entries.ok.0)) c.is_empty.ensures
