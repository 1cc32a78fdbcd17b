use Rattle.std.proofs.Common.{map, sym, arith}
use Rattle.std.proofs.lemmas.List.{length-map}
use Rattle.replay.specs.Transcripts.{given_by}
use Rattle.replay.proofs.Parts.{follows_iff}
use Rattle.replay.proofs.transcripts.follows.Goals as goal

pub returns : goal.returns
returns c =
    follows_iff c.args.log.now.node c.args.transcript.now.seat (map given_by c.args.transcript.now.entries.items)
    c.args.log.now.entries c.loop-at.found c.loop-at.number c.loop-at.at c.len.result c.len-at-end.result
    c.loop-at.invariant.left (sym c.len-at-end.ensures) (omega (arith, c.loop-at-test.false))
    (omega (arith, c.loop-at.invariant.within, c.len.ensures))
    (omega (
      arith,
      c.len.ensures,
      c.args.transcript.now.entries.ok.0,
      length-map c.args.transcript.now.entries.items given_by,
    ))
