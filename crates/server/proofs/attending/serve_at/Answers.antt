use Rattle.std.proofs.Common.{◌∙◌}
use Rattle.server.proofs.Leaving.{talked}
use Rattle.server.proofs.attending.serve_at.Goals as goal

pub returns : goal.returns
returns g c = record {
  last = c.serve_from.new.seat;
  talks = talked _ _ _ _ c.args.seat c.serve_from.new.seat c.serve_from.result c.serve_from.ensures.served;
  own = c.serve_from.ensures.own;
  kept = (
    record { seat = c.into_transcript.ensures.seat; node = c.into_transcript.ensures.node; entries = c.into_transcript.ensures.entries },
    c.copy.ensures ∙ c.node.ensures,
    c.token.ensures.book,
    c.token.ensures.log,
  );
}
