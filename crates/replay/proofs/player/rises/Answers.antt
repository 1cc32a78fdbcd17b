use Rattle.std.proofs.Common.{arith}
use Rattle.node_log.specs.Logs.{entry_of}
use Rattle.replay.proofs.Merging.{rises_by}
use Rattle.replay.proofs.player.rises.Goals as goal

pub returns-in-Some-get : goal.returns-in-Some-get
returns-in-Some-get c =
    rises_by c.args.reader.now.log.now.entries c.args.reader.now.at c.in-Some.before
    (entry_of c.args.reader.now.log.now.node c.in-Some-get.before)
    (entry_of c.args.reader.now.log.now.node c.args.entry.now) (omega (arith, c.in-Some.ensures)) c.in-Some-get.ensures
    c.requires
