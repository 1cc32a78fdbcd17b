use Rattle.std.proofs.Common.{sym}
use Rattle.cluster_main.proofs.Refused.{nodes_refused, option_refused}
use Rattle.cluster_main.proofs.refusing.refuse.Goals as goal

pub returns-in-Options : goal.returns-in-Options
returns-in-Options g c =
    let d = option_refused c.in-Options.fault (g.W.Write.contents c.args.writer.now) (g.E.Write.contents c.args.errors.now)
    (g.E.Write.contents c.write_line.new.writer) c.write_line.result c.text.result.now c.text.ensures c.write_line.ensures in
    rw c.in-Options.is d

pub returns-in-Some : goal.returns-in-Some
returns-in-Some g c =
    nodes_refused c.args.fault.now (g.W.Write.contents c.args.writer.now) (g.E.Write.contents c.args.errors.now)
    (g.E.Write.contents c.write_line-in-Some.new.writer) c.write_line-in-Some.result c.in-Some.word.now (sym c.in-Some.ensures) c.write_line-in-Some.ensures
