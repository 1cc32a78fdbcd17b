use Rattle.std.proofs.lemmas.Result.{err_from_is_err_and}
use Rattle.text_lines.proofs.Written.{AppendsPart-none}
use Rattle.node_port.specs.Ran.{Founds, first_text}
use Rattle.node_port.proofs.Opening.{founder_written, founder_partly, founder_stops}
use Rattle.node_port.proofs.running.found.Goals as goal

pub returns-in-Ok : goal.returns-in-Ok
returns-in-Ok g c =
    founder_written c.args.node.now c.args.world.now c.in_ok-port.port c.write.new.self (g.W.Write.contents c.args.writer.now)
    (g.W.Write.contents c.write.new.writer) c.in_ok-port.ensures c.write.ensures.node c.write.ensures.end c.in-Ok.ensures.empty
    c.in-Ok.ensures.written

pub returns-in-Err : goal.returns-in-Err
returns-in-Err g c =
    founder_partly c.args.node.now c.args.world.now c.in_ok-port.port c.write.new.self (g.W.Write.contents c.args.writer.now)
    (g.W.Write.contents c.write.new.writer) c.in_ok-port.ensures c.in-Err.ensures.written

pub returns-in_err-port : goal.returns-in_err-port
returns-in_err-port g c =
    let p = err_from_is_err_and c.from_residual.result c.from_residual.ensures.1 in
    founder_stops c.args.node.now c.args.world.now (g.W.Write.contents c.args.writer.now) (g.W.Write.contents c.args.writer.now)
    c.from_residual.result p.0 p.1 (AppendsPart-none (g.W.Write.contents c.args.writer.now) (first_text Founds c.args.node.now))
