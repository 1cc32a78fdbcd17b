use Rattle.std.proofs.Common.{inl, inr}
use Rattle.std.proofs.KnownBytes.{Keeps-refl}
use Rattle.std.proofs.lemmas.Result.{err_from_is_err_and}
use Rattle.node_port.specs.Working.{stand_of}
use Rattle.node_port.proofs.Playing.{prints, prints_part, line_stops}
use Rattle.node_port.proofs.running.play_line.Goals as goal

pub returns-clause-played : goal.returns-clause-played
returns-clause-played g c = λ bytes k.
    let P = c.in_ok-standing.ensures bytes k in
    prints bytes P.0 c.in_ok-standing.standing c.args.port.now c.do_line.new.port c.write.new.self P.1 c.requires P.2
    (g.W.Write.contents c.args.writer.now) (g.W.Write.contents c.write.new.writer) c.write.ensures.node c.write.ensures.end
    c.in_ok-write.ensures.written

pub returns-in_err-write-clause-played : goal.returns-in_err-write-clause-played
returns-in_err-write-clause-played g c = λ bytes k.
    let P = c.in_ok-standing.ensures bytes k in
    let p = err_from_is_err_and c.from_residual-in_err-write.result c.from_residual-in_err-write.ensures.1 in
    line_stops bytes (stand_of c.args.port.now) (stand_of c.write.new.self) (g.W.Write.contents c.args.writer.now)
    (g.W.Write.contents c.write.new.writer) c.from_residual-in_err-write.result p.0 p.1
    (inl (prints_part bytes P.0 c.in_ok-standing.standing c.args.port.now c.do_line.new.port c.write.new.self P.1 c.requires P.2
    (g.W.Write.contents c.args.writer.now) (g.W.Write.contents c.write.new.writer) c.write.ensures.node c.write.ensures.end
    c.in_err-write.ensures.written))

pub returns-in_err-standing-clause-played : goal.returns-in_err-standing-clause-played
returns-in_err-standing-clause-played g c = λ bytes k.
    let p = err_from_is_err_and c.from_residual.result c.from_residual.ensures.1 in
    line_stops bytes (stand_of c.args.port.now) (stand_of c.do_line.new.port) (g.W.Write.contents c.args.writer.now)
    (g.W.Write.contents c.args.writer.now) c.from_residual.result p.0 p.1 (inr (Keeps-refl (g.W.Write.contents c.args.writer.now)))
