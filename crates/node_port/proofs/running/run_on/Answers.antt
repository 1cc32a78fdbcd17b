use Rattle.std.proofs.lemmas.Result.{err_from_is_err_and}
use Rattle.std.specs.Io.Buffered.{reader_remaining}
use Rattle.node_port.specs.Working.{stand_of}
use Rattle.node_port.proofs.Opening.{goes_kept, goes_unheard, stops_so, behind_stops}
use Rattle.node_port.proofs.running.run_on.Goals as goal

pub returns : goal.returns
returns g c =
    goes_kept c.args.standing c.in_ok-in_order.in_order (stand_of c.args.port.now) (stand_of c.go_on.new.port)
    (reader_remaining g.R.Read.remaining c.args.reader.now) (reader_remaining g.R.Read.remaining c.go_on.new.reader)
    (g.W.Write.contents c.args.writer.now) (g.W.Write.contents c.go_on.new.writer) (g.W.Write.contents c.hand_on.new.writer)
    c.in_ok-in_order.ensures c.hand_on.ensures.kept

pub returns-in_err-in_order : goal.returns-in_err-in_order
returns-in_err-in_order g c =
    let input = reader_remaining g.R.Read.remaining c.args.reader.now in
    let rest = reader_remaining g.R.Read.remaining c.go_on.new.reader in
    let old = g.W.Write.contents c.args.writer.now in
    let new = g.W.Write.contents c.go_on.new.writer in
    let a = stand_of c.args.port.now in
    let p = err_from_is_err_and c.from_residual.result c.from_residual.ensures.1 in
    behind_stops c.args.standing a (stand_of c.go_on.new.port) input rest old new c.from_residual.result p.0 p.1
    (stops_so c.args.standing a input rest old new c.in_err-in_order.ensures)

pub returns-in_err-hand_on : goal.returns-in_err-hand_on
returns-in_err-hand_on g c =
    let input = reader_remaining g.R.Read.remaining c.args.reader.now in
    let rest = reader_remaining g.R.Read.remaining c.go_on.new.reader in
    let old = g.W.Write.contents c.args.writer.now in
    let mid = g.W.Write.contents c.go_on.new.writer in
    let new = g.W.Write.contents c.hand_on.new.writer in
    let a = stand_of c.args.port.now in
    let b = stand_of c.go_on.new.port in
    let p = err_from_is_err_and c.from_residual-in_err-hand_on.result c.from_residual-in_err-hand_on.ensures.1 in
    behind_stops c.args.standing a b input rest old new c.from_residual-in_err-hand_on.result p.0 p.1
    (goes_unheard c.args.standing c.in_ok-in_order.in_order a b input rest old mid new c.in_ok-in_order.ensures c.hand_on.ensures.kept)
