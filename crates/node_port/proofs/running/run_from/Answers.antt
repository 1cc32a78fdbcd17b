use Rattle.std.proofs.Common.{inl, refl}
use Rattle.std.proofs.lemmas.Result.{err_from_is_err_and}
use Rattle.std.specs.Io.Buffered.{reader_remaining}
use Rattle.node_port.specs.Working.{stand_of}
use Rattle.node_port.proofs.Opening.{from_opened, from_stopped}
use Rattle.node_port.proofs.running.run_from.Goals as goal

pub returns : goal.returns
returns g c = λ bytes k.
    from_opened c.args.node.now c.args.names.now bytes (reader_remaining g.R.Read.remaining c.args.reader.now)
    (reader_remaining g.R.Read.remaining c.run_on-in_order.new.reader) (g.W.Write.contents c.args.writer.now) (g.W.Write.contents c.run_on-in_order.new.writer)
    c.in_ok-port.standing (stand_of c.in_ok-port.port) (stand_of c.run_on-in_order.new.port) (g.W.Write.contents c.open_by.new.writer) c.run_on-in_order.result
    (c.in_ok-port.ensures.opened bytes k) c.run_on-in_order.ensures

pub returns-in_err-port : goal.returns-in_err-port
returns-in_err-port g c = λ bytes k.
    let input = reader_remaining g.R.Read.remaining c.args.reader.now in
    let p = err_from_is_err_and c.from_residual.result c.from_residual.ensures.1 in
    let stopped = c.in_err-port.ensures.opened bytes k in
    from_stopped c.args.node.now c.args.names.now bytes input input (g.W.Write.contents c.args.writer.now) (g.W.Write.contents c.open_by.new.writer)
    c.from_residual.result p.0 p.1 (inl (refl, stopped.0, stopped.1))
