use Rattle.std.proofs.Common.{inr, subst}
use Rattle.std.specs.Prelude.{◌⊎◌}
use Rattle.std.specs.Io.KnownBytes.{Keeps}
use Rattle.std.proofs.KnownBytes.{Keeps-refl}
use Rattle.std.proofs.lemmas.Result.{err_from_is_err_and}
use Rattle.node_port.specs.Deeds.{Stand}
use Rattle.node_port.specs.Working.{stand_of, PrintsLine, PrintsPart}
use Rattle.node_port.proofs.Beginnings.{before_fits}
use Rattle.node_port.proofs.Opening.{plain_stops, plain_stand}
use Rattle.node_port.proofs.running.open_plainly.Goals as goal

pub open-requires-clause-fit : goal.open-requires-clause-fit
open-requires-clause-fit g c = rw c.before-2.ensures (before_fits c.args.node.now c.args.names.now c.requires.known)

pub returns-in-Ok-clause-opened : goal.returns-in-Ok-clause-opened
returns-in-Ok-clause-opened g c = λ bytes k.
    let old = g.W.Write.contents c.args.writer.now in
    let new = g.W.Write.contents c.play_line.new.writer in
    subst (λ (x : Stand). PrintsLine bytes c.in-Ok.standing x (stand_of c.play_line.new.port) old new)
    (plain_stand c.args.node.now c.args.names.now c.before-2.result (stand_of c.in_ok-port.port) c.before-2.ensures c.in_ok-port.ensures.opened)
    (c.in-Ok.ensures.played bytes k)

pub returns-in-Err-clause-opened : goal.returns-in-Err-clause-opened
returns-in-Err-clause-opened g c = λ bytes k.
    let old = g.W.Write.contents c.args.writer.now in
    let new = g.W.Write.contents c.play_line.new.writer in
    subst (λ (x : Stand). PrintsPart bytes x old new ⊎ Keeps old new)
    (plain_stand c.args.node.now c.args.names.now c.before-2.result (stand_of c.in_ok-port.port) c.before-2.ensures c.in_ok-port.ensures.opened)
    (c.in-Err.ensures.played bytes k)

pub returns-in_err-port-clause-opened : goal.returns-in_err-port-clause-opened
returns-in_err-port-clause-opened g c = λ bytes k.
    let old = g.W.Write.contents c.args.writer.now in
    let p = err_from_is_err_and c.from_residual.result c.from_residual.ensures.1 in
    plain_stops c.args.node.now c.args.names.now old old c.from_residual.result bytes p.0 p.1 (inr (Keeps-refl old))
