use Rattle.std.proofs.Common.{◌≡◌, false, sym, subst}
use Rattle.registry_model.specs.Process.{Process}
use Rattle.protocol_model.specs.Watch.{is_dead}
use Rattle.exit_watch.proofs.Exits.{alive}
use Rattle.exit_watch.proofs.watch.Watch.exit.Goals as goal

pub bury-requires : goal.bury-requires
bury-requires c =
    subst (λ (p : Process). is_dead c.args.self.now.watch p.serial ≡ false) (sym c.process.view_is)
    (alive c.args.self.now c.args.process.now c.in-None.ensures.cause)
