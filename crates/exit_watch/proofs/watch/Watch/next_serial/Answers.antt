use Rattle.std.proofs.Common.{◌<◌, ◌≤◌, ◌+◌, ◌∙◌, sym, ap, arith, inl, inr}
use Rattle.std.proofs.lemmas.Bool.{cases_eq}
use Rattle.protocol_model.specs.Watch.{is_dead}
use Rattle.exit_watch.specs.WatchState.{WatchState}
use Rattle.protocol_model.proofs.Serials.{AreDeadTo}
use Rattle.exit_watch.proofs.Serials.{serial_left-some, serial_left-none}
use Rattle.exit_watch.proofs.watch.Watch.next_serial.Goals as goal

pub returns-in_err-first : goal.returns-in_err-first
returns-in_err-first c =
    let last = ap (λ (h : WatchState). h.watch.last_serial) c.self.view_is in
    let w = c.args.self.now.watch in
    let over : 4294967295 < w.last_serial + 1 = omega (arith, last, c.in_err-first.ensures) in
    c.from_residual.ensures
    ∙ sym (serial_left-none w (w.last_serial + 1) (omega arith) over (λ j l u. absurd (omega arith)))

pub returns-then-not-is_dead : goal.returns-then-not-is_dead
returns-then-not-is_dead c =
    let last = ap (λ (h : WatchState). h.watch.last_serial) c.self.view_is in
    let w = c.args.self.now.watch in
    sym (serial_left-some w c.loop-serial.serial
    (omega (arith, last, c.in_ok-first.ensures, c.loop-serial.auto.serial)) c.loop-serial-test.true
    c.loop-serial.invariant (sym c.is_dead.ensures ∙ c.if-not-is_dead.true))

pub returns-else-not-is_dead : goal.returns-else-not-is_dead
returns-else-not-is_dead c =
    let last = ap (λ (h : WatchState). h.watch.last_serial) c.self.view_is in
    let w = c.args.self.now.watch in
    let at = c.loop-serial.serial in
    let top : 4294967295 ≤ at = omega arith in
    let dead : AreDeadTo w (w.last_serial + 1) (at + 1) =
    λ j l u. elim (cases_eq j at) [
      | inl i ↦ ap (is_dead w) i ∙ sym c.is_dead.ensures ∙ c.if-not-is_dead.false
      | inr ne ↦ c.loop-serial.invariant j l (omega arith)
    ] in
    sym (serial_left-none w (at + 1)
    (omega (arith, last, c.in_ok-first.ensures, c.loop-serial.auto.serial)) (omega arith) dead)
