use Rattle.std.proofs.Common.{ℕ, Some, ◌∙◌, sym, ap}
use Rattle.std.proofs.Math.Path.{ap₂}
use Rattle.std.specs.Option.{option_map}
use Rattle.registry_model.specs.Process.{Process}
use Rattle.registry_model.specs.Table.{owns}
use Rattle.protocol_model.specs.Watch.{Watch, is_dead, owed}
use Rattle.exit_watch.specs.WatchState.{WatchState, process_of, is_suspect}
use Rattle.exit_watch.proofs.Keys.{any-at}
use Rattle.exit_watch.proofs.Sets.{any-empty, not_greater}
use Rattle.exit_watch.proofs.Suspects.{owed-first, owed-none}
use Rattle.exit_watch.proofs.watch.Watch.owes.Goals as goal

pub returns-then-is_some-clause-owed : goal.returns-then-is_some-clause-owed
returns-then-is_some-clause-owed g c =
    let t = g.N.Names.contents c.args.names.now in
    let a = c.args.self.now in
    let h = c.loop-serial.self in
    let s = c.in-Some.serial.now in
    let keys = c.self.inside.suspects.keys in
    let at = c.loop-serial.invariant in
    let suspect = sym (any-at keys s) ∙ c.in-Some.ensures.member in
    let dead = ap (λ (k : WatchState). is_dead k.watch s) (sym c.self.view_is) ∙ c.self.invariant s suspect in
    let owner = ap (λ (p : Process). owns p t) (sym c.process-process.ensures) ∙ sym c.owned_by.ensures.some
    ∙ sym c.is_some.ensures ∙ c.if-is_some.true in
    let first = owed-first h t s at.suspected dead owner
    (λ r e. not_greater s r (c.in-Some.ensures.least r
    (any-at keys r ∙ ap (λ (k : WatchState). is_suspect k r) c.self.view_is ∙ e))) in
    ap Some (c.process-process.ensures ∙ ap (λ (n : ℕ). let p : Process = record { node = n; serial = s } in p) at.node)
    ∙ ap (option_map (process_of a)) (sym first ∙ ap₂ (λ (n : ℕ) (w : Watch). owed n t w) at.node at.watch)

pub returns-clause-owed : goal.returns-clause-owed
returns-clause-owed g c =
    let t = g.N.Names.contents c.args.names.now in
    let h = c.loop-serial.self in
    let keys = c.self.inside.suspects.keys in
    let at = c.loop-serial.invariant in
    let none = owed-none h t at.suspected
    (λ r e. any-empty keys r (λ l. let k = c.in_default.ensures.variant.1 l in cc)
    (ap (λ (k : WatchState). is_suspect k r) c.self.view_is ∙ e)) in
    ap (option_map (process_of c.args.self.now)) (sym none ∙ ap₂ (λ (n : ℕ) (w : Watch). owed n t w) at.node at.watch)
