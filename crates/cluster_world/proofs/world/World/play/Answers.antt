use Rattle.std.proofs.Common.{[], ◌∷◌, refl, subst}
use Rattle.std.proofs.lemmas.Result.{err_from_is_err_and}
use Rattle.world_events.specs.declared.events.WorldEvent.{WorldEvent}
use Rattle.cluster_world.specs.Playing.{Played}
use Rattle.cluster_world.specs.Restarting.{EntersRestart}
use Rattle.cluster_world.proofs.Agreeing.{agrees_played, agrees_unchanged}
use Rattle.cluster_world.proofs.Locks.{locks_behind}
use Rattle.cluster_world.proofs.Leftovers.{leaves_nothing}
use Rattle.cluster_world.proofs.world.World.play.Goals as goal

pub returns-in_err-admission-clause-still_agrees : goal.returns-in_err-admission-clause-still_agrees
returns-in_err-admission-clause-still_agrees g c =
    let p = err_from_is_err_and c.from_residual.result c.from_residual.ensures.1 in
    rw p.1 (agrees_unchanged c.args.self.now c.args.self.now (record { names = refl; cluster = refl }) refl)

pub returns-in_err-admission-clause-still_locks : goal.returns-in_err-admission-clause-still_locks
returns-in_err-admission-clause-still_locks g c =
    let p = err_from_is_err_and c.from_residual.result c.from_residual.ensures.1 in
    rw p.1 (locks_behind [] [] c.args.self.now c.args.self.now
    (agrees_unchanged c.args.self.now c.args.self.now (record { names = refl; cluster = refl }) refl))

pub returns-in_err-admission-clause-still_leaves_nothing : goal.returns-in_err-admission-clause-still_leaves_nothing
returns-in_err-admission-clause-still_leaves_nothing g c =
    let p = err_from_is_err_and c.from_residual.result c.from_residual.ensures.1 in
    rw p.1 (leaves_nothing [] [] c.args.self.now c.args.self.now
    (agrees_unchanged c.args.self.now c.args.self.now (record { names = refl; cluster = refl }) refl))

pub returns-in_err-accept-clause-still_agrees : goal.returns-in_err-accept-clause-still_agrees
returns-in_err-accept-clause-still_agrees g c =
    let p = err_from_is_err_and c.from_residual-in_err-accept.result c.from_residual-in_err-accept.ensures.1 in
    rw p.1 (agrees_unchanged c.args.self.now c.accept.new.self c.accept.ensures.kept
    c.in_err-accept.ensures.as_before)

pub returns-in_err-accept-clause-still_locks : goal.returns-in_err-accept-clause-still_locks
returns-in_err-accept-clause-still_locks g c =
    let p = err_from_is_err_and c.from_residual-in_err-accept.result c.from_residual-in_err-accept.ensures.1 in
    rw p.1 (locks_behind [] [] c.args.self.now c.accept.new.self
    (agrees_unchanged c.args.self.now c.accept.new.self c.accept.ensures.kept c.in_err-accept.ensures.as_before))

pub returns-in_err-accept-clause-still_leaves_nothing : goal.returns-in_err-accept-clause-still_leaves_nothing
returns-in_err-accept-clause-still_leaves_nothing g c =
    let p = err_from_is_err_and c.from_residual-in_err-accept.result c.from_residual-in_err-accept.ensures.1 in
    rw p.1 (leaves_nothing [] [] c.args.self.now c.accept.new.self
    (agrees_unchanged c.args.self.now c.accept.new.self c.accept.ensures.kept c.in_err-accept.ensures.as_before))

pub returns-clause-ok : goal.returns-clause-ok
returns-clause-ok g c =
    subst (λ (e : WorldEvent). Played e c.args.self.now c.accept.new.self [] c.in_ok-accept.field-0.items)
    c.in_ok-admission.ensures.event c.in_ok-accept.ensures.ok

pub returns-clause-entered : goal.returns-clause-entered
returns-clause-entered g c =
    subst (λ (e : WorldEvent). EntersRestart e c.args.self.now c.accept.new.self) c.in_ok-admission.ensures.event
    c.in_ok-accept.ensures.entered

pub returns-clause-agrees : goal.returns-clause-agrees
returns-clause-agrees g c =
    agrees_played c.args.event.now c.args.self.now c.accept.new.self c.in_ok-accept.field-0.items
    (returns-clause-ok g c)

pub returns-clause-locks : goal.returns-clause-locks
returns-clause-locks g c =
    locks_behind (c.args.event.now ∷ []) c.in_ok-accept.field-0.items c.args.self.now c.accept.new.self
    (returns-clause-agrees g c)

pub returns-clause-leaves_nothing : goal.returns-clause-leaves_nothing
returns-clause-leaves_nothing g c =
    leaves_nothing (c.args.event.now ∷ []) c.in_ok-accept.field-0.items c.args.self.now c.accept.new.self
    (returns-clause-agrees g c)
