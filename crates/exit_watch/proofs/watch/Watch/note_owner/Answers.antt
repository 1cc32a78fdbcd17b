use Rattle.std.proofs.Common.{Bool, ◌≡◌, ◌==◌, ◌∙◌, false, true, refl, sym, ap, subst}
use Rattle.std.specs.Prelude.{◌&&◌}
use Rattle.std.proofs.Math.Path.{ap₂}
use Rattle.registry_model.specs.Process.{Process}
use Rattle.protocol_model.specs.Watch.{is_dead}
use Rattle.exit_watch.specs.WatchState.{WatchState, AreDead}
use Rattle.exit_watch.proofs.Suspects.{IsNoted, inserted, noted-keeps, noted-dead, noted-put, put-keeps}
use Rattle.exit_watch.proofs.watch.Watch.note_owner.Goals as goal
use Rattle.exit_watch.proofs.watch.Watch.note_owner.Goals.{else-eq-via-then-eq+else-is_dead, else-eq-via-else-eq}

left : (a b : Bool) → a ≡ false → (a && b) ≡ false
left a b e = rw e refl

right : (a b : Bool) → b ≡ false → (a && b) ≡ false
right true b e = e
right false b e = refl

abbrev later : goal.In_ok-insert → WatchState
later c = record {
  node = c.self.inside.node;
  watch = record { last_serial = c.self.inside.last_serial; dead = c.self.inside.dead };
  suspects = c.insert.new.self.keys;
}

noted : (c : goal.In_ok-insert) → IsNoted c.args.self.now (later c) c.owner.inside.serial
noted c =
    inserted c.args.self.now (later c) c.owner.inside.serial c.self.inside.suspects c.insert.new.self
    (ap (λ (v : WatchState). v.suspects) (sym c.self.view_is)) refl (ap (λ (v : WatchState). v.node) c.self.view_is)
    c.in_ok-insert.ensures.updates.0

pub invariant_of-self-then-is_dead : goal.invariant_of-self-then-is_dead
invariant_of-self-then-is_dead c =
    noted-dead c.args.self.now (later c) c.owner.inside.serial (noted c) (ap (λ (v : WatchState). v.watch) c.self.view_is)
    (sym c.is_dead.ensures ∙ c.if-is_dead.true) (subst AreDead c.self.view_is c.self.invariant)

pub returns-else-eq-clause-ok : goal.returns-else-eq-clause-ok
returns-else-eq-clause-ok c = put-keeps c.args.self.now c.args.owner.now other
  where
    other : ((c.args.owner.now.node == c.args.self.now.node)
        && is_dead c.args.self.now.watch c.args.owner.now.serial) ≡ false
    other = elim c.else-eq.branch [
      | else-eq-via-then-eq+else-is_dead w ↦ right _ _
          (ap (λ (p : Process). is_dead c.args.self.now.watch p.serial) (sym c.owner.view_is)
          ∙ sym w.is_dead.ensures ∙ w.if-is_dead.false)
      | else-eq-via-else-eq w ↦ left _ _
          (ap₂ (λ (p : Process) (h : WatchState). p.node == h.node) (sym c.owner.view_is) (sym c.self.view_is)
          ∙ sym c.eq.ensures ∙ w.if-eq.false)
    ]

pub returns-in_ok-insert-clause-ok : goal.returns-in_ok-insert-clause-ok
returns-in_ok-insert-clause-ok c =
    noted-put c.args.self.now (later c) c.owner.inside.serial (noted c) (ap (λ (v : WatchState). v.watch) c.self.view_is)
    c.args.owner.now (ap (λ (p : Process). p.serial) (sym c.owner.view_is))

pub returns-in_ok-insert-clause-suspected : goal.returns-in_ok-insert-clause-suspected
returns-in_ok-insert-clause-suspected c =
    noted-keeps c.args.self.now (later c) c.owner.inside.serial (noted c) (ap (λ (v : WatchState). v.watch) c.self.view_is)
