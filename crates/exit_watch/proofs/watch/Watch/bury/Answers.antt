use Rattle.std.proofs.Common.{ℕ, List, [], ◌∷◌, ◌++◌, ◌≡◌, ◌∙◌, nat_cmp, refl, sym, ap, subst}
use Rattle.std.specs.BTreeMap.{is_at}
use Rattle.std.specs.Set.{remove_key}
use Rattle.std.proofs.Math.Path.{ap₂}
use Rattle.protocol_model.specs.Watch.{Watch, with_dead}
use Rattle.exit_watch.specs.WatchState.{WatchState, AreDead, KeepsSuspects, is_suspect}
use Rattle.exit_watch.proofs.Keys.{any-at}
use Rattle.exit_watch.proofs.Sets.{taken_again}
use Rattle.exit_watch.proofs.Suspects.{IsNoted, inserted, unsuspected, died-keeps, died-dead}
use Rattle.exit_watch.proofs.watch.Watch.bury.Goals as goal
use Rattle.exit_watch.proofs.watch.Watch.bury.Goals.{In_default, After-remove}

abbrev later : In_default → WatchState
later c = record {
  node = c.self.inside.node;
  watch = record { last_serial = c.self.inside.last_serial; dead = c.insert-2.new.self };
  suspects = c.insert.new.self.keys;
}

noted : (c : In_default) → IsNoted c.args.self.now (later c) c.args.serial
noted c =
    inserted c.args.self.now (later c) c.args.serial c.self.inside.suspects c.insert.new.self
    (ap (λ (v : WatchState). v.suspects) (sym c.self.view_is)) refl (ap (λ (v : WatchState). v.node) c.self.view_is)
    c.in_ok-insert.ensures.updates.0

watched : (c : In_default) → (later c).watch ≡ with_dead c.args.serial c.args.self.now.watch
watched c =
    ap₂ (λ (l : ℕ) (ds : List ℕ). let w : Watch = record { last_serial = l; dead = ds } in w)
    (ap (λ (v : WatchState). v.watch.last_serial) c.self.view_is)
    (c.in_default.ensures.ok ∙ ap (λ (v : WatchState). v.watch.dead ++ c.args.serial ∷ []) c.self.view_is)

-- where the death can't be noted
abbrev left : After-remove → WatchState
left c = record {
  node = c.self.inside.node;
  watch = record { last_serial = c.self.inside.last_serial; dead = c.insert-2.new.self };
  suspects = c.remove.new.self.keys;
}

undone : (c : After-remove) → left c ≡ c.args.self.now
undone c =
    let s = c.args.serial in
    let ks = c.self.inside.suspects.keys in
    let none = any-at ks s ∙ ap (λ (v : WatchState). is_suspect v s) c.self.view_is
    ∙ unsuspected c.args.self.now s (subst AreDead c.self.view_is c.self.invariant) c.requires in
    let suspects = c.remove.ensures.keys ∙ ap (remove_key (is_at (nat_cmp s))) c.in_ok-insert.ensures.keys
    ∙ taken_again ks s none in
    let held : List ℕ → List ℕ → WatchState = λ ds ss. record {
      node = c.self.inside.node;
      watch = record { last_serial = c.self.inside.last_serial; dead = ds };
      suspects = ss;
    } in
    ap₂ held c.in-Err.ensures.err suspects ∙ c.self.view_is

pub invariant_of-self-in-Err : goal.invariant_of-self-in-Err
invariant_of-self-in-Err c = subst AreDead (c.self.view_is ∙ sym (undone c)) c.self.invariant

pub returns-in-Err-clause-suspected : goal.returns-in-Err-clause-suspected
returns-in-Err-clause-suspected c =
    subst (λ (h : WatchState). KeepsSuspects c.args.self.now h) (sym (undone c)) (λ t suspected. suspected)

pub returns-in-Err-clause-unchanged : goal.returns-in-Err-clause-unchanged
returns-in-Err-clause-unchanged c = undone c

pub invariant_of-self-in_default : goal.invariant_of-self-in_default
invariant_of-self-in_default c =
    died-dead c.args.self.now (later c) c.args.serial (noted c) (watched c)
    (subst AreDead c.self.view_is c.self.invariant)

pub returns-clause-suspected : goal.returns-clause-suspected
returns-clause-suspected c = died-keeps c.args.self.now (later c) c.args.serial (noted c) (watched c)
