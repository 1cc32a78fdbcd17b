use Rattle.std.proofs.Common.{◌≡◌, Option, Some, None, length, subst, sym, ap, ◌∙◌, arith, BTreeSet}
use Rattle.registry_model.specs.Process.{Text}
use Rattle.name_table.specs.Index.{Gains}
use Rattle.name_table.proofs.NameSets.{set, gains_first, gains_other, gains_nothing}
use Rattle.name_table.proofs.name_set.NameSet.insert.Goals as goal

pub returns-then-is_empty-clause-ok : goal.returns-then-is_empty-clause-ok
returns-then-is_empty-clause-ok g c =
    let x : Text = c.args.name in
    subst (λ (old : BTreeSet Text). Gains x old (set (Some x) c.self.inside.others)) c.self.view_is
    (no_first c.self.inside.first c.self.inside.others
    (ap (λ (s : BTreeSet Text). length s.keys) c.self.view_is ∙ c.is_empty.ensures.0 c.if-is_empty.true))
  where
    no_first : (o : Option Text) (t : BTreeSet Text) → length (set o t).keys ≡ 0 →
        Gains c.args.name (set o t) (set (Some c.args.name) t)
    no_first None t e = gains_first c.args.name t
    no_first (Some z) t e = absurd (omega (arith, e))

pub returns-in_ok-insert-clause-ok : goal.returns-in_ok-insert-clause-ok
returns-in_ok-insert-clause-ok g c =
    subst (λ (old : BTreeSet Text). Gains c.args.name old (set c.self.inside.first c.insert.new.self)) c.self.view_is
    (gains_other c.args.name c.self.inside.first c.self.inside.others c.insert.new.self c.in_ok-insert.ensures.updates.0)

pub returns-else-not-is_there-clause-ok : goal.returns-else-not-is_there-clause-ok
returns-else-not-is_there-clause-ok g c =
    subst (λ (s : BTreeSet Text). Gains c.args.name s s) c.self.view_is
    (gains_nothing c.args.name c.self.inside.first c.self.inside.others (sym c.is_there.ensures ∙ c.if-not-is_there.false))
