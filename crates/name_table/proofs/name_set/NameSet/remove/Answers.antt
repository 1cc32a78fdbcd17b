use Rattle.std.proofs.Common.{◌≡◌, ◌==◌, Option, sym, ap, ◌∙◌, nat_cmp, BTreeSet, false}
use Rattle.std.specs.Prelude.{if◌then◌else◌, not, ◌&&◌}
use Rattle.std.specs.BTreeMap.{is_at}
use Rattle.std.specs.BTreeSet.{contains}
use Rattle.registry_model.specs.Process.{Text}
use Rattle.name_table.proofs.NameSets.{set, loses_first, loses_other}
use Rattle.name_table.proofs.name_set.NameSet.remove.Goals.{then-is_there, else-is_there}
use Rattle.name_table.proofs.name_set.NameSet.remove.Goals as goal

pub returns : goal.returns
returns g c =
    let x : Text = c.args.name.now in
    let later : BTreeSet Text = c.remove.new.self in
    let first : Option Text = c.self.inside.first in
    let others : BTreeSet Text = c.self.inside.others in
    let lost = λ (e : c.if-is_there.self-inside.others ≡ others) (q : Text). c.remove.ensures.updates.0 q
    ∙ ap (λ (s : BTreeSet Text). if is_at (nat_cmp x) q then false else contains nat_cmp s q) e in
    elim c.if-is_there.branch [
      | then-is_there w ↦ λ y. ap (λ (o : Option Text). contains nat_cmp (set o later) y) (ap (λ i. i.first) w.self-inside-is)
          ∙ loses_first x first others later (sym c.is_there.ensures ∙ w.if-is_there.true)
          (lost (ap (λ i. i.others) w.self-inside-is)) y
          ∙ ap (λ (s : BTreeSet Text). not (x == y) && contains nat_cmp s y) c.self.view_is
      | else-is_there w ↦ λ y. ap (λ (o : Option Text). contains nat_cmp (set o later) y) (ap (λ i. i.first) w.self-inside-is)
          ∙ loses_other x first others later (sym c.is_there.ensures ∙ w.if-is_there.false)
          (lost (ap (λ i. i.others) w.self-inside-is)) y
          ∙ ap (λ (s : BTreeSet Text). not (x == y) && contains nat_cmp s y) c.self.view_is
    ]
