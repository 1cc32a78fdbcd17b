use Rattle.std.proofs.Common.{◌==◌, ◌||◌, Bool, Option, Some, None, false, sym, refl, ap, ◌∙◌, nat_cmp, BTreeSet}
use Rattle.std.specs.Prelude.{not, ◌&&◌}
use Rattle.std.specs.BTreeSet.{contains}
use Rattle.std.proofs.lemmas.Bool.{eq-eqb}
use Rattle.std.proofs.lemmas.Option.{IfSome_then}
use Rattle.registry_model.specs.Process.{Text}
use Rattle.name_table.proofs.NameSets.{set, loses_first, loses_other}
use Rattle.name_table.proofs.name_set.NameSet.pop.Goals as goal

pub returns-in-Some-clause-others : goal.returns-in-Some-clause-others
returns-in-Some-clause-others g c =
    let x : Text = c.in-Some.first in
    let others : BTreeSet Text = c.self.inside.others in
    λ y. ap (λ (o : Option Text). contains nat_cmp (set o c.remove.new.self) y) c.take.ensures.after
    ∙ loses_first x (Some x) others c.remove.new.self (ap (λ (b : Bool). b || false) (eq-eqb x x refl))
    c.remove.ensures.updates.0 y
    ∙ ap (λ (o : Option Text). not (x == y) && contains nat_cmp (set o others) y) (sym c.in-Some.is ∙ c.take.ensures.value)
    ∙ ap (λ (s : BTreeSet Text). not (x == y) && contains nat_cmp s y) c.self.view_is

pub returns-in-None-clause-others : goal.returns-in-None-clause-others
returns-in-None-clause-others g c =
    let others : BTreeSet Text = c.self.inside.others in
    IfSome_then c.pop_first.result c.pop_first.ensures.updates
    (λ x u y. ap (λ (o : Option Text). contains nat_cmp (set o c.pop_first.new.self) y) c.take.ensures.after
    ∙ loses_other x None others c.pop_first.new.self refl u.0 y
    ∙ ap (λ (o : Option Text). not (x == y) && contains nat_cmp (set o others) y) (sym c.in-None.is ∙ c.take.ensures.value)
    ∙ ap (λ (s : BTreeSet Text). not (x == y) && contains nat_cmp s y) c.self.view_is)
