use Rattle.std.proofs.Common.{◌∙◌, sym, ap}
use Rattle.lock_table.specs.declared.grant.Key.{Key}
use Rattle.lock_table.proofs.Beside.{kept_held}
use Rattle.lock_table.proofs.Changes.{same_process}
use Rattle.lock_table.proofs.grants.AllGrants.first_of.Goals as goal

pub returns-in-Some-clause-some : goal.returns-in-Some-clause-some
returns-in-Some-clause-some c = (
  rw (← c.self.view_is)
      (kept_held c.self.inside.kept c.self.inside.others c.in-Some.grant c.in-Some.is c.copy.result c.copy.ensures),
  ap (λ (k : Key). k.holder) c.copy.ensures ∙ same_process _ _ (sym c.eq.ensures ∙ c.if-eq.true),
)
