use Rattle.std.proofs.Common.{Option, Some, ◌∙◌, sym, subst}
use Rattle.std.proofs.lemmas.Option.{IfSome_then}
use Rattle.lock_table.specs.declared.grant.KeptGrant.{KeptGrant}
use Rattle.lock_table.specs.Grants.{HasUnder, IsOpenTo, and_others}
use Rattle.lock_table.proofs.Facts.{on_none}
use Rattle.lock_table.proofs.Beside.{has_in_place, has_others, open_beside, open_in_place}
use Rattle.lock_table.proofs.grants.AllGrants.other_requester.Goals as goal
use Rattle.lock_table.proofs.grants.AllGrants.other_requester.Goals.{in_default-via-in-Some+else-eq, in_default-via-in_default}

pub returns-in-Some-clause-some : goal.returns-in-Some-clause-some
returns-in-Some-clause-some c =
    let g = c.in-Some.grant in
    let r = c.args.resource.now in
    rw (← c.self.view_is)
    (IfSome_then c.other_requester.result c.other_requester.ensures.some
    (λ other h. (
      subst (λ (o : Option KeptGrant). HasUnder r (and_others o c.self.inside.others) other) (sym c.in-Some.is)
          (subst (HasUnder r (and_others (Some g) c.self.inside.others)) (sym h.0)
          (has_in_place g c.self.inside.others r (sym c.eq.ensures ∙ c.if-eq.true))),
      h.1,
    )))

pub returns-in-Some-clause-none : goal.returns-in-Some-clause-none
returns-in-Some-clause-none c =
    let r = c.args.resource.now in
    let q = c.args.requester.now in
    rw (← c.self.view_is)
    (on_none c.other_requester.result c.other_requester.ensures.none
    (λ own. subst (λ (o : Option KeptGrant). IsOpenTo r (and_others o c.self.inside.others) q) (sym c.in-Some.is)
    (open_in_place c.in-Some.grant c.self.inside.others r q (sym c.eq.ensures ∙ c.if-eq.true) own)))

pub returns-in_default-2-clause-some : goal.returns-in_default-2-clause-some
returns-in_default-2-clause-some c =
    rw (← c.self.view_is)
    (IfSome_then c.other_requester-in_default-2.result c.other_requester-in_default-2.ensures.some
    (λ other h. (has_others c.self.inside.kept c.self.inside.others c.args.resource.now other h.0, h.1)))

pub returns-in_default-2-clause-none : goal.returns-in_default-2-clause-none
returns-in_default-2-clause-none c =
    let r = c.args.resource.now in
    let q = c.args.requester.now in
    rw (← c.self.view_is)
    (on_none c.other_requester-in_default-2.result c.other_requester-in_default-2.ensures.none
    (λ may. elim c.in_default.branch [
      | in_default-via-in-Some+else-eq w ↦
          subst (λ (o : Option KeptGrant). IsOpenTo r (and_others o c.self.inside.others) q) (sym w.in-Some.is)
          (open_beside w.in-Some.grant c.self.inside.others r q (sym w.eq.ensures ∙ w.if-eq.false) may)
      | in_default-via-in_default w ↦
          subst (λ (o : Option KeptGrant). IsOpenTo r (and_others o c.self.inside.others) q) (sym w.in_default.is) may
    ]))
