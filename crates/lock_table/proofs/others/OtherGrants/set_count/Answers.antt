use Rattle.std.proofs.Common.{List, Option, refl, sym, subst, ap, ◌∙◌}
use Rattle.std.specs.Prelude.{IsSome}
use Rattle.std.specs.Map.{set_value}
use Rattle.std.specs.Option.{option_copied_mut}
use Rattle.std.proofs.lemmas.Option.{same_Some}
use Rattle.lock_table.specs.declared.grant.Held.{Held}
use Rattle.lock_table.specs.Filed.{Entry, is_key}
use Rattle.lock_table.specs.Kept.{IsKept}
use Rattle.lock_table.proofs.Keeping.{kept-recount}
use Rattle.lock_table.proofs.others.OtherGrants.set_count.Goals as goal

pub invariant_of-self : goal.invariant_of-self
invariant_of-self c =
    subst (λ (es : List Entry). IsKept es c.self.inside.by_holder.entries c.self.inside.shared.entries)
    (sym (ap (λ m. m.entries) c.get_mut.follows.holds-at-none)) c.self.invariant

pub invariant_of-self-2 : goal.invariant_of-self-2
invariant_of-self-2 c =
    let v = c.in-Some.held.now in
    let holds = c.get_mut.follows.holds (record v { count = c.args.count }) in
    kept-recount c.self.inside.grants.entries c.self.inside.by_holder.entries c.self.inside.shared.entries c.self.invariant
    c.args.key.now v c.args.count (sym c.in-Some.ensures.value) _ holds.0
    (holds.3 (subst (λ (o : Option Held). IsSome o) c.in-Some.ensures.value refl)).0

pub returns : goal.returns
returns c =
    let v = c.in-Some.held.now in
    let holds = c.get_mut.follows.holds (record v { count = c.args.count }) in
    rw (← c.self.view_is) (
      λ none. absurd (cc (none, c.in-Some.ensures.value)),
      λ w found.
          holds.0
          ∙ ap (λ (h : Held). set_value (is_key c.args.key.now) c.self.inside.grants.entries (record h { count = c.args.count }))
          (same_Some v w (c.in-Some.ensures.value ∙ found)),
    )

pub returns-in_default : goal.returns-in_default
returns-in_default c =
    rw (← c.self.view_is) (
      λ none. ap (λ m. m.entries) c.get_mut.follows.holds-at-none,
      λ v found. absurd (cc (found, sym (ap option_copied_mut c.in_default.is) ∙ c.get_mut.ensures.value)),
    )
