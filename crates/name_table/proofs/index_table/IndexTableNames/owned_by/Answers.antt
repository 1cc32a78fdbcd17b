use Rattle.std.proofs.Common.{true≢false, ap, sym, ◌∙◌, Some, Option}
use Rattle.std.specs.Prelude.{is_some}
use Rattle.registry_model.specs.Process.{Text}
use Rattle.name_table.specs.Owners.{name_of}
use Rattle.name_table.proofs.Least.{name_of-unlisted, name_of-listed}
use Rattle.name_table.proofs.Owners.{is_some-name_of}
use Rattle.name_table.proofs.index_table.IndexTableNames.owned_by.Goals as goal

pub returns-in_err-names-clause-least : goal.returns-in_err-names-clause-least
returns-in_err-names-clause-least g c =
    c.from_residual.ensures
    ∙ sym (name_of-unlisted c.self.inside.owners.entries c.self.inside.owned.entries c.args.owner.now c.self.invariant
    (sym c.in_err-names.ensures.value))
    ∙ ap (name_of c.args.owner.now) c.self.view_is

pub returns-in_err-names-clause-some : goal.returns-in_err-names-clause-some
returns-in_err-names-clause-some g c =
    ap (λ (o : Option Text). is_some o) (returns-in_err-names-clause-least g c)
    ∙ is_some-name_of c.args.owner.now c.args.self.now

pub returns-in_err-least-clause-least : goal.returns-in_err-least-clause-least
returns-in_err-least-clause-least g c =
    absurd (true≢false (sym (c.in_err-least.ensures.variant.1 (c.self.invariant.named c.args.owner.now
    c.in_ok-names.names.now (sym c.in_ok-names.ensures.value)))))

pub returns-in_err-least-clause-some : goal.returns-in_err-least-clause-some
returns-in_err-least-clause-some g c =
    absurd (true≢false (sym (c.in_err-least.ensures.variant.1 (c.self.invariant.named c.args.owner.now
    c.in_ok-names.names.now (sym c.in_ok-names.ensures.value)))))

pub returns-clause-least : goal.returns-clause-least
returns-clause-least g c =
    ap (λ (x : Text). Some x) c.copy.ensures
    ∙ sym (name_of-listed c.self.inside.owners.entries c.self.inside.owned.entries c.args.owner.now c.in_ok-names.names.now
    c.in_ok-least.least.now c.self.invariant (sym c.in_ok-names.ensures.value) c.in_ok-least.ensures.member
    c.in_ok-least.ensures.least)
    ∙ ap (name_of c.args.owner.now) c.self.view_is

pub returns-clause-some : goal.returns-clause-some
returns-clause-some g c =
    ap (λ (o : Option Text). is_some o) (returns-clause-least g c) ∙ is_some-name_of c.args.owner.now c.args.self.now
