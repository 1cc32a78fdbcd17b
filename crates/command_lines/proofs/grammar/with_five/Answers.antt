use Rattle.std.proofs.Common.{◌∷◌, [], ◌∙◌, Err, refl, ap, inl, inr}
use Rattle.std.proofs.lemmas.Result.{err_from_is_err_and}
use Rattle.transaction.specs.Calls.{retries_of}
use Rattle.command_lines.specs.declared.faults.LineFault.{LineFault}
use Rattle.command_lines.specs.Commands.{asked_by}
use Rattle.command_lines.specs.Grammar.{Pid, Resource, Requester, Nodes, Retries}
use Rattle.command_lines.proofs.Refused.{refused_before}
use Rattle.command_lines.proofs.Targets.{names_some, named_nodes}
use Rattle.command_lines.proofs.grammar.with_five.Goals as goal

pub set_lock-requires : goal.set_lock-requires
set_lock-requires c =
    names_some c.args.nodes.now c.in_ok-holder-in-set_lock.named c.in_ok-holder-in-set_lock.ensures.3

pub returns-in_err-holder-in-set_lock-clause-asks : goal.returns-in_err-holder-in-set_lock-clause-asks
returns-in_err-holder-in-set_lock-clause-asks c = λ _.
    let p = err_from_is_err_and c.from_residual.result c.from_residual.ensures.1 in
    let fault = c.in_err-holder-in-set_lock.field-0.0 in
    let refused = refused_before (Pid ∷ Resource ∷ Requester ∷ Nodes ∷ []) (Retries ∷ [])
    (c.args.holder.now ∷ c.args.resource.now ∷ c.args.requester.now ∷ c.args.nodes.now ∷ [])
    (c.args.retries.now ∷ []) fault c.in_err-holder-in-set_lock.ensures in
    rw c.in-set_lock.is
    (inl (
      ((_, c.in-Some.ensures), tt),
      inr (fault, refused, ap asked_by (p.1 ∙ ap (λ (f : LineFault). Err f) p.2)),
    ))

pub returns-in_err-set_lock-in-set_lock-clause-memory : goal.returns-in_err-set_lock-in-set_lock-clause-memory
returns-in_err-set_lock-in-set_lock-clause-memory c = λ _.
    let v = c.in_ok-holder-in-set_lock in
    let e = v.ensures in
    let n = named_nodes c.args.nodes.now v.named c.in_err-set_lock-in-set_lock.ensures.memory e.3 in record {
      holder = v.holder;
      resource = v.id.resource;
      requester = v.id.requester;
      names = n.0;
      asks = inr (
        retries_of c.in-Some.retries,
        rw c.in-set_lock.is (inl (
          ((_, c.in-Some.ensures), tt),
          inl (_, e.0, (_, e.1, (_, e.2, (_, n.1, (_, c.in-Some.ensures, refl))))),
        )),
      );
    }
