use Rattle.std.proofs.Common.{refl, inl}
use Rattle.command_lines.proofs.Targets.{names_some, named_nodes}
use Rattle.command_lines.proofs.grammar.with_four.Goals as goal

pub del_lock-requires : goal.del_lock-requires
del_lock-requires c =
    names_some c.args.last.now c.in_ok-holder-in-del_lock.named c.in_ok-holder-in-del_lock.ensures.3

pub returns-in_err-del_lock-in-del_lock-clause-memory : goal.returns-in_err-del_lock-in-del_lock-clause-memory
returns-in_err-del_lock-in-del_lock-clause-memory c = λ _.
    let v = c.in_ok-holder-in-del_lock in
    let e = v.ensures in
    let n = named_nodes c.args.last.now v.named c.in_err-del_lock-in-del_lock.ensures.memory e.3 in record {
      holder = v.holder;
      resource = v.id.resource;
      requester = v.id.requester;
      names = n.0;
      asks = inl (rw c.in-del_lock.is (inl (tt, inl (_, e.0, (_, e.1, (_, e.2, (_, n.1, refl)))))));
    }
