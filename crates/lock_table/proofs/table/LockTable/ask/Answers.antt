use Rattle.std.proofs.Common.{◌∙◌, sym, ap, arith, Option}
use Rattle.std.proofs.lemmas.Result.{err_from_is_err_and}
use Rattle.protocol_model.specs.Letter.{Id}
use Rattle.lock_table.specs.Verdicts.{verdict_of}
use Rattle.lock_table.proofs.Asking.{absent_under, asked-first, asked-full, asked-more, at_most, clear_first, filed-more, free-first, free-held, is_first, refused_other, verdict-full}
use Rattle.lock_table.proofs.table.LockTable.ask.Goals as goal
use Rattle.lock_table.proofs.table.LockTable.ask.Goals.{in-Some-get+else-count, in-None+in_ok-file-in-None}

pub returns-in-Some-clause-verdict : goal.returns-in-Some-clause-verdict
returns-in-Some-clause-verdict c =
    rw (← c.self.view_is)
    (refused_other c.self.inside.next c.self.inside.grants c.self.invariant c.args.id c.args.holder c.in-Some.other
    c.in-Some.ensures.some).0

pub returns-in-Some-clause-table : goal.returns-in-Some-clause-table
returns-in-Some-clause-table c =
    rw (← c.self.view_is)
    (refused_other c.self.inside.next c.self.inside.grants c.self.invariant c.args.id c.args.holder c.in-Some.other
    c.in-Some.ensures.some).1

pub returns-then-count-clause-verdict : goal.returns-then-count-clause-verdict
returns-then-count-clause-verdict c =
    rw (← c.self.view_is)
    (verdict-full c.self.inside.next c.self.inside.grants c.self.invariant c.args.id c.args.holder
    c.in_default.ensures.none c.of-key.result c.of-key.ensures c.in-Some-get.held.now c.in-Some-get.ensures.value
    c.if-count.true)

pub returns-then-count-clause-table : goal.returns-then-count-clause-table
returns-then-count-clause-table c =
    rw (← c.self.view_is)
    (asked-full c.self.inside.next c.self.inside.grants c.self.invariant c.args.id c.args.holder
    c.in_default.ensures.none c.of-key.result c.of-key.ensures c.in-Some-get.held.now c.in-Some-get.ensures.value
    c.if-count.true)

pub overflow_add-count : goal.overflow_add-count
overflow_add-count c =
    let most = at_most c.self.inside.next c.self.inside.grants c.self.invariant c.args.id c.args.holder
    c.in_default.ensures.none c.of-key.result c.of-key.ensures c.in-Some-get.held.now c.in-Some-get.ensures.value in
    omega (arith, most, c.if-count.false)

pub invariant_of-self : goal.invariant_of-self
invariant_of-self c =
    let most = at_most c.self.inside.next c.self.inside.grants c.self.invariant c.args.id c.args.holder
    c.in_default.ensures.none c.of-key.result c.of-key.ensures c.in-Some-get.held.now c.in-Some-get.ensures.value in
    filed-more c.self.inside.next c.self.inside.grants c.self.invariant c.args.id c.args.holder
    c.in_default.ensures.none c.of-key.result c.of-key.ensures c.in-Some-get.held.now c.in-Some-get.ensures.value
    (omega (arith, most, c.if-count.false)) c.set_count.new.self c.set_count.ensures

pub file-requires-clause-absent : goal.file-requires-clause-absent
file-requires-clause-absent c =
    rw (← c.self.view_is)
    (absent_under c.self.inside.next c.self.inside.grants c.self.invariant c.args.id c.args.holder
    c.in_default.ensures.none c.of-key.result c.of-key.ensures c.in-None.ensures.value)

pub file-requires-clause-free : goal.file-requires-clause-free
file-requires-clause-free c =
    rw (← c.self.view_is)
    (clear_first c.self.inside.next c.self.inside.grants c.self.invariant c.args.id c.args.holder
    c.in_default.ensures.none c.of-key.result c.of-key.ensures c.in-None.ensures.value)

pub returns-in_err-file-in-None-clause-err : goal.returns-in_err-file-in-None-clause-err
returns-in_err-file-in-None-clause-err c =
    rw (err_from_is_err_and c.from_residual.result c.from_residual.ensures.1).1
    (rw (← c.self.view_is)
    (is_first c.self.inside.next c.self.inside.grants c.self.invariant c.args.id c.args.holder
    c.in_default.ensures.none c.of-key.result c.of-key.ensures c.in-None.ensures.value))

pub returns-clause-verdict : goal.returns-clause-verdict
returns-clause-verdict c =
    rw (← c.self.view_is)
    (elim c.match-get.branch [
      | in-Some-get+else-count w ↦
          let most = at_most c.self.inside.next c.self.inside.grants c.self.invariant c.args.id c.args.holder
          c.in_default.ensures.none c.of-key.result c.of-key.ensures w.in-Some-get.held.now w.in-Some-get.ensures.value in
          ap (λ (o : Option Id). verdict_of o)
          (sym (free-held c.self.inside.next c.self.inside.grants c.self.invariant c.args.id c.args.holder
          c.in_default.ensures.none c.of-key.result c.of-key.ensures w.in-Some-get.held.now
          w.in-Some-get.ensures.value (omega (arith, most, w.if-count.false))))
      | in-None+in_ok-file-in-None w ↦
          ap (λ (o : Option Id). verdict_of o)
          (sym (free-first c.self.inside.next c.self.inside.grants c.self.invariant c.args.id c.args.holder
          c.in_default.ensures.none c.of-key.result c.of-key.ensures w.in-None.ensures.value))
    ])

pub returns-clause-table : goal.returns-clause-table
returns-clause-table c =
    rw (← c.self.view_is)
    (elim c.match-get.branch [
      | in-Some-get+else-count w ↦
          let most = at_most c.self.inside.next c.self.inside.grants c.self.invariant c.args.id c.args.holder
          c.in_default.ensures.none c.of-key.result c.of-key.ensures w.in-Some-get.held.now w.in-Some-get.ensures.value in
          w.self-is
          ∙ asked-more c.self.inside.next c.self.inside.grants c.self.invariant c.args.id c.args.holder
          c.in_default.ensures.none c.of-key.result c.of-key.ensures w.in-Some-get.held.now
          w.in-Some-get.ensures.value (omega (arith, most, w.if-count.false)) w.set_count.new.self w.set_count.ensures
      | in-None+in_ok-file-in-None w ↦
          w.self-is ∙ w.in_ok-file-in-None.ensures.ok
          ∙ rw (← c.self.view_is)
          (sym (asked-first c.self.inside.next c.self.inside.grants c.self.invariant c.args.id c.args.holder
          c.in_default.ensures.none c.of-key.result c.of-key.ensures w.in-None.ensures.value))
    ])
